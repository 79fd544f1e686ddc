use Rattle.std.proofs.Common.{Some, rules}
use Rattle.rules_actions.specs.Parsed.{parsed}
use Rattle.rules_rest.proofs.FramesetLemmas.{is_opened_below, outermost_is_closed}
use Rattle.rules_rest.proofs.framesets.close_frameset.Goals as goal

pub elem_name-requires : goal.elem_name-requires
elem_name-requires g c =
    let tree = g.S.TreeSink in
    let s = parsed tree.view c.args.page.now.kept c.args.page.now.tree.held
    c.args.page.now.tree.sink in
    c.open_elements_are_elements.ensures _ s c.requires.ready
    (is_opened_below tree.view.number (Some c.in-Some.outer) s.tree.stack c.in-Some.ensures)

pub returns : goal.returns
returns g c =
    let tree = g.S.TreeSink in
    let s = parsed tree.view c.args.page.now.kept c.args.page.now.tree.held
    c.args.page.now.tree.sink in
    let popped = parsed tree.view c.pop-2.new.self.kept c.pop-2.new.self.tree.held
    c.pop-2.new.self.tree.sink in
    let gone = parsed tree.view c.go_to.new.self.kept c.go_to.new.self.tree.held
    c.go_to.new.self.tree.sink in
    record {
      came = outermost_is_closed tree.view.handle s.tree.stack s popped gone (tree.view.number c.in-Some.outer)
          c.in-Some.ensures (search rules) (search rules) c.in_ok-pop-3.ensures.seen c.go_to.ensures.seen;
      ready = c.go_to.ensures.ready;
      memory = tt;
    }
