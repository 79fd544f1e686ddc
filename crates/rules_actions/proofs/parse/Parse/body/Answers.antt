use Rattle.rules_actions.specs.Parsed.{parsed}
use Rattle.rules_actions.proofs.parse.Parse.body.Goals as goal

pub elem_name-requires : goal.elem_name-requires
elem_name-requires g c =
    c.open_elements_are_elements.ensures _ (parsed g.S.TreeSink.view
    c.args.self.now.kept c.args.self.now.tree.held c.args.self.now.tree.sink) c.requires c.in_ok-second.ensures.there
