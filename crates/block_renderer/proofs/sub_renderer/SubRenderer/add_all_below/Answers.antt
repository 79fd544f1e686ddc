use Rattle.std.proofs.Common.{◌∷◌, map, ap, sym, ◌∙◌}
use Rattle.std.proofs.lemmas.Str.{chars-nil}
use Rattle.std.specs.Option.{option_and_then}
use Rattle.std.specs.Vec.Iter.{into_iter_items}
use Rattle.block_trait.specs.Renderers.{append_sub, add_below}
use Rattle.block_renderer.specs.Seen.{sub_of}
use Rattle.block_renderer.proofs.CellLemmas.{begun_below}
use Rattle.block_renderer.proofs.sub_renderer.SubRenderer.add_all_below.Goals as goal

pub loop-cell-init : goal.loop-cell-init
loop-cell-init g c =
    let s = sub_of g.D.Annotation.EqualCopy.seen g.D.TextDecorator.view.held in
    record {
      done = begun_below (s c.in-Some.first) (map s (into_iter_items c.into_iter-cell-iterator.result))
          (map s c.args.cells.items) (s c.args.self.now) (s c.append_sub.new.self)
          (ap (map s) (sym c.into_iter-cells.ensures.rest ∙ c.in-Some.ensures.items
          ∙ ap (λ it. c.in-Some.first ∷ into_iter_items it) (sym c.into_iter-cell-iterator.ensures.into_iter_gives)))
          (ap (λ cs. append_sub (s c.in-Some.first) cs cs (s c.args.self.now)) (sym chars-nil)
          ∙ c.in_ok-append_sub.ensures.done);
      joined = c.append_sub.ensures.joined;
    }

pub loop-cell-preserved : goal.loop-cell-preserved
loop-cell-preserved g c =
    let s = sub_of g.D.Annotation.EqualCopy.seen g.D.TextDecorator.view.held in
    record {
      done = sym (ap (option_and_then (add_below (map s (into_iter_items c.next-in-loop-cell.new.self))))
          c.in_ok-add_one_below.ensures.done)
          ∙ sym (ap (λ cells. add_below (map s cells) (s c.loop-cell.self)) c.in-Some-cell.ensures.steps.0)
          ∙ c.loop-cell.invariant.done;
      joined = λ h. c.add_one_below.ensures.joined (c.loop-cell.invariant.joined h);
    }

pub returns-in_err-add_one_below-clause-joined : goal.returns-in_err-add_one_below-clause-joined
returns-in_err-add_one_below-clause-joined g c = λ h.
    c.add_one_below.ensures.joined (c.loop-cell.invariant.joined h)
