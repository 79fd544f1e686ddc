use Rattle.std.proofs.lemmas.Result.{on_ok_weaker}
use Rattle.block_renderer.specs.Seen.{marking}
use Rattle.layout_values.specs.Seen.{open_part_of}
use Rattle.layout_values.proofs.OpenLemmas.{part_by, unboxed}
use Rattle.layout_values.proofs.ValueLemmas.{any_sizing}
use Rattle.layout_walk.proofs.walk.end_part.Goals as goal

pub returns-clause-done : goal.returns-clause-done
returns-clause-done g c = on_ok_weaker c.end_part.result (λ h. λ tag p.
    unboxed (marking g.D.TextDecorator.view tag) any_sizing
    (open_part_of g.D.Annotation.EqualCopy.seen g.D.TextDecorator.view.held) c.args.part.value
    c.into_inner-outer.result _ _ c.into_inner-outer.ensures
    (part_by (marking g.D.TextDecorator.view tag) _ _ _ _ _ _ _ c.as_str.ensures.value c.as_str-2.ensures.value
    (h tag p))) c.end_part.ensures.done

pub returns-clause-narrow : goal.returns-clause-narrow
returns-clause-narrow g c = λ e. λ tag p.
    unboxed (marking g.D.TextDecorator.view tag) any_sizing
    (open_part_of g.D.Annotation.EqualCopy.seen g.D.TextDecorator.view.held) c.args.part.value
    c.into_inner-outer.result _ _ c.into_inner-outer.ensures
    (part_by (marking g.D.TextDecorator.view tag) _ _ _ _ _ _ _ c.as_str.ensures.value c.as_str-2.ensures.value
    (c.end_part.ensures.narrow e tag p))
