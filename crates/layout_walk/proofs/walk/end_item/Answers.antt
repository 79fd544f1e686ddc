use Rattle.std.proofs.Common.{◌≡◌, Err, ap, chars, refl, string_bytes}
use Rattle.std.proofs.lemmas.Result.{err_from_is_err_and}
use Rattle.text_pieces.specs.declared.fault.BlockError.TheVariants.{TooNarrow}
use Rattle.block_renderer.specs.Seen.{marking, sub_of}
use Rattle.layout_state.specs.LayoutState.{goes_on, part_ended}
use Rattle.layout_state.proofs.StepLemmas.{turn_off, turn_on}
use Rattle.layout_values.specs.Seen.{open_item_of}
use Rattle.layout_values.proofs.OpenLemmas.{part_by, unboxed}
use Rattle.layout_values.proofs.ValueLemmas.{any_sizing}
use Rattle.layout_walk.proofs.walk.end_item.Goals as goal

pub returns-clause-done : goal.returns-clause-done
returns-clause-done g c = λ tag p.
    unboxed (marking g.D.TextDecorator.view tag) any_sizing
    (open_item_of g.D.Annotation.EqualCopy.seen g.D.TextDecorator.view.held) c.args.item.value
    c.into_inner-outer.result _ _ c.into_inner-outer.ensures
    (turn_on (part_ended (marking g.D.TextDecorator.view tag)
    (sub_of g.D.Annotation.EqualCopy.seen g.D.TextDecorator.view.held c.into_inner-outer.result.outer)
    (chars (string_bytes c.into_inner-outer.result.first)) (chars (string_bytes c.into_inner-outer.result.following)))
    (goes_on c.into_inner-outer.result.around) _ _ _
    (part_by (marking g.D.TextDecorator.view tag) _ _ _ _ _ _ _ c.as_str.ensures.value c.as_str-2.ensures.value
    (c.in_ok-end_part.ensures.done tag p)) refl)

pub returns-in_err-end_part-clause-narrow : goal.returns-in_err-end_part-clause-narrow
returns-in_err-end_part-clause-narrow g c = λ e. λ tag p.
    let q = err_from_is_err_and c.from_residual.result c.from_residual.ensures.1 in
    let same : c.in_err-end_part.field-0.0 ≡ TooNarrow = cc (q.1, q.2, e) in
    unboxed (marking g.D.TextDecorator.view tag) any_sizing
    (open_item_of g.D.Annotation.EqualCopy.seen g.D.TextDecorator.view.held) c.args.item.value
    c.into_inner-outer.result _ _ c.into_inner-outer.ensures
    (turn_off (part_ended (marking g.D.TextDecorator.view tag)
    (sub_of g.D.Annotation.EqualCopy.seen g.D.TextDecorator.view.held c.into_inner-outer.result.outer)
    (chars (string_bytes c.into_inner-outer.result.first)) (chars (string_bytes c.into_inner-outer.result.following)))
    (goes_on c.into_inner-outer.result.around) _
    (part_by (marking g.D.TextDecorator.view tag) _ _ _ _ _ _ _ c.as_str.ensures.value c.as_str-2.ensures.value
    (c.in_err-end_part.ensures.narrow (ap Err same) tag p)))
