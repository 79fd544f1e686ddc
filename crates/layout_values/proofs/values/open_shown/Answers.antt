use Rattle.std.proofs.Common.{◌≡◌, [], ◌∷◌, Err, Some, ap, arith, sym, ◌∙◌}
use Rattle.std.proofs.lemmas.Result.{err_from_is_err_and}
use Rattle.std.proofs.lemmas.List.Elements.{All-cons}
use Rattle.std.specs.Option.{option_and_then}
use Rattle.text_pieces.specs.declared.fault.BlockError.TheVariants.{TooNarrow}
use Rattle.block_renderer.specs.Seen.{marking}
use Rattle.layout_state.specs.Seen.{laying_of}
use Rattle.layout_tables.specs.Seen.{all_fits_seen, fits_at}
use Rattle.layout_values.specs.Seen.{WorksOutside, all_waiting, content_seen, maybe}
use Rattle.layout_values.specs.Continuation.{unwound, value_ends}
use Rattle.layout_values.specs.declared.waiting.Continuation.TheVariants.{ValueEnds}
use Rattle.layout_values.proofs.OpenLemmas.{shown_alone, shown_opens}
use Rattle.layout_values.proofs.ValueLemmas.{any_sizing, maybe_all, maybe_few, no_begin, no_follow, no_hold, no_lead}
use Rattle.layout_values.proofs.ValueLemmas.{two_on}
use Rattle.layout_values.proofs.values.open_shown.Goals as goal

pub returns-clause-opened : goal.returns-clause-opened
returns-clause-opened g c = λ nodes here. record {
  items = ValueEnds c.args.at ∷ maybe c.in_ok-part.part;
  pushed = two_on _ _ _ _ _ c.in_ok-push.ensures.items c.in_ok-push_some.ensures;
  works = All-cons WorksOutside _ _ tt (maybe_all WorksOutside c.in_ok-part.part c.in_ok-part.ensures.ready);
  few = omega (arith, maybe_few c.in_ok-part.part);
  opens = λ tag p w inside. shown_opens _ w c.args.head.now (content_seen c.args.content
      (fits_at (all_fits_seen c.args.fits.now) c.args.at)) inside _ _ _ _ _ _
      c.in_ok-part.entered c.if-not-entered.false (c.in_ok-lead.ensures.done tag p) (c.in_ok-begin.ensures.done tag p)
      (c.in_ok-part.ensures.opened tag p nodes w) (c.in_ok-follow.ensures.done tag p)
      ∙ ap (λ i. option_and_then (unwound (marking g.D.TextDecorator.view tag) w (value_ends i ∷ all_waiting
      g.D.Annotation.EqualCopy.seen
      g.D.TextDecorator.view.held nodes
      (maybe c.in_ok-part.part))) (inside (laying_of g.D.Annotation.EqualCopy.seen g.D.TextDecorator.view.held
      c.follow.new.self))) (sym here);
}

pub returns-then-not-entered-clause-opened : goal.returns-then-not-entered-clause-opened
returns-then-not-entered-clause-opened g c = λ nodes here. record {
  items = ValueEnds c.args.at ∷ maybe c.in_ok-part.part;
  pushed = two_on _ _ _ _ _ c.in_ok-push.ensures.items c.in_ok-push_some.ensures;
  works = All-cons WorksOutside _ _ tt (maybe_all WorksOutside c.in_ok-part.part c.in_ok-part.ensures.ready);
  few = omega (arith, maybe_few c.in_ok-part.part);
  opens = λ tag p w inside. shown_alone _ w c.args.head.now (content_seen c.args.content
      (fits_at (all_fits_seen c.args.fits.now) c.args.at)) inside _ _ _ _ _
      c.in_ok-part.entered c.if-not-entered.true (c.in_ok-lead.ensures.done tag p) (c.in_ok-begin.ensures.done tag p)
      (c.in_ok-part.ensures.opened tag p nodes w)
      ∙ ap (λ i. option_and_then (unwound (marking g.D.TextDecorator.view tag) w (value_ends i ∷ all_waiting
      g.D.Annotation.EqualCopy.seen g.D.TextDecorator.view.held nodes
      (maybe c.in_ok-part.part))) (Some (laying_of g.D.Annotation.EqualCopy.seen g.D.TextDecorator.view.held
      c.hold.new.laying))) (sym here);
}

pub returns-in_err-follow-clause-narrow : goal.returns-in_err-follow-clause-narrow
returns-in_err-follow-clause-narrow g c = λ e. λ tag p inside.
    let q = err_from_is_err_and c.from_residual-in_err-follow.result c.from_residual-in_err-follow.ensures.1 in
    let same : c.in_err-follow.field-0.0 ≡ TooNarrow = cc (q.1, q.2, e) in
    no_follow _ any_sizing c.args.head.now (content_seen c.args.content
    (fits_at (all_fits_seen c.args.fits.now) c.args.at))
    inside _ _ _ _ _ c.in_ok-part.entered c.if-not-entered.false (c.in_ok-lead.ensures.done tag p)
    (c.in_ok-begin.ensures.done tag p) (c.in_ok-part.ensures.opened tag p [] any_sizing)
    (c.in_err-follow.ensures.narrow (ap Err same) tag p)

pub returns-in_err-lead-clause-narrow : goal.returns-in_err-lead-clause-narrow
returns-in_err-lead-clause-narrow g c = λ e. λ tag p inside.
    let q = err_from_is_err_and c.from_residual.result c.from_residual.ensures.1 in
    let same : c.in_err-lead.field-0.0 ≡ TooNarrow = cc (q.1, q.2, e) in
    no_lead _ c.args.head.now (content_seen c.args.content
    (fits_at (all_fits_seen c.args.fits.now) c.args.at)) inside _ (c.in_err-lead.ensures.narrow (ap Err same) tag p)

pub returns-in_err-begin-clause-narrow : goal.returns-in_err-begin-clause-narrow
returns-in_err-begin-clause-narrow g c = λ e. λ tag p inside.
    let q = err_from_is_err_and c.from_residual-in_err-begin.result c.from_residual-in_err-begin.ensures.1 in
    let same : c.in_err-begin.field-0.0 ≡ TooNarrow = cc (q.1, q.2, e) in
    no_begin _ c.args.head.now (content_seen c.args.content
    (fits_at (all_fits_seen c.args.fits.now) c.args.at)) inside _ _ (c.in_ok-lead.ensures.done tag p)
    (c.in_err-begin.ensures.narrow (ap Err same) tag p)

pub returns-in_err-part-clause-narrow : goal.returns-in_err-part-clause-narrow
returns-in_err-part-clause-narrow g c = λ e. λ tag p inside.
    let q = err_from_is_err_and c.from_residual-in_err-part.result c.from_residual-in_err-part.ensures.1 in
    let same : c.in_err-part.field-0.0 ≡ TooNarrow = cc (q.1, q.2, e) in
    no_hold _ c.args.head.now (content_seen c.args.content
    (fits_at (all_fits_seen c.args.fits.now) c.args.at)) inside _ _ _ (c.in_ok-lead.ensures.done tag p)
    (c.in_ok-begin.ensures.done tag p) (c.in_err-part.ensures.narrow (ap Err same) tag p _)
