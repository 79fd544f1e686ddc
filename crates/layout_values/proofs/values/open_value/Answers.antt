use Rattle.std.proofs.Common.{◌≡◌, ◌++◌, Err, ap, arith, sym, ◌∙◌}
use Rattle.std.proofs.lemmas.Result.{err_from_is_err_and}
use Rattle.text_pieces.specs.declared.fault.BlockError.TheVariants.{TooNarrow}
use Rattle.block_renderer.specs.Seen.{marking}
use Rattle.layout_state.proofs.CallLemmas.{if_ok_by}
use Rattle.layout_values.specs.Lay.{laid_outside}
use Rattle.layout_tables.specs.Seen.{all_fits_seen, fits_at}
use Rattle.layout_values.specs.Seen.{content_seen}
use Rattle.layout_values.proofs.ValueLemmas.{if_some_at}
use Rattle.layout_values.proofs.values.open_value.Goals as goal

pub returns-in_err-part-clause-narrow : goal.returns-in_err-part-clause-narrow
returns-in_err-part-clause-narrow g c = λ e.
    let q = err_from_is_err_and c.from_residual.result c.from_residual.ensures.1 in
    let same : c.in_err-part.field-0.0 ≡ TooNarrow = cc (q.1, q.2, e) in
    c.in_err-part.ensures.narrow (ap Err same) (content_seen c.args.content
    (fits_at (all_fits_seen c.args.fits.now) c.args.at))

pub returns-in-Some-clause-opened : goal.returns-in-Some-clause-opened
returns-in-Some-clause-opened g c = λ nodes here.
    let o = if_some_at _ c.in_ok-part.part c.in-Some.entered c.in-Some.is
    (c.in_ok-part.ensures.opened (content_seen c.args.content
    (fits_at (all_fits_seen c.args.fits.now) c.args.at)) nodes) in
    record { items = o.items; pushed = o.pushed; works = o.works; few = omega (arith, o.few); opens = o.opens }

pub returns-in-None-clause-opened : goal.returns-in-None-clause-opened
returns-in-None-clause-opened g c = λ nodes here.
    let stands = c.in_ok-part.ensures.outside c.in-None.is in
    if_ok_by _ _ c.open_outside.result (λ entered o. record {
      items = o.items;
      pushed = o.pushed ∙ ap (λ v. v ++ o.items) stands.0;
      works = o.works;
      few = o.few;
      opens = λ tag p w inside. stands.1.1 (marking g.D.TextDecorator.view tag) (content_seen c.args.content
          (fits_at (all_fits_seen c.args.fits.now) c.args.at)) inside
          ∙ (ap (laid_outside (marking g.D.TextDecorator.view tag) c.args.head.now (content_seen c.args.content
          (fits_at (all_fits_seen c.args.fits.now) c.args.at)) inside)
          (sym stands.1.0)
          ∙ o.opens tag p w inside);
    }) (c.open_outside.ensures.opened nodes here)

pub returns-in-None-clause-narrow : goal.returns-in-None-clause-narrow
returns-in-None-clause-narrow g c = λ e. λ tag p inside.
    let stands = c.in_ok-part.ensures.outside c.in-None.is in
    stands.1.1 (marking g.D.TextDecorator.view tag) (content_seen c.args.content
    (fits_at (all_fits_seen c.args.fits.now) c.args.at)) inside
    ∙ (ap (laid_outside (marking g.D.TextDecorator.view tag) c.args.head.now (content_seen c.args.content
    (fits_at (all_fits_seen c.args.fits.now) c.args.at)) inside) (sym
    stands.1.0)
    ∙ c.open_outside.ensures.narrow e tag p inside)
