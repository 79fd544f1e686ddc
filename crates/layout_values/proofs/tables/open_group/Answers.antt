use Rattle.std.proofs.Common.{◌≡◌, Err, ap, arith, ◌∙◌}
use Rattle.std.proofs.lemmas.Result.{err_from_is_err_and}
use Rattle.text_pieces.specs.declared.fault.BlockError.TheVariants.{TooNarrow}
use Rattle.layout_values.specs.Seen.{WorksOutside, maybe}
use Rattle.layout_values.proofs.TableOpenLemmas.{some_all, some_few}
use Rattle.layout_values.proofs.tables.open_group.Goals as goal

pub returns-clause-opened : goal.returns-clause-opened
returns-clause-opened g c = λ nodes. record {
  items = maybe c.in_ok-look.look;
  pushed = c.in_ok-push_some.ensures;
  works = some_all WorksOutside c.in_ok-look.look c.in_ok-look.ensures.ready;
  few = omega (arith, some_few c.in_ok-look.look);
  opens = λ tag p w inside. c.in_ok-begin_group.ensures.begun _ inside
      ∙ c.in_ok-look.ensures.opened tag p nodes w inside;
}

pub returns-in_err-look-clause-narrow : goal.returns-in_err-look-clause-narrow
returns-in_err-look-clause-narrow g c = λ e. λ tag p inside.
    let q = err_from_is_err_and c.from_residual-in_err-look.result c.from_residual-in_err-look.ensures.1 in
    let same : c.in_err-look.field-0.0 ≡ TooNarrow = cc (q.1, q.2, e) in
    c.in_ok-begin_group.ensures.begun _ inside ∙ c.in_err-look.ensures.narrow (ap Err same) tag p inside
