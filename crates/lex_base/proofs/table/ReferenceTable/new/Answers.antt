use Rattle.std.proofs.Common.{◌≡◌, inl, inr, arith, sym, subst, Err, ◌⊎◌, map}
use Rattle.lex_base.specs.References.{table_of_pairs}
use Rattle.lex_base.specs.Table.{pair_of}
use Rattle.lex_base.specs.declared.table_error.TableError.{TableError}
use Rattle.lex_base.specs.declared.table_error.TableError.TheVariants.{Memory}
use Rattle.lex_base.proofs.PairsRead.{none_read, next_read, next_faulty, ends_read, if_err}
use Rattle.lex_base.proofs.table.ReferenceTable.new.Goals as goal

pub loop-name-init : goal.loop-name-init
loop-name-init c = none_read c.empty-table.result c.empty-table.ensures

pub loop-name-preserved : goal.loop-name-preserved
loop-name-preserved c =
    next_read c.args.pairs.now c.loop-name.name-index c.loop-name.table c.loop-name.invariant _ c.insert.new.self
    c.loop-name-test.true c.in_ok-check.ensures.ok c.in_ok-insert.ensures.ok

pub returns-in_err-check-clause-err : goal.returns-in_err-check-clause-err
returns-in_err-check-clause-err c =
    let P : TableError → Type 0 = λ e. (e ≡ Memory) ⊎ (table_of_pairs (map pair_of c.args.pairs.now) ≡ Err e) in
    let at : P c.in_err-check.field-0.0 = elim c.in_err-check.ensures.err [
      | inl memory ↦ inl memory
      | inr fault ↦
          inr (next_faulty c.args.pairs.now c.loop-name.name-index c.loop-name.table c.loop-name.invariant _
          c.in_err-check.field-0.0 c.loop-name-test.true fault)
    ] in
    if_err _ P c.from_residual.result c.from_residual.ensures.1 (λ e same. subst P (sym same) at)

pub returns-clause-ok : goal.returns-clause-ok
returns-clause-ok c =
    ends_read c.args.pairs.now c.loop-name.name-index c.loop-name.table c.loop-name.invariant (omega arith)
