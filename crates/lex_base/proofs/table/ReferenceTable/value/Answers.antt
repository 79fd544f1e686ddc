use Rattle.std.proofs.Common.{Some, chars, string_bytes, sym, ap, ◌∙◌}
use Rattle.lex_base.proofs.TableSearch.{value_found, value_missed}
use Rattle.lex_base.proofs.table.ReferenceTable.value.Goals as goal

pub returns-in-Ok : goal.returns-in-Ok
returns-in-Ok c =
    ap (λ v. Some (chars v)) (c.as_str.ensures.value ∙ ap (λ r. string_bytes r.value) c.index.ensures)
    ∙ sym (value_found c.as_slice.result.now c.self.inside.references.items c.args.self.now
    (chars c.args.name.now) c.as_slice.ensures.value c.self.view_is c.self.invariant.order c.in-Ok.at
    c.index.result.now (c.in-Ok.ensures.bound, c.in-Ok.ensures.position))

pub returns-in-Err : goal.returns-in-Err
returns-in-Err c =
    sym (value_missed c.as_slice.result.now c.self.inside.references.items c.args.self.now
    (chars c.args.name.now) c.as_slice.ensures.value c.self.view_is c.self.invariant.order c.in-Err.field-0
    (c.in-Err.ensures.bound, c.in-Err.ensures.position))
