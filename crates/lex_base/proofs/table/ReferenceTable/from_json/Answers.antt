use Rattle.std.proofs.Common.{◌∙◌, sym, ap, string_bytes, chars}
use Rattle.std.proofs.lemmas.Map.Iter.{rest_more, rest_all}
use Rattle.std.proofs.lemmas.Result.{err_from_is_err_and}
use Rattle.std.specs.FinMap as finite
use Rattle.std.specs.Map.Iter.{deref_pair}
use Rattle.serde_json.specs.View.{view, members_view}
use Rattle.lex_base.specs.Json.{references_in, table_of_json}
use Rattle.lex_base.proofs.JsonLemmas.{emitted_name, emitted_value, filled, filled-member, next_member}
use Rattle.lex_base.proofs.JsonLemmas.{table_of_members}
use Rattle.lex_base.proofs.table.ReferenceTable.from_json.Goals as goal

pub members-init : goal.members-init
members-init c =
    ap (λ s. filled c.empty-table.result (references_in (members_view s)))
    c.into_iter-key-iterator.ensures.into_iter_gives.0
    ∙ ap (λ t. filled t (references_in (members_view c.in-Some.members.now.entries))) c.empty-table.ensures
    ∙ table_of_members c.args.text.now (view c.in_ok-json.json)
    (members_view c.in-Some.members.now.entries) c.in_ok-json.ensures.ok c.in-Some.ensures

pub returns-in_err-name-clause-err : goal.returns-in_err-name-clause-err
returns-in_err-name-clause-err c =
    let more =
    rest_more deref_pair c.members.key-iterator c.next.new.self c.next.result (
      c.in-Some-2.key,
      c.in-Some-2.value,
    ) c.in-Some-2.is c.next.ensures.steps in
    let next =
    next_member c.members.table c.members.key-iterator c.next.new.self c.in-Some-2.key.now c.in-Some-2.value.now
    c.as_str-key.result.now (table_of_json c.args.text.now) more c.as_str-key.ensures.value c.members.invariant
    in
    let p = err_from_is_err_and c.from_residual-in_err-name.result c.from_residual-in_err-name.ensures.1 in
    rw p.1 (emitted_name c.members.table c.as_str-key.result.now (view c.in-Some-2.value.now)
    (members_view c.next.new.self) (table_of_json c.args.text.now) c.in_err-name.field-0.0 p.0 next
    c.in_err-name.ensures.err p.2)

pub returns-in_err-value-clause-err : goal.returns-in_err-value-clause-err
returns-in_err-value-clause-err c =
    let more =
    rest_more deref_pair c.members.key-iterator c.next.new.self c.next.result (
      c.in-Some-2.key,
      c.in-Some-2.value,
    ) c.in-Some-2.is c.next.ensures.steps in
    let next =
    next_member c.members.table c.members.key-iterator c.next.new.self c.in-Some-2.key.now c.in-Some-2.value.now
    c.as_str-key.result.now (table_of_json c.args.text.now) more c.as_str-key.ensures.value c.members.invariant
    in
    let p = err_from_is_err_and c.from_residual-in_err-value.result c.from_residual-in_err-value.ensures.1 in
    rw p.1 (emitted_value c.members.table c.as_str-key.result.now (chars c.in_ok-name.name.now)
    (view c.in-Some-2.value.now) (members_view c.next.new.self)
    (table_of_json c.args.text.now) c.in_err-value.field-0.0 p.0 next c.in_ok-name.ensures.ok
    c.in_err-value.ensures.err p.2)

pub members-preserved : goal.members-preserved
members-preserved c =
    let more =
    rest_more deref_pair c.members.key-iterator c.next.new.self c.next.result (
      c.in-Some-2.key,
      c.in-Some-2.value,
    ) c.in-Some-2.is c.next.ensures.steps in
    let next =
    next_member c.members.table c.members.key-iterator c.next.new.self c.in-Some-2.key.now c.in-Some-2.value.now
    c.as_str-key.result.now (table_of_json c.args.text.now) more c.as_str-key.ensures.value c.members.invariant
    in
    ap (λ t. filled t (references_in (members_view c.next.new.self)))
    (c.in_ok-insert.ensures.ok ∙
    ap (λ bytes. finite.insert c.members.table (chars c.in_ok-name.name.now) (chars bytes)) c.as_str.ensures.value)
    ∙ sym (filled-member c.members.table c.as_str-key.result.now (chars c.in_ok-name.name.now)
    (chars (string_bytes c.in_ok-value.value)) (view c.in-Some-2.value.now)
    (members_view c.next.new.self) c.in_ok-name.ensures.ok c.in_ok-value.ensures.ok)
    ∙ next

pub returns-clause-ok : goal.returns-clause-ok
returns-clause-ok c =
    let none =
    rest_all deref_pair c.members.key-iterator c.next.new.self c.next.result c.in-None.is c.next.ensures.steps
    in
    sym c.members.invariant ∙ ap (λ s. filled c.members.table (references_in (members_view s))) none
