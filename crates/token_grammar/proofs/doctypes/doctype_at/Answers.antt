use Rattle.std.proofs.Common.{◌≡◌, Some, chars, length, sym, ap, ◌∙◌}
use Rattle.std.proofs.lemmas.Bool.{both_ways, eq-eqb, eqb-true}
use Rattle.std.proofs.lemmas.Result.{IfOk-weaker}
use Rattle.token_grammar.specs.Doctypes.{after_keyword, named_doctype}
use Rattle.token_grammar.proofs.DoctypeLemmas.{doctype_at-named, doctype_at-none, no_bytes, no_chars}
use Rattle.token_grammar.proofs.doctypes.doctype_at.Goals as goal

pub returns-then-is_empty-clause-value : goal.returns-then-is_empty-clause-value
returns-then-is_empty-clause-value c =
    let name = c.split_while.result.0.now in
    let none : length (chars name) ≡ 0 =
    ap length (no_chars name (eqb-true (length name) 0 (sym c.is_empty.ensures ∙ c.if-is_empty.true))) in
    c.cut_short.ensures.value ∙ doctype_at-none (chars c.args.text.now)
    (chars name) _ _ c.skip.ensures c.split_while.ensures.front c.split_while.ensures.rest none

pub returns-clause-value : goal.returns-clause-value
returns-clause-value c =
    let name = c.split_while.result.0.now in
    let named = c.in_ok-name_of.field-0 in
    let some : length (chars name) ≡ 0 → ⊥ =
    λ e. both_ways _ c.if-is_empty.false (c.is_empty.ensures ∙ eq-eqb (length name) 0
    (no_bytes name c.split_while.ensures.front_utf8 e)) in
    let whole =
    doctype_at-named (chars c.args.text.now)
    (chars name) _ _ c.skip.ensures c.split_while.ensures.front c.split_while.ensures.rest named some
    c.in_ok-name_of.ensures in
    IfOk-weaker c.after_keyword.result _ _ (λ x p. p ∙
    ap (after_keyword (named_doctype (Some named))) c.skip-2.ensures ∙ whole) c.after_keyword.ensures.value
