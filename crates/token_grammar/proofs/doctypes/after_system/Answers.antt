use Rattle.std.proofs.Common.{◌≡◌, length, sym, ◌∙◌}
use Rattle.std.proofs.lemmas.Bool.{eqb-true, eq-eqb, both_ways}
use Rattle.token_grammar.proofs.DoctypeLemmas.{after_system-end, after_system-more}
use Rattle.token_grammar.proofs.doctypes.after_system.Goals as goal

pub returns-then-is_empty-clause-value : goal.returns-then-is_empty-clause-value
returns-then-is_empty-clause-value c =
    let none : length c.args.text.now ≡ 0 =
    eqb-true (length c.args.text.now) 0 (sym c.is_empty.ensures ∙ c.if-is_empty.true) in
    c.cut_short.ensures.value ∙ after_system-end c.args.doctype c.args.text.now none

pub returns-else-is_empty-clause-value : goal.returns-else-is_empty-clause-value
returns-else-is_empty-clause-value c =
    c.skipped.ensures.value
    ∙ after_system-more c.args.doctype c.args.text.now c.utf8.text
    (λ e. both_ways _ c.if-is_empty.false (c.is_empty.ensures ∙ eq-eqb (length c.args.text.now) 0 e))
