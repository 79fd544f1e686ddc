use Rattle.std.proofs.Common.{◌≡◌, chars, option_map, IfOk, ap, sym, ◌∙◌, subst}
use Rattle.token_grammar.specs.Read.{found_of}
use Rattle.token_grammar.proofs.ValueLemmas.{sign_in_value, no_name_in_value, name_kept, name_left_out}
use Rattle.token_grammar.proofs.references.reference_in_value.Goals as goal

pub returns-in-Some-clause-value : goal.returns-in-Some-clause-value
returns-in-Some-clause-value c =
    subst (λ f. IfOk c.numeric.result (λ found. option_map found_of found ≡ f))
    (sign_in_value c.args.table.now (chars c.args.text.now) (chars c.in-Some.rest.now) c.in-Some.ensures.value)
    c.numeric.ensures.value

pub returns-in_default-2-clause-value : goal.returns-in_default-2-clause-value
returns-in_default-2-clause-value c =
    no_name_in_value c.args.table.now (chars c.args.text.now) c.in_default.ensures.value
    (sym (ap (option_map found_of) c.in_default-2.is) ∙ c.in_ok-found.ensures.value)

pub returns-then-is_kept-clause-value : goal.returns-then-is_kept-clause-value
returns-then-is_kept-clause-value c =
    name_kept c.args.table.now (chars c.args.text.now)
    (found_of c.in-Some-2.found) c.is_kept.result c.in_default.ensures.value
    (sym (ap (option_map found_of) c.in-Some-2.is) ∙ c.in_ok-found.ensures.value)
    c.is_kept.ensures c.if-is_kept.true

pub returns-clause-value : goal.returns-clause-value
returns-clause-value c =
    name_left_out c.args.table.now (chars c.args.text.now)
    (found_of c.in-Some-2.found) c.is_kept.result c.in_default.ensures.value
    (sym (ap (option_map found_of) c.in-Some-2.is) ∙ c.in_ok-found.ensures.value)
    c.is_kept.ensures c.if-is_kept.false
