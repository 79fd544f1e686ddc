use Rattle.std.proofs.Common.{◌≡◌, chars, option_map, IfOk, subst}
use Rattle.token_grammar.specs.Read.{found_of}
use Rattle.token_grammar.proofs.ValueLemmas.{sign_in_text, name_in_text}
use Rattle.token_grammar.proofs.references.reference.Goals as goal

pub returns-in-Some-clause-value : goal.returns-in-Some-clause-value
returns-in-Some-clause-value c =
    subst (λ f. IfOk c.numeric.result (λ found. option_map found_of found ≡ f))
    (sign_in_text c.args.table.now (chars c.args.text.now) (chars c.in-Some.rest.now) c.in-Some.ensures.value)
    c.numeric.ensures.value

pub returns-in-None-clause-value : goal.returns-in-None-clause-value
returns-in-None-clause-value c =
    subst (λ f. IfOk c.named.result (λ found. option_map found_of found ≡ f))
    (name_in_text c.args.table.now (chars c.args.text.now) c.in-None.ensures.value) c.named.ensures.value
