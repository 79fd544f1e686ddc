use Rattle.std.proofs.Common.{◌≡◌, chars, option_map, IfOk, subst}
use Rattle.std.proofs.lemmas.Option.{MatchOption-at_some, MatchOption-at_none}
use Rattle.token_grammar.specs.Read.{found_of}
use Rattle.token_grammar.specs.References.{after_number_sign, numeric}
use Rattle.token_grammar.proofs.NumberLemmas.{after_x}
use Rattle.token_grammar.proofs.references.numeric.Goals as goal

pub returns-in-Some-clause-value : goal.returns-in-Some-clause-value
returns-in-Some-clause-value c =
    subst (λ f. IfOk c.number.result (λ found. option_map found_of found ≡ f))
    (MatchOption-at_some (numeric 10 (chars c.args.text.now) ≡ after_number_sign (chars c.args.text.now))
    (λ x. numeric 16 (chars x.now) ≡ after_number_sign (chars c.args.text.now)) c.in-Some.rest c.in-Some.is
    (after_x (chars c.args.text.now) c.trailing.result c.trailing-2.result c.or.result c.trailing.ensures.value
    c.trailing-2.ensures.value c.or.ensures))
    c.number.ensures.value

pub returns-in-None-clause-value : goal.returns-in-None-clause-value
returns-in-None-clause-value c =
    subst (λ f. IfOk c.number-in-None.result (λ found. option_map found_of found ≡ f))
    (MatchOption-at_none (numeric 10 (chars c.args.text.now) ≡ after_number_sign (chars c.args.text.now))
    (λ x. numeric 16 (chars x.now) ≡ after_number_sign (chars c.args.text.now)) c.in-None.is
    (after_x (chars c.args.text.now) c.trailing.result c.trailing-2.result c.or.result c.trailing.ensures.value
    c.trailing-2.ensures.value c.or.ensures))
    c.number-in-None.ensures.value
