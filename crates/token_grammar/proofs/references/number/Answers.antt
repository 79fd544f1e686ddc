use Rattle.std.proofs.Common.{ℕ, List, ◌++◌, encode_utf8, ap, ◌∙◌}
use Rattle.token_grammar.specs.Classes.{is_of}
use Rattle.token_grammar.proofs.MarkLemmas.{chars-encode}
use Rattle.token_grammar.proofs.NumberLemmas.{digits_pass, no_digits, some_digits}
use Rattle.token_grammar.proofs.references.number.Goals as goal

pub returns-then-is_empty-clause-value : goal.returns-then-is_empty-clause-value
returns-then-is_empty-clause-value c =
    no_digits c.args.base (is_of c.args.class) c.args.text.now c.split_while.result.0.now c.requires.digits
    c.split_while.ensures.front c.is_empty.result c.is_empty.ensures c.if-is_empty.true

pub number_of-requires-clause-digits : goal.number_of-requires-clause-digits
number_of-requires-clause-digits c =
    digits_pass c.args.base (is_of c.args.class) c.args.text.now c.split_while.result.0.now c.requires.digits
    c.split_while.ensures.front

pub returns-clause-value : goal.returns-clause-value
returns-clause-value c =
    some_digits c.args.base (is_of c.args.class) c.args.text.now c.split_while.result.0.now c.requires.digits
    c.split_while.ensures.front c.is_empty.result c.is_some.result
    c.split_while.result.1 c.unwrap_or.result c.trailing-end.result c.from.result _ c.numbered.result c.number_of.result
    c.split_while.ensures.front_utf8 c.is_empty.ensures c.if-is_empty.false
    c.split_while.ensures.rest c.trailing-end.ensures.value c.is_some.ensures c.unwrap_or.ensures c.from.ensures
    (c.in_ok-push.ensures.bytes ∙ ap (λ (l : List ℕ). l
    ++ encode_utf8 c.numbered.result) c.new-characters.ensures.bytes)
    (chars-encode c.numbered.result c.numbered.ensures.scalar) c.numbered.ensures.value c.number_of.ensures
