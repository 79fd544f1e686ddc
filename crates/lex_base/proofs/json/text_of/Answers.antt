use Rattle.std.proofs.Common.{◌<◌, ◌∙◌, sym, arith, string_bytes, length}
use Rattle.std.proofs.lemmas.Bool.Decides.{nat_tests}
use Rattle.std.proofs.lemmas.Str.{IsUtf8-string_bytes}
use Rattle.lex_base.proofs.JsonLemmas.{few_values, many_values, no_values, text_and_all, text_and_rest-end}
use Rattle.lex_base.proofs.JsonLemmas.{text_and_rest-more, text_and_rest-none}
use Rattle.lex_base.proofs.json.text_of.Goals as goal
use Rattle.lex_base.proofs.json.text_of.Goals.{then-is_empty-via-else-is_empty+then-numbers-gt2}
use Rattle.lex_base.proofs.json.text_of.Goals.{then-is_empty-via-then-is_empty}

pub returns-then-is_empty : goal.returns-then-is_empty
returns-then-is_empty c = elim c.then-is_empty.branch [
  | then-is_empty-via-then-is_empty w ↦ no_values c.args.numbers.now (grind (arith, nat_tests))
  | then-is_empty-via-else-is_empty+then-numbers-gt2 w ↦ many_values c.args.numbers.now w.if-numbers-gt2.true
]

pub numbers-init : goal.numbers-init
numbers-init c = text_and_all (string_bytes c.new-text.result) c.args.numbers.now c.new-text.ensures.bytes

pub returns-in_default : goal.returns-in_default
returns-in_default c =
    let some : 0 < length c.args.numbers.now = grind (arith, nat_tests) in
    sym (text_and_rest-none (string_bytes c.numbers.text) c.numbers.number-index c.args.numbers.now c.number-item.result
    (search arith) c.number-item.is c.in_default.ensures)
    ∙ sym c.numbers.invariant
    ∙ few_values c.args.numbers.now some c.if-numbers-gt2.false

pub numbers-preserved : goal.numbers-preserved
numbers-preserved c =
    c.numbers.invariant
    ∙ text_and_rest-more (string_bytes c.numbers.text)
    (string_bytes c.push.new.self) c.in-Some.c c.numbers.number-index c.args.numbers.now c.number-item.result
    (IsUtf8-string_bytes c.numbers.text) c.in_ok-push.ensures.bytes
    (search arith) c.number-item.is c.in-Some.ensures

pub returns : goal.returns
returns c =
    let some : 0 < length c.args.numbers.now = grind (arith, nat_tests) in
    sym (text_and_rest-end (string_bytes c.numbers.text) c.numbers.number-index c.args.numbers.now (search arith))
    ∙ sym c.numbers.invariant
    ∙ few_values c.args.numbers.now some c.if-numbers-gt2.false
