use Rattle.std.proofs.Common.{ap, ◌+◌, ◌∙◌}
use Rattle.text_footnotes.proofs.NumberLemmas.{numbered_again, numbered_next}
use Rattle.text_footnotes.proofs.numbers.note.Goals as goal

pub returns-then-contains_key-clause-noted : goal.returns-then-contains_key-clause-noted
returns-then-contains_key-clause-noted c = numbered_again c.args.numbers.now c.args.text.now c.contains_key.result
    c.contains_key.ensures c.if-contains_key.true

pub returns-clause-noted : goal.returns-clause-noted
returns-clause-noted c = numbered_next c.args.numbers.now c.insert.new.self c.args.text.now c.in_ok-key.key
    (c.len-number.result + 1) c.in_ok-insert.field-0 c.contains_key.result c.contains_key.ensures
    c.if-contains_key.false (c.in_ok-key.ensures.ok ∙ c.as_str.ensures.value)
    (ap (λ n. n + 1) c.len-number.ensures.len) c.in_ok-insert.ensures.updates c.in_ok-insert.ensures.old
    c.in_ok-insert.ensures.len
