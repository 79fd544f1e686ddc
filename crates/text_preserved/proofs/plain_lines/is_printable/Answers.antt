use Rattle.std.proofs.Common.{sym, subst}
use Rattle.std.specs.Prelude.{All}
use Rattle.std.proofs.lemmas.List.Elements.{All-nil}
use Rattle.text_preserved.specs.PlainLines.{IsPrintable}
use Rattle.text_preserved.proofs.PlainLemmas.{printable_characters}
use Rattle.text_preserved.proofs.TrimLemmas.{nil_length}
use Rattle.text_preserved.proofs.plain_lines.is_printable.Goals as goal

pub returns : goal.returns
returns c = λ _.
    printable_characters c.args.text.now
    (c.loop-byte.invariant (subst (All IsPrintable) (sym (nil_length c.loop-byte.rest.now c.in_default.ensures.cases)) (All-nil IsPrintable)))
