use Rattle.std.proofs.Common.{sym, ap, ◌∙◌, arith, chars}
use Rattle.std.specs.Prelude.{not}
use Rattle.text_pieces.specs.Sources.{is_filled}
use Rattle.text_preserved.proofs.TrimLemmas.{solid_filled, not_empty}
use Rattle.text_preserved.proofs.plain_lines.plain_front.Goals as goal

pub returns-else-is_empty-clause-front : goal.returns-else-is_empty-clause-front
returns-else-is_empty-clause-front c =
    record {
      wide = omega (arith, c.if-width-lt2.false);
      printable = c.is_printable.ensures c.if-not-is_printable.false;
      is = c.solid_front-front.ensures.front;
      filled = ap is_filled c.solid_front-front.ensures.front
          ∙ solid_filled c.args.width c.args.wraps (chars c.args.text.now) ∙ sym c.solid_front-front.ensures.some
          ∙ sym (not_empty c.solid_front-front.result.now) ∙ ap not (sym c.is_empty.ensures ∙ c.if-is_empty.false);
    }
