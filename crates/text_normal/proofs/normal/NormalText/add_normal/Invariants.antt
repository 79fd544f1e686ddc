use Rattle.std.proofs.Common.{length}
use denote.Text.{Utf8}
use denote.Shadow.{shadow}
use Rattle.text_normal.specs.NormalStates.{ReadsFront}
use Rattle.text_normal.proofs.normal.NormalText.add_normal.Given as goal

abbrev pub invariant-loop-rest : goal.invariant-loop-rest
invariant-loop-rest g l =
    record {
      text : shadow (Utf8 l.rest);
      reads : ReadsFront g.T.EqualCopy.seen l.fn.self l.self l.text l.rest (g.T.EqualCopy.seen l.tag);
    }

abbrev pub decreases-loop-rest : goal.decreases-loop-rest
decreases-loop-rest g l = length l.rest
