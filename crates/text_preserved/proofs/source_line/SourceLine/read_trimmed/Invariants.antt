use Rattle.std.proofs.Common.{◌≡◌, length}
use Rattle.text_preserved.specs.Pass.{read_all}
use Rattle.text_preserved.specs.Rows.{HasJoinedRows}
use Rattle.text_preserved.specs.SourceLines.{pass_of}
use Rattle.text_preserved.specs.Trimming.{trimmed_each}
use Rattle.text_preserved.proofs.ReadingLemmas.{IsFramed}
use Rattle.text_preserved.proofs.source_line.SourceLine.read_trimmed.Given as goal

abbrev pub invariant-loop-first : goal.invariant-loop-first
invariant-loop-first g l =
    let seen = g.T.EqualCopy.seen in
    record {
      framed : IsFramed (pass_of seen l.fn.self) (pass_of seen l.self);
      pass : read_all (pass_of seen l.self) (trimmed_each seen l.fn.self.width l.fn.self.wraps l.rest)
          ≡ read_all (pass_of seen l.fn.self) (trimmed_each seen l.fn.self.width l.fn.self.wraps l.pieces);
      joined : HasJoinedRows seen l.fn.self.rows → HasJoinedRows seen l.self.rows;
    }

abbrev pub decreases-loop-first : goal.decreases-loop-first
decreases-loop-first g l = length l.rest
