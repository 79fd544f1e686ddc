use Rattle.std.proofs.Common.{◌≡◌, length}
use Rattle.text_preserved.specs.Pass.{read_all}
use Rattle.text_preserved.specs.Rows.{HasJoinedRows}
use Rattle.text_preserved.specs.SourceLines.{pass_of}
use Rattle.text_pieces.specs.Sources.{sources_of}
use Rattle.text_preserved.proofs.source_line.SourceLine.read_pieces.Given as goal

abbrev pub invariant-loop-first : goal.invariant-loop-first
invariant-loop-first g l =
    let seen = g.T.EqualCopy.seen in
    record {
      pass : read_all (pass_of seen l.self) (sources_of seen l.rest)
          ≡ read_all (pass_of seen l.fn.self) (sources_of seen l.pieces);
      joined : HasJoinedRows seen l.fn.self.rows → HasJoinedRows seen l.self.rows;
    }

abbrev pub decreases-loop-first : goal.decreases-loop-first
decreases-loop-first g l = length l.rest
