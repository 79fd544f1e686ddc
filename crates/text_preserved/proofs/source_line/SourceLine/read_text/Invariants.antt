use Rattle.std.proofs.Common.{◌≡◌, chars, length}
use denote.Text.{Utf8}
use denote.Shadow.{shadow}
use Rattle.text_pieces.specs.Sources.{sourced}
use Rattle.text_preserved.specs.Pass.{read_all}
use Rattle.text_preserved.specs.Rows.{HasJoinedRows}
use Rattle.text_preserved.specs.SourceLines.{pass_of}
use Rattle.text_preserved.proofs.source_line.SourceLine.read_text.Given as goal

abbrev pub invariant-loop-c : goal.invariant-loop-c
invariant-loop-c g l =
    let seen = g.T.EqualCopy.seen in
    record {
      text : shadow (Utf8 l.rest);
      pass : read_all (pass_of seen l.self) (sourced (chars l.rest) (seen l.main_tag) (seen l.wrap_tag))
          ≡ read_all (pass_of seen l.fn.self) (sourced (chars l.text) (seen l.main_tag) (seen l.wrap_tag));
      joined : HasJoinedRows seen l.fn.self.rows → HasJoinedRows seen l.self.rows;
    }

abbrev pub decreases-loop-c : goal.decreases-loop-c
decreases-loop-c g l = length l.rest
