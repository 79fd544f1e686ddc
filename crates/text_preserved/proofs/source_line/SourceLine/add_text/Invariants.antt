use Rattle.std.proofs.Common.{◌≡◌, length, chars}
use denote.Text.{Utf8}
use denote.Shadow.{shadow}
use Rattle.text_preserved.specs.Fronts.{all_lettered}
use Rattle.text_preserved.specs.SourceLines.{pass_of}
use Rattle.text_preserved.proofs.source_line.SourceLine.add_text.Given as goal

abbrev pub invariant-loop-c : goal.invariant-loop-c
invariant-loop-c g l =
    let seen = g.T.EqualCopy.seen in
    record {
      text : shadow (Utf8 l.rest);
      pass : all_lettered (chars l.rest) (seen l.main_tag) (seen l.wrap_tag) (pass_of seen l.self)
          ≡ all_lettered (chars l.text) (seen l.main_tag) (seen l.wrap_tag) (pass_of seen l.fn.self);
      rows : l.self.rows ≡ l.fn.self.rows;
    }

abbrev pub decreases-loop-c : goal.decreases-loop-c
decreases-loop-c g l = length l.rest
