use Rattle.std.proofs.Common.{◌≡◌, length, chars, string_bytes}
use denote.Text.{Utf8}
use denote.Shadow.{shadow}
use Rattle.text_lines.specs.Tagged.{tagged}
use Rattle.text_preserved.specs.Preserved.{put_all}
use Rattle.text_preserved.specs.Rows.{laying_of, HasJoinedRows}
use Rattle.text_preserved.proofs.laying.Rows.put_string.Given as goal

abbrev pub invariant-loop-c : goal.invariant-loop-c
invariant-loop-c g l =
    let seen = g.T.EqualCopy.seen in
    record {
      text : shadow (Utf8 l.rest);
      laid : put_all l.width (laying_of seen l.self) (tagged (chars l.rest) (seen l.string.tag))
          ≡ put_all l.width (laying_of seen l.fn.self) (tagged (chars (string_bytes l.string.s)) (seen l.string.tag));
      joined : HasJoinedRows seen l.fn.self → HasJoinedRows seen l.self;
    }

abbrev pub decreases-loop-c : goal.decreases-loop-c
decreases-loop-c g l = length l.rest
