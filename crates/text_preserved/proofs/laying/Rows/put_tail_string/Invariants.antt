use Rattle.std.proofs.Common.{◌≡◌, fold, length, take, chars, string_bytes}
use Rattle.text_lines.specs.Tagged.{tagged}
use Rattle.text_preserved.specs.Preserved.{put_space}
use Rattle.text_preserved.specs.Rows.{laying_of, HasJoinedRows}
use Rattle.text_preserved.proofs.laying.Rows.put_tail_string.Given as goal

abbrev pub invariant-loop-c : goal.invariant-loop-c
invariant-loop-c g l =
    record {
      laid : laying_of g.T.EqualCopy.seen l.self ≡ fold (put_space l.width) (laying_of g.T.EqualCopy.seen l.fn.self)
          (tagged (take (length l.yielded) (chars (string_bytes l.string.s))) (g.T.EqualCopy.seen l.string.tag));
      joined : HasJoinedRows g.T.EqualCopy.seen l.fn.self → HasJoinedRows g.T.EqualCopy.seen l.self;
    }
