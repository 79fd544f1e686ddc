use Rattle.std.proofs.Common.{◌≡◌, fold, length, take}
use Rattle.text_lines.specs.Tagged.{elements_items, line_elements}
use Rattle.text_preserved.specs.Preserved.{put}
use Rattle.text_preserved.specs.Rows.{laying_of, HasJoinedRows}
use Rattle.text_preserved.proofs.laying.Rows.put_all.Given as goal

abbrev pub invariant-loop-element : goal.invariant-loop-element
invariant-loop-element g l =
    record {
      laid : laying_of g.T.EqualCopy.seen l.self ≡ fold (put l.width) (laying_of g.T.EqualCopy.seen l.fn.self)
          (elements_items g.T.EqualCopy.seen (take (length l.yielded) (line_elements l.items)));
      joined : HasJoinedRows g.T.EqualCopy.seen l.fn.self → HasJoinedRows g.T.EqualCopy.seen l.self;
    }
