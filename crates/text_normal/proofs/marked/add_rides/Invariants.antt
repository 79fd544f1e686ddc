use Rattle.std.proofs.Common.{ℕ, Bool, List, ◌++◌, map, take}
use Rattle.text_normal.specs.Units.{Letter}
use Rattle.text_normal.specs.NormalStates.{HasRead}
use Rattle.text_normal.specs.Riders.{Rider, ride}
use Rattle.text_normal.specs.MarkedTags.{tag_seen}
use Rattle.text_pieces.specs.Sources.{names}
use Rattle.text_normal.proofs.marked.add_rides.Given as goal

abbrev pub invariant-loop-name : goal.invariant-loop-name
invariant-loop-name g l =
    (width : ℕ) (overflow : Bool) (read : List (Letter (Rider g.T.EqualCopy.Seen)))
    → HasRead (tag_seen g.T.EqualCopy.seen) width overflow read l.fn.text
    → HasRead (tag_seen g.T.EqualCopy.seen) width overflow
    (read ++ map (λ name. ride name) (names (take l.name-index l.rides))) l.text
