use Rattle.std.proofs.Common.{◌≡◌, ◌++◌, map, true}
use Rattle.std.specs.Vec.Iter.{into_iter_items}
use Rattle.text_pieces.specs.Sources.{names}
use Rattle.text_footnotes.specs.Printable.{printable}
use Rattle.text_footnotes.proofs.printable.shown_targets.Given as goal

abbrev pub invariant-targets : goal.invariant-targets
invariant-targets l = record {
  shown : names l.shown.items ++ map printable (names (into_iter_items l.target-iterator))
      ≡ map printable (names l.fn.targets.items);
  can_next : goal.iterator-targets.can_next l.target-iterator;
  is_finite : goal.iterator-targets.is_finite l.target-iterator;
}
