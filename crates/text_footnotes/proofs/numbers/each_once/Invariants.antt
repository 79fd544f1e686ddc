use Rattle.std.specs.Vec.Iter.{into_iter_items}
use Rattle.text_footnotes.proofs.OnceLemmas.{IsNoting}
use Rattle.text_footnotes.proofs.numbers.each_once.Given as goal

abbrev pub invariant-targets : goal.invariant-targets
invariant-targets l = record {
  noting : IsNoting l.fn.targets.items l.noted.items (into_iter_items l.target-iterator) l.numbers;
  can_next : goal.iterator-targets.can_next l.target-iterator;
  is_finite : goal.iterator-targets.is_finite l.target-iterator;
}
