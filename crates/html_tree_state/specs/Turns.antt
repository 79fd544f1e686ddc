-- Where the adoption agency stands in memory, and what a turn of it comes to there (WHATWG HTML, 13.2.6.4.7).
use Rattle.std.specs.Prelude.{ℕ, option_map}
use Rattle.html_tree_state.specs.declared.adoption.TurnOutcome.{TurnOutcome}
use Rattle.html_tree_state.specs.declared.adoption.TurnOutcome.TheVariants.{Again, OtherEnd, Over}
use Rattle.html_tree_state.specs.declared.adoption.WalkPoint.{WalkPoint}
use Rattle.tree_model.specs.Adoption.{Turn, Walk, again, other_end, over}
use Rattle.tree_model.specs.Building.{Building}

abbrev pub walk_of : {H : Type 0} → (H → ℕ) → WalkPoint H → Building → Walk
walk_of number point b = record {
  last = number point.last;
  bookmark = option_map number point.bookmark;
  tree = b;
}

abbrev pub turn_of : TurnOutcome → Building → Turn
turn_of Over b = over b
turn_of Again b = again b
turn_of OtherEnd b = other_end b
