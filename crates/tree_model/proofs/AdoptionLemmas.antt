-- What each part of a turn of the adoption agency keeps.
use Rattle.std.proofs.Common.{ℕ, List}
use Rattle.tree_model.specs.Adoption.{popped_with}
use Rattle.tree_model.specs.Building.{Building}
use Rattle.tree_model.specs.Formatting.{unlisted}
use Rattle.tree_model.specs.Laws.{Laws}
use Rattle.tree_model.specs.Scopes.{taken_off}
use Rattle.tree_model.specs.Sound.{Sound}
use Rattle.tree_model.proofs.ListedAfter.{listed_without}
use Rattle.tree_model.proofs.NearerLemmas.{IsLeft, distinct_by, farther_left, left_out_left, never_above, not_twice}
use Rattle.tree_model.proofs.NearerLemmas.{order_by}

-- open elements are left out
pub left_sound : (b : Building) (ns : List ℕ) → Sound b → IsLeft ns b.stack → Sound (record b { stack = ns })
left_sound b ns sound left = record {
  forest = sound.forest;
  elements = λ n i. sound.elements n (left.within n i);
  distinct = distinct_by ns (λ a h. not_twice a b.stack sound.distinct (left.nearer a a h));
  ordered = order_by b.forest ns (λ x y h. never_above b.forest x y b.stack sound.ordered (left.nearer x y h));
  templates = λ n i. sound.templates n (left.within n i);
  listed = sound.listed;
  few = sound.few;
  counted = sound.counted;
}

pub taken_off_sound : (n : ℕ) (b : Building) → Sound b → Sound (taken_off n b)
taken_off_sound n b sound = left_sound b _ sound (left_out_left n b.stack)

pub popped_with_sound : (n : ℕ) (b : Building) → Sound b → Sound (popped_with n b)
popped_with_sound n b sound = left_sound b _ sound (farther_left n b.stack)

-- an entry is taken off
pub unlisted_sound : (n : ℕ) (b : Building) → Laws → Sound b → Sound (unlisted n b)
unlisted_sound n b laws sound = record {
  forest = sound.forest;
  elements = sound.elements;
  distinct = sound.distinct;
  ordered = sound.ordered;
  templates = sound.templates;
  listed = λ k tag l. sound.listed k tag (listed_without n k tag b.formatting l);
  few = laws.few_removed n b.formatting sound.few;
  counted = sound.counted;
}
