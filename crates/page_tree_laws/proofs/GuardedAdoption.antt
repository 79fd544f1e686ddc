-- The adoption agency keeps a guarded tree guarded.
use Rattle.std.proofs.Common.{◌≡◌, ◌==◌, if◌then◌else◌, [], ◌∷◌, Bool, List, None, Option, Some, eq-eqb, eqb-true}
use Rattle.std.proofs.Common.{false, inl, inr, not, refl, suc, true, zero, ℕ}
use Rattle.std.proofs.lemmas.Bool.{cond_both}
use Rattle.tree_formatting.specs.Entries.{is_listed, last_named, tag_in}
use Rattle.tree_forest.specs.Forest.{Forest, is_in, name_of}
use Rattle.tree_forest.specs.Orders.{IsIn}
use Rattle.tree_forest.proofs.Relations.{either}
use Rattle.html_lexemes.specs.declared.token.Tag.{Tag}
use Rattle.html_tree_state.specs.Adoption.{Turn, Walk, adopted, adoption, after_turn, again, furthest_block}
use Rattle.html_tree_state.specs.Adoption.{is_current_unlisted, last_special, or_itself, other_end, over, placed}
use Rattle.html_tree_state.specs.Adoption.{popped_with, turn, turn_for, turn_with, turn_with_block, turns, walked}
use Rattle.html_tree_state.specs.Building.{Building}
use Rattle.html_tree_state.specs.Formatting.{reconstructed, unlisted}
use Rattle.html_tree_state.specs.OpenElements.{current_of, farther, nearer, up_to}
use Rattle.html_tree_state.specs.Scopes.{is_in_scope, popped}
use Rattle.html_tree_state.specs.Walks.{begun}
use Rattle.page_tree_laws.proofs.CleanLists.{AreLeft, farther_left}
use Rattle.tree_names.specs.ElementSets.{scope_barriers, special_elements}
use Rattle.tree_names.specs.Sets.{is_element_of, is_html, is_one_of}
use Rattle.tree_names.specs.TagSets.{formatting}
use Rattle.tree_names.specs.Wanted.{one}
use Rattle.page_tree_laws.proofs.GuardedCopies.{IsGuardedWalk, placed_guarded, tag_formats, taken_over_guarded}
use Rattle.page_tree_laws.proofs.GuardedCopies.{walked_guarded}
use Rattle.page_tree_laws.proofs.GuardedLists.{reconstructed_guarded, unlisted_guarded}
use Rattle.page_tree_laws.proofs.GuardedPlaces.{first_true}
use Rattle.page_tree_laws.proofs.GuardedPops.{closed_other_guarded, popped_guarded, popped_with_guarded, root_closed}
use Rattle.page_tree_laws.proofs.GuardedPops.{top_closed}
use Rattle.page_tree_laws.proofs.GuardedStacks.{at_root, nearer_free, passes, stack_current}
use Rattle.page_tree_laws.proofs.Guards.{Guard, IsFree, IsGuard, IsGuarded, IsStack, MayPop, StopsAbove, bare, stands}
use Rattle.page_tree_laws.proofs.Guards as guards
use Rattle.rules_table.specs.Actions.{adopted_in_scope}

-- what is nearer is open
nearer_left : (n : ℕ) (ns : List ℕ) → AreLeft (nearer n ns) ns
nearer_left n [] k i = absurd i
nearer_left n (m ∷ ms) k i = cond_both (m == n) [] (m ∷ nearer n ms) (λ l. IsIn k l → IsIn k (m ∷ ms))
    (λ e j. absurd j) (λ e. either (λ h. inl h) (λ h. inr (nearer_left n ms k h))) i

-- the furthest block is one of those that are nearer
special_by : (n m : ℕ) (ns : List ℕ) (found : Option ℕ) (is : Bool) → (found ≡ Some m → IsIn m ns) →
    or_itself found is n ≡ Some m → IsIn m (n ∷ ns)
special_by n m ns (Some k) is more e = inr (more e)
special_by n m ns None true more e = inl (let same : m ≡ n = cc in same)
special_by n m ns None false more e = absurd (let k : None ≡ Some m = e in cc)

special_in : (f : Forest) (m : ℕ) (ns : List ℕ) → last_special f ns ≡ Some m → IsIn m ns
special_in f m [] e = absurd (let k : None ≡ Some m = e in cc)
special_in f m (n ∷ ns) e = special_by n m ns (last_special f ns) (is_element_of special_elements (name_of n f))
    (special_in f m ns) e

-- a test of a number among others
in_by : (n m : ℕ) (ms : List ℕ) (same more : Bool) → (n == m) ≡ same → (more ≡ true → IsIn n ms) →
    (if same then true else more) ≡ true → IsIn n (m ∷ ms)
in_by n m ms true more e further is = inl (eqb-true n m e)
in_by n m ms false more e further is = inr (further is)

is_there : (n : ℕ) (ms : List ℕ) → is_in n ms ≡ true → IsIn n ms
is_there n [] e = absurd (let k : false ≡ true = e in cc)
is_there n (m ∷ ms) e = in_by n m ms (n == m) (is_in n ms) refl (is_there n ms) e

-- one turn with a formatting element that is open, and a furthest block
module _ (n : ℕ) (tag : Tag) (g : Guard) (b : Building) (guard : IsGuard g) (is : IsGuarded g b) (free : IsFree g n)
    (formats : is_one_of formatting tag.name ≡ true) (there : IsIn n b.stack) where
  -- what is left after it is a stack
  ancestor_stack : IsStack g (farther n b.stack)
  ancestor_stack = passes g guard (λ k. k == n) (farther n) (λ k ks. refl) n (eq-eqb n n refl) (inl free) b.stack
      is.standing there

  -- the turn keeps a guarded tree guarded
  adopted_guarded : (block : ℕ) → IsIn block (nearer n b.stack) → IsGuarded g (adopted n block tag b)
  adopted_guarded block i =
      let apart : (m : ℕ) → IsIn m (nearer n b.stack) → IsFree g m = nearer_free g n free b.stack is.standing there in
      let start : IsGuardedWalk g (begun block b) = record {
        tree = is;
        free = apart block i;
        there = (is.unbarred block (nearer_left n b.stack block i) (apart block i)).0;
      } in
      let w : Walk = walked block 0 (farther block (nearer n b.stack)) (begun block b) in
      let walk : IsGuardedWalk g w = walked_guarded block 0 (farther block (nearer n b.stack)) (begun block b) g guard
      (λ m j. apart m (farther_left block (nearer n b.stack) m j)) start in
      let ancestor = current_of (farther n b.stack) in
      taken_over_guarded w.bookmark n block tag g (placed w.last ancestor w.tree) guard
      (placed_guarded w.last ancestor g w.tree guard walk.tree walk.free walk.there
      (stack_current g guard (farther n b.stack) ancestor_stack)) free (apart block i) formats

-- turns
abbrev IsTurned : Guard → Turn → Type 0
IsTurned g (over d) = IsGuarded g d
IsTurned g (again d) = IsGuarded g d
IsTurned g (other_end d) = IsGuarded g d

block_turned : (found : Option ℕ) (n : ℕ) (tag : Tag) (g : Guard) (b : Building) → IsGuard g → IsGuarded g b →
    IsFree g n → is_one_of formatting tag.name ≡ true → IsIn n b.stack →
    ((m : ℕ) → found ≡ Some m → IsIn m (nearer n b.stack)) → IsTurned g (turn_with_block found n tag b)
block_turned None n tag g b guard is free formats there block = unlisted_guarded n g (popped_with n b) guard
    (popped_with_guarded n g b guard is (inl free) there)
block_turned (Some m) n tag g b guard is free formats there block =
    adopted_guarded n tag g b guard is free formats there m (block m refl)

open_turned : (n : ℕ) (tag : Tag) (g : Guard) (b : Building) (is_open in_scope : Bool) → is_in n b.stack ≡ is_open →
    IsGuard g → IsGuarded g b → IsFree g n → is_one_of formatting tag.name ≡ true →
    IsTurned g (if not is_open then over (unlisted n b) else if not in_scope then over b
    else turn_with_block (furthest_block n b) n tag b)
open_turned n tag g b false in_scope e guard is free formats = unlisted_guarded n g b guard is
open_turned n tag g b true false e guard is free formats = is
open_turned n tag g b true true e guard is free formats = block_turned (furthest_block n b) n tag g b guard is free
    formats (is_there n b.stack e) (λ m found. special_in b.forest m (nearer n b.stack) found)

tag_turned : (found : Option Tag) (n : ℕ) (g : Guard) (b : Building) → IsGuard g → IsGuarded g b →
    tag_in n b.formatting ≡ found → IsTurned g (turn_with found n b)
tag_turned None n g b guard is e = is
tag_turned (Some tag) n g b guard is e =
    let entry = tag_formats n tag g b is e in
    open_turned n tag g b (is_in n b.stack) (is_in n (up_to scope_barriers b.forest b.stack)) refl guard is entry.0
    entry.1.1

named_turned : (found : Option ℕ) (g : Guard) (b : Building) → IsGuard g → IsGuarded g b →
    IsTurned g (turn_for found b)
named_turned None g b guard is = is
named_turned (Some n) g b guard is = tag_turned (tag_in n b.formatting) n g b guard is refl

after_guarded : (t : Turn) (name : List ℕ) (further : Building → Building) (g : Guard) → IsGuard g →
    StopsAbove g name → IsTurned g t → ((d : Building) → IsGuarded g d → IsGuarded g (further d)) → (b : Building) →
    IsGuarded g (after_turn t name further b)
after_guarded (over d) name further g guard stops turned more b = turned
after_guarded (again d) name further g guard stops turned more b = more d turned
after_guarded (other_end d) name further g guard stops turned more b =
    closed_other_guarded name g d guard turned stops

-- at most so many turns
turns_guarded : (k : ℕ) (name : List ℕ) (g : Guard) → IsGuard g → StopsAbove g name → (b : Building) →
    IsGuarded g b → IsGuarded g (turns k name b)
turns_guarded zero name g guard stops b is = is
turns_guarded (suc k) name g guard stops b is = after_guarded (turn name b) name (turns k name) g guard stops
    (named_turned (last_named name b.formatting) g b guard is) (turns_guarded k name g guard stops) b

-- the current node, where it has that name
module _ (name : List ℕ) (g : Guard) (guard : IsGuard g) (b : Building) (is : IsGuarded g b)
    (stops : StopsAbove g name) where
  may_pop_named : (ns : List ℕ) → IsStack g ns → is_html name (name_of (current_of ns) b.forest) ≡ true → MayPop g ns
  may_pop_named _ stands e = top_closed name g guard b is stops g.is_open refl e
  may_pop_named _ (bare opened) e = at_root g guard opened
      (λ ns. is_html name (name_of (current_of ns) b.forest) ≡ true → MayPop g ns)
      (root_closed name g guard b is stops opened) e
  may_pop_named _ (guards.nearer n ns free more) e = inl free

-- the adoption agency
pub adoption_guarded : (name : List ℕ) (g : Guard) (b : Building) → IsGuard g → IsGuarded g b → StopsAbove g name →
    IsGuarded g (adoption name b)
adoption_guarded name g b guard is stops = cond_both (is_current_unlisted name b) (popped b) (turns 8 name b)
    (IsGuarded g)
    (λ e. popped_guarded g b guard is (may_pop_named name g guard b is stops b.stack is.standing
    (first_true (is_html name (name_of (current_of b.stack) b.forest))
    (not (is_listed (current_of b.stack) b.formatting)) e)))
    (λ e. turns_guarded 8 name g guard stops b is)

-- and where an element of the name is in scope
pub adopted_in_scope_guarded : (name : List ℕ) (g : Guard) (b : Building) → IsGuard g → IsGuarded g b →
    StopsAbove g name → IsGuarded g (adopted_in_scope name b)
adopted_in_scope_guarded name g b guard is stops = cond_both (is_in_scope scope_barriers (one name) b)
    (reconstructed (adoption name b)) b (IsGuarded g)
    (λ e. reconstructed_guarded g (adoption name b) guard (adoption_guarded name g b guard is stops)) (λ e. is)
