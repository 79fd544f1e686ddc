-- What rows ask of a guarded state, by what is open: names that no guard bars, and elements that may be popped.
use Rattle.std.proofs.Common.{◌≡◌, ◌<◌, ◌⊎◌, if◌then◌else◌, [], ◌∷◌, ◌++◌, Bool, List, Some, arith, codes, false, inl}
use Rattle.std.proofs.Common.{inr, refl, subst, sym, true, ℕ}
use Rattle.tree_formatting.specs.Entries.{last_named}
use Rattle.tree_forest.specs.Forest.{Forest, Holds, name_of, nodes}
use Rattle.tree_forest.specs.Orders.{IsIn}
use Rattle.html_lexemes.specs.declared.token.Tag.{Tag}
use Rattle.html_tree_state.specs.Building.{Building}
use Rattle.html_tree_state.specs.Formatting.{name_for}
use Rattle.html_tree_state.specs.Scopes.{is_in_scope, without_implied}
use Rattle.tree_names.specs.Sets.{Elements, html_elements, is_element_of, is_html, is_one_of}
use Rattle.tree_names.specs.Wanted.{is_implied, one}
use Rattle.page_tree_laws.proofs.Fits.{Fits}
use Rattle.page_tree_laws.proofs.GroupNames.{IsUnimplied, all_pass, element_apart, fails, is_free_group, no_base_name}
use Rattle.page_tree_laws.proofs.GroupNames.{one_fails, opposite}
use Rattle.page_tree_laws.proofs.Guards.{Guard, HasFree, IsAboveBase, IsFree, IsGuard, IsGuarded, IsKept, IsStack}
use Rattle.page_tree_laws.proofs.Guards.{MayPop, StopsAbove, bare, base_names, is_barred, nearer, stands}
use Rattle.tree_names.specs.Groups.{tag_group}
use Rattle.tree_names.specs.declared.group.TagGroup.{TagGroup}
use Rattle.rules_table.specs.Actions.{act, imply_but, is_current, pop, pop_to}
use Rattle.rules_table.specs.State.{State}

-- What is known of stacks: what is found in scope, and has no name of what stands lowest, is free; and so are listed
-- elements.
pub record StackFacts (g : Guard) : Type 0 where
  pub scope_has_free : (barriers set : Elements) (b : Building) → IsGuarded g b → IsAboveBase g set →
      is_in_scope barriers set b ≡ true → HasFree g set b.forest b.stack
  pub listed_is_free : (name : List ℕ) (n : ℕ) (b : Building) → IsGuarded g b →
      last_named name b.formatting ≡ Some n → IsFree g n

-- What is known of a guard, whatever the state: barred names are those of what stands lowest.
pub record RowFacts (g : Guard) : Type 0 where
  pub guard : IsGuard g
  pub stack : StackFacts g
  pub barred_names : (name : List ℕ) → is_one_of g.barred name ≡ true → is_one_of base_names name ≡ true

-- A topmost element that is not to be closed is no head and no frameset: end tags of these names don't close it.
pub record TopFacts (g : Guard) : Type 0 where
  pub no_head : g.is_open ≡ false → is_html (codes "head") (g.title g.top) ≡ false
  pub no_frameset : g.is_open ≡ false → is_html (codes "frameset") (g.title g.top) ≡ false

-- What is known of a guard where the body and tables are built: a template isn't barred either.
pub record BuildFacts (g : Guard) : Type 0 where
  pub rows : RowFacts g
  pub top : TopFacts g
  pub template : is_one_of g.barred (codes "template") ≡ false

-- a name that is none of what stands lowest isn't barred
pub unbarred : (g : Guard) → RowFacts g → (name : List ℕ) → is_one_of base_names name ≡ false →
    is_one_of g.barred name ≡ false
unbarred g facts name off = by (is_one_of g.barred name) refl where
  by : (b : Bool) → is_one_of g.barred name ≡ b → is_one_of g.barred name ≡ false
  by true e = opposite (is_one_of base_names name) (facts.barred_names name e) off
  by false e = e

pub group_unbarred : (g : Guard) → RowFacts g → (t : Tag) (group : TagGroup) → tag_group t.name ≡ group →
    is_free_group group ≡ true → is_barred g (name_for t) ≡ false
group_unbarred g facts t group e own = unbarred g facts t.name (no_base_name t.name group e own)

-- a word that is not barred, by a tag's name
pub word_unbarred : (g : Guard) (t : Tag) (word : List ℕ) → t.name ≡ word → is_one_of g.barred word ≡ false →
    is_barred g (name_for t) ≡ false
word_unbarred g t word e free = subst (λ name. is_one_of g.barred name ≡ false) (sym e) free

-- no element of a set stands lowest
pub above_base : (g : Guard) → RowFacts g → (words : List (List ℕ)) →
    all_pass (fails (is_one_of base_names)) words ≡ true → IsAboveBase g (html_elements words)
above_base g facts words all n i = element_apart words base_names (g.title n) all (facts.guard.titled n i)

pub one_above : (g : Guard) → RowFacts g → (name : List ℕ) → is_one_of base_names name ≡ false →
    IsAboveBase g (one name)
one_above g facts name off = above_base g facts (name ∷ []) (one_fails (is_one_of base_names) name off)

root_at_base : (g : Guard) → IsGuard g → g.is_open ≡ true → IsIn g.root (g.top ∷ g.lowest)
root_at_base g guard e =
    subst (λ (ns : List ℕ). IsIn g.root (g.top ∷ ns)) (sym (guard.root_lowest e)) (inr (inl refl))

pub stops_above : (g : Guard) → RowFacts g → (name : List ℕ) → is_one_of base_names name ≡ false → StopsAbove g name
stops_above g facts name off = (
  λ e. one_above g facts name off g.top (inl refl),
  λ e. one_above g facts name off g.root (root_at_base g facts.guard e),
)

-- what is kept
lowest_in : (m : ℕ) (ns ms : List ℕ) → IsIn m ms → IsIn m (ns ++ ms)
lowest_in m [] ms i = i
lowest_in m (n ∷ ns) ms i = inr (lowest_in m ns ms i)

pub base_kept : (g : Guard) (n : ℕ) → IsIn n (g.top ∷ g.lowest) → IsKept g n
base_kept g n (inl e) = inr (inr (inl e))
base_kept g n (inr i) = inr (inr (inr (lowest_in n g.firsts g.lowest i)))

-- each open element is free, or stands lowest
pub each_open : (g : Guard) (ns : List ℕ) → IsStack g ns → (n : ℕ) → IsIn n ns →
    IsFree g n ⊎ IsIn n (g.top ∷ g.lowest)
each_open g _ stands n i = inr i
each_open g _ (bare e) n i = inr (inr i)
each_open g _ (nearer m ms free below) n (inl e) = inl (subst (IsFree g) (sym e) free)
each_open g _ (nearer m ms free below) n (inr i) = each_open g ms below n i

-- one of a set above what stands lowest is free
pub named_free : (g : Guard) (set : Elements) (b : Building) → IsGuarded g b → IsAboveBase g set → (n : ℕ) →
    IsIn n b.stack → is_element_of set (name_of n b.forest) ≡ true → IsFree g n
named_free g set b guarded above n i is = by (each_open g b.stack guarded.standing n i) where
  by : IsFree g n ⊎ IsIn n (g.top ∷ g.lowest) → IsFree g n
  by (inl free) = free
  by (inr low) = opposite (is_element_of set (name_of n b.forest)) is
      (subst (λ name. is_element_of set name ≡ false) (sym (guarded.nodes.named n (base_kept g n low))) (above n low))

-- a new node is free
less_than_itself : (n m : ℕ) → n ≡ m → ¬ (n < m)
less_than_itself n m e h = omega (arith, e, h)

pub new_free : (g : Guard) (f : Forest) → ((n : ℕ) → IsKept g n → Holds n f) → IsFree g (nodes f)
new_free g f held i = less_than_itself (nodes f) (nodes f) refl (held (nodes f) i)

-- after implied end tags one that isn't implied is still open
stays_by : (b : Bool) (n m : ℕ) (ns ms : List ℕ) → ((n ≡ m) → b ≡ false) → IsIn n (m ∷ ns) → (IsIn n ns → IsIn n ms) →
    IsIn n (if b then ms else m ∷ ns)
stays_by false n m ns ms off i on = i
stays_by true n m ns ms off (inl e) on = absurd (let k : true ≡ false = off e in cc)
stays_by true n m ns ms off (inr i) on = on i

still_open : (except : Elements) (f : Forest) (n : ℕ) (ns : List ℕ) → is_implied except (name_of n f) ≡ false →
    IsIn n ns → IsIn n (without_implied except f ns)
still_open except f n [] off i = i
still_open except f n (m ∷ ns) off i = stays_by (is_implied except (name_of m f)) n m ns (without_implied except f ns)
    (λ e. subst (λ k. is_implied except (name_of k f) ≡ false) e off) i (still_open except f n ns off)

pub free_after : (g : Guard) (except set : Elements) (f : Forest) (ns : List ℕ) → IsUnimplied except set →
    HasFree g set f ns → HasFree g set f (without_implied except f ns)
free_after g except set f ns unimplied has = record {
  node = has.node;
  is_open = still_open except f has.node ns (unimplied (name_of has.node f) has.named) has.is_open;
  free = has.free;
  named = has.named;
}

pub pops_after : (g : Guard) (except set : Elements) (s : State) → IsUnimplied except set →
    HasFree g set s.tree.forest s.tree.stack → Fits g (pop_to set) (act (imply_but except) s)
unfolding act
pops_after g except set s unimplied has = free_after g except set s.tree.forest s.tree.stack unimplied has

-- the current node of a name that nothing lowest has may be popped
current_free : (g : Guard) (set : Elements) (b : Building) (ns : List ℕ) →
    ((n : ℕ) → IsIn n ns → is_element_of set (name_of n b.forest) ≡ true → IsFree g n) →
    is_current set b ns ≡ true → MayPop g ns
current_free g set b [] free is = absurd (let k : false ≡ true = is in cc)
current_free g set b (n ∷ ns) free is = inl (free n (inl refl) is)

pub pops_current : (g : Guard) (set : Elements) (s : State) → IsGuarded g s.tree → IsAboveBase g set →
    is_current set s.tree s.tree.stack ≡ true → Fits g pop s
pops_current g set s guarded above is =
    current_free g set s.tree s.tree.stack (named_free g set s.tree guarded above) is
