-- What pops and closes open elements keeps a guarded tree guarded.
use Rattle.std.proofs.Common.{◌≡◌, ◌==◌, if◌then◌else◌, [], ◌∷◌, ◌∙◌, Bool, List, None, Option, Some, ap, codes, eq-eqb}
use Rattle.std.proofs.Common.{false, inl, inr, not, refl, subst, sym, true, ℕ}
use Rattle.std.proofs.lemmas.Bool.{cond_both}
use Rattle.tree_forest.specs.Changes.{left_out}
use Rattle.tree_forest.specs.Forest.{Forest, is_integration_point, name_of}
use Rattle.tree_forest.specs.Orders.{IsIn}
use Rattle.html_tree_state.specs.Adoption.{closed_by_other_end, closed_with, named_before_special, popped_with}
use Rattle.html_tree_state.specs.Building.{Building}
use Rattle.html_tree_state.specs.Foreign.{broken_out, closed_by_foreign_end, from_html, named_foreign, popped_with_any}
use Rattle.html_tree_state.specs.OpenElements.{below_current, below_first, farther, from_first}
use Rattle.html_tree_state.specs.Scopes.{has_item, implied, is_in_scope, popped, popped_down_to, popped_to, taken_off}
use Rattle.html_tree_state.specs.Scopes.{with_closed_item, with_closed_p, without_implied}
use Rattle.page_tree_laws.proofs.CleanLists.{AreLeft, below_current_left, below_first_left, farther_left}
use Rattle.page_tree_laws.proofs.CleanLists.{from_first_left, from_html_left, left_out_left, without_implied_left}
use Rattle.tree_names.specs.ElementSets.{button_scope_barriers, special_elements}
use Rattle.tree_names.specs.Sets.{Elements, is_element_of, is_html}
use Rattle.tree_names.specs.Wanted.{is_implied, one}
use Rattle.page_tree_laws.proofs.BaseNames.{base_misses, base_named, base_no_paragraph, base_of_html, base_special}
use Rattle.page_tree_laws.proofs.BaseNames.{base_stops, base_unimplied, excepted}
use Rattle.page_tree_laws.proofs.FreeElements.{item_found, one_is_free, scope_has_free}
use Rattle.page_tree_laws.proofs.GuardedStacks.{IsBase, MayClose, StopsBy, at_root, base_kept, never_both, passes}
use Rattle.page_tree_laws.proofs.GuardedStacks.{stack_left_out, stack_popped, stays_in, stops_at}
use Rattle.page_tree_laws.proofs.Guards.{Guard, HasFree, IsAboveBase, IsFree, IsGuard, IsGuarded, IsStack, MayPop}
use Rattle.page_tree_laws.proofs.Guards.{StopsAbove, StopsAtBase, bare, stands}
use Rattle.page_tree_laws.proofs.Guards as guards
use Rattle.rules_table.specs.Actions.{is_current, popped_if}
use Rattle.tree_predicates.specs.Foreign.{is_closed_by, is_of_html, stops_break_out}

-- fewer open elements
pub popped_as : (g : Guard) (b : Building) (ms : List ℕ) → AreLeft ms b.stack → IsStack g ms → IsGuarded g b →
    IsGuarded g (record b { stack = ms })
popped_as g b ms left standing is = record {
  nodes = is.nodes;
  standing = standing;
  unbarred = λ n i free. is.unbarred n (left n i) free;
  listed = is.listed;
  fostering = is.fostering;
}

-- the current node is popped
pub popped_guarded : (g : Guard) (b : Building) → IsGuard g → IsGuarded g b → MayPop g b.stack → IsGuarded g (popped b)
popped_guarded g b guard is may = popped_as g b (below_current b.stack) (below_current_left b.stack)
    (stack_popped g guard b.stack is.standing may) is

-- the root is lowest under an open guard
pub root_base : (g : Guard) → IsGuard g → g.is_open ≡ true → IsBase g g.root
root_base g guard opened = inr (at_root g guard opened (IsIn g.root) (inl refl))

-- a current node that none of the lowest ones can be may be popped
abbrev is_first : (ℕ → Bool) → List ℕ → Bool
is_first t [] = false
is_first t (n ∷ ns) = t n

module _ (t : ℕ → Bool) (g : Guard) (guard : IsGuard g) (misses : (n : ℕ) → IsBase g n → t n ≡ false) where
  may_pop : (ns : List ℕ) → IsStack g ns → is_first t ns ≡ true → MayPop g ns
  may_pop _ stands e = absurd (never_both (t g.top) e (misses g.top (inl refl)))
  may_pop _ (bare opened) e = at_root g guard opened (λ ns. is_first t ns ≡ true → MayPop g ns)
      (λ k. absurd (never_both (t g.root) k (misses g.root (root_base g guard opened)))) e
  may_pop _ (guards.nearer n ns free more) e = inl free

-- the current node is popped where it is one of a set
current_first : (set : Elements) (b : Building) (ns : List ℕ) →
    is_current set b ns ≡ is_first (λ n. is_element_of set (name_of n b.forest)) ns
current_first set b [] = refl
current_first set b (n ∷ ns) = refl

pub popped_if_guarded : (set : Elements) (g : Guard) (b : Building) → IsGuard g → IsGuarded g b →
    IsAboveBase g set → IsGuarded g (popped_if set b)
popped_if_guarded set g b guard is above = cond_both (is_current set b b.stack) (popped b) b (IsGuarded g)
    (λ e. popped_guarded g b guard is (may_pop (λ n. is_element_of set (name_of n b.forest)) g guard
    (base_misses g guard b.forest is.nodes set above) b.stack is.standing
    (sym (current_first set b b.stack) ∙ e))) (λ e. is)

-- the elements up to one of a set are popped, with it or without it
pub popped_to_guarded : (set : Elements) (g : Guard) (b : Building) → IsGuard g → IsGuarded g b →
    HasFree g set b.forest b.stack → IsGuarded g (popped_to set b)
popped_to_guarded set g b guard is has =
    popped_as g b (below_first set b.forest b.stack) (below_first_left set b.forest b.stack)
    (passes g guard (λ n. is_element_of set (name_of n b.forest)) (below_first set b.forest) (λ n ns. refl) has.node
    has.named (inl has.free) b.stack is.standing has.is_open) is

pub popped_down_guarded : (set : Elements) (g : Guard) (b : Building) → IsGuard g → IsGuarded g b →
    StopsAtBase g set → IsGuarded g (popped_down_to set b)
popped_down_guarded set g b guard is stops =
    popped_as g b (from_first set b.forest b.stack) (from_first_left set b.forest b.stack)
    (stops_at g guard (λ n. is_element_of set (name_of n b.forest)) (from_first set b.forest) (λ n ns. refl)
    (λ shut. ap (is_element_of set) (is.nodes.named g.top (base_kept g g.top (inl refl))) ∙ stops.0 shut)
    (λ opened. ap (is_element_of set) (is.nodes.named g.root (base_kept g g.root (root_base g guard opened)))
    ∙ stops.1 opened) b.stack is.standing) is

-- a free element is taken off
pub taken_off_guarded : (n : ℕ) (g : Guard) (b : Building) → IsGuard g → IsGuarded g b → IsFree g n →
    IsGuarded g (taken_off n b)
taken_off_guarded n g b guard is free =
    popped_as g b (left_out n b.stack) (left_out_left n b.stack) (stack_left_out g n free b.stack is.standing) is

-- implied end tags
turned : (a : Bool) (xs ys : List ℕ) → (if a then xs else ys) ≡ (if not a then ys else xs)
turned true xs ys = refl
turned false xs ys = refl

implied_stops : (set : Elements) (f : Forest) →
    StopsBy (λ n. not (is_implied set (name_of n f))) (without_implied set f)
implied_stops set f n ns = turned (is_implied set (name_of n f)) (without_implied set f ns) (n ∷ ns)

pub implied_guarded : (set : Elements) (g : Guard) (b : Building) → IsGuard g → IsGuarded g b →
    IsGuarded g (implied set b)
implied_guarded set g b guard is =
    let ends : (n : ℕ) → IsBase g n → not (is_implied set (name_of n b.forest)) ≡ true = λ n i.
    ap not (base_unimplied set (name_of n b.forest) (base_named g guard b.forest is.nodes n i)) in
    popped_as g b (without_implied set b.forest b.stack) (without_implied_left set b.forest b.stack)
    (stops_at g guard (λ n. not (is_implied set (name_of n b.forest))) (without_implied set b.forest)
    (implied_stops set b.forest) (λ shut. ends g.top (inl refl)) (λ opened. ends g.root (root_base g guard opened))
    b.stack is.standing) is

-- an element of the excepted set stays
implied_stays : (set : Elements) (f : Forest) (n : ℕ) (ns : List ℕ) → is_element_of set (name_of n f) ≡ true →
    IsIn n ns → IsIn n (without_implied set f ns)
implied_stays set f n ns named i = stays_in (λ k. not (is_implied set (name_of k f))) (without_implied set f)
    (implied_stops set f) n (ap not (excepted set (name_of n f) named)) ns i

implied_and_popped : (set : Elements) (g : Guard) (b : Building) → IsGuard g → IsGuarded g b →
    HasFree g set b.forest b.stack → IsGuarded g (popped_to set (implied set b))
implied_and_popped set g b guard is has =
    popped_to_guarded set g (implied set b) guard (implied_guarded set g b guard is) (record {
      node = has.node;
      is_open = implied_stays set b.forest has.node b.stack has.named has.is_open;
      free = has.free;
      named = has.named;
    })

-- a p element that is in scope is closed, and a list item
pub closed_p_guarded : (g : Guard) (b : Building) → IsGuard g → IsGuarded g b → IsGuarded g (with_closed_p b)
closed_p_guarded g b guard is = cond_both (is_in_scope button_scope_barriers (one (codes "p")) b)
    (popped_to (one (codes "p")) (implied (one (codes "p")) b)) b (IsGuarded g)
    (λ e. implied_and_popped (one (codes "p")) g b guard is
    (scope_has_free button_scope_barriers (one (codes "p")) g b guard is
    (λ n i. base_no_paragraph (g.title n) (guard.titled n i)) e)) (λ e. is)

pub closed_item_guarded : (set : Elements) (g : Guard) (b : Building) → IsGuard g → IsGuarded g b →
    IsAboveBase g set → IsGuarded g (with_closed_item set b)
closed_item_guarded set g b guard is above = cond_both (has_item set b.forest b.stack)
    (popped_to set (implied set b)) b (IsGuarded g)
    (λ e. implied_and_popped set g b guard is
    (one_is_free set g b guard is above (item_found set b.forest b.stack e))) (λ e. is)

-- an element and what is nearer are popped
pub popped_with_guarded : (n : ℕ) (g : Guard) (b : Building) → IsGuard g → IsGuarded g b → MayClose g n →
    IsIn n b.stack → IsGuarded g (popped_with n b)
popped_with_guarded n g b guard is may i = popped_as g b (farther n b.stack) (farther_left n b.stack)
    (passes g guard (λ k. k == n) (farther n) (λ k ks. refl) n (eq-eqb n n refl) may b.stack is.standing i) is

-- "any other end tag"
abbrev IsClosed : List ℕ → Guard → Forest → List ℕ → ℕ → Type 0
IsClosed name g f ns n = MayClose g n × (IsIn n ns × (is_html name (name_of n f) ≡ true))

closed_by : (name : List ℕ) (g : Guard) (f : Forest) (k n : ℕ) (ks : List ℕ) (is stops : Bool) (more : Option ℕ) →
    is_html name (name_of k f) ≡ is → (is ≡ true → MayClose g k) →
    (stops ≡ false → more ≡ Some n → IsClosed name g f ks n) →
    (if is then Some k else if stops then None else more) ≡ Some n → IsClosed name g f (k ∷ ks) n
closed_by name g f k n ks true stops more named may further e =
    let same : n ≡ k = cc in (
      subst (MayClose g) (sym same) (may refl),
      (inl same, ap (λ m. is_html name (name_of m f)) same ∙ named),
    )
closed_by name g f k n ks false true more named may further e = absurd (let h : None ≡ Some n = e in cc)
closed_by name g f k n ks false false more named may further e =
    let found = further refl e in (found.0, (inr found.1.0, found.1.1))

module _ (name : List ℕ) (g : Guard) (guard : IsGuard g) (b : Building) (is : IsGuarded g b)
    (stops : StopsAbove g name) where
  -- the lowest elements are special
  special_base : (m : ℕ) → IsBase g m → is_element_of special_elements (name_of m b.forest) ≡ true
  special_base m i = base_special (name_of m b.forest) (base_named g guard b.forest is.nodes m i)

  -- where one of them has the name, it may be closed
  pub top_closed : (shut : Bool) → g.is_open ≡ shut → is_html name (name_of g.top b.forest) ≡ true → MayClose g g.top
  top_closed true opened e = inr (opened, refl)
  top_closed false shut e = absurd (never_both (is_html name (name_of g.top b.forest)) e
      (ap (is_html name) (is.nodes.named g.top (base_kept g g.top (inl refl))) ∙ stops.0 shut))

  pub root_closed : g.is_open ≡ true → is_html name (name_of g.root b.forest) ≡ true → MayClose g g.root
  root_closed opened e = absurd (never_both (is_html name (name_of g.root b.forest)) e
      (ap (is_html name) (is.nodes.named g.root (base_kept g g.root (root_base g guard opened))) ∙ stops.1 opened))

  -- what is found may be closed
  other_found : (n : ℕ) (ns : List ℕ) → IsStack g ns → named_before_special name b.forest ns ≡ Some n →
      IsClosed name g b.forest ns n
  other_found n _ stands e = closed_by name g b.forest g.top n g.lowest (is_html name (name_of g.top b.forest))
      (is_element_of special_elements (name_of g.top b.forest)) (named_before_special name b.forest g.lowest) refl
      (top_closed g.is_open refl)
      (λ isnt. absurd (never_both (is_element_of special_elements (name_of g.top b.forest))
      (special_base g.top (inl refl)) isnt)) e
  other_found n _ (bare opened) e = at_root g guard opened
      (λ ns. named_before_special name b.forest ns ≡ Some n → IsClosed name g b.forest ns n)
      (closed_by name g b.forest g.root n [] (is_html name (name_of g.root b.forest))
      (is_element_of special_elements (name_of g.root b.forest)) None refl (root_closed opened)
      (λ isnt. absurd (never_both (is_element_of special_elements (name_of g.root b.forest))
      (special_base g.root (root_base g guard opened)) isnt))) e
  other_found n _ (guards.nearer k ks free more) e = closed_by name g b.forest k n ks
      (is_html name (name_of k b.forest)) (is_element_of special_elements (name_of k b.forest))
      (named_before_special name b.forest ks) refl (λ named. inl free) (λ isnt. other_found n ks more) e

other_by : (found : Option ℕ) (name : List ℕ) (g : Guard) (b : Building) → IsGuard g → IsGuarded g b →
    ((n : ℕ) → found ≡ Some n → IsClosed name g b.forest b.stack n) → IsGuarded g (closed_with found name b)
other_by None name g b guard is closes = is
other_by (Some n) name g b guard is closes =
    let closed = closes n refl in
    popped_with_guarded n g (implied (one name) b) guard (implied_guarded (one name) g b guard is) closed.0
    (implied_stays (one name) b.forest n b.stack closed.1.1 closed.1.0)

-- the elements up to it are closed
pub closed_other_guarded : (name : List ℕ) (g : Guard) (b : Building) → IsGuard g → IsGuarded g b →
    StopsAbove g name → IsGuarded g (closed_by_other_end name b)
closed_other_guarded name g b guard is stops =
    other_by (named_before_special name b.forest b.stack) name g b guard is
    (λ n e. other_found name g guard b is stops n b.stack is.standing e)

-- breaking out of foreign content
pub broken_out_guarded : (g : Guard) (b : Building) → IsGuard g → IsGuarded g b → IsGuarded g (broken_out b)
broken_out_guarded g b guard is =
    let ends : (n : ℕ) → IsBase g n →
    stops_break_out (name_of n b.forest) (is_integration_point n b.forest) ≡ true = λ n i.
    base_stops (name_of n b.forest) (is_integration_point n b.forest)
    (base_named g guard b.forest is.nodes n i) in
    popped_as g b (from_html b.forest b.stack) (from_html_left b.forest b.stack)
    (stops_at g guard (λ n. stops_break_out (name_of n b.forest) (is_integration_point n b.forest))
    (from_html b.forest) (λ n ns. refl) (λ shut. ends g.top (inl refl))
    (λ opened. ends g.root (root_base g guard opened)) b.stack is.standing) is

-- an end tag in foreign content
foreign_by : (g : Guard) (k n : ℕ) (ks : List ℕ) (is closes : Bool) (more : Option ℕ) → (is ≡ false → IsFree g k) →
    (is ≡ false → more ≡ Some n → MayClose g n × IsIn n ks) →
    (if is then None else if closes then Some k else more) ≡ Some n → MayClose g n × IsIn n (k ∷ ks)
foreign_by g k n ks true closes more free further e = absurd (let h : None ≡ Some n = e in cc)
foreign_by g k n ks false true more free further e =
    let same : n ≡ k = cc in (inl (subst (IsFree g) (sym same) (free refl)), inl same)
foreign_by g k n ks false false more free further e = let found = further refl e in (found.0, inr found.1)

module _ (name : List ℕ) (g : Guard) (guard : IsGuard g) (b : Building) (is : IsGuarded g b) (n : ℕ) where
  html_base : {A : Type 0} (m : ℕ) → IsBase g m → is_of_html (name_of m b.forest).ns ≡ false → A
  html_base m i isnt = absurd (never_both (is_of_html (name_of m b.forest).ns)
      (base_of_html (name_of m b.forest) (base_named g guard b.forest is.nodes m i)) isnt)

  foreign_base : (m : ℕ) (ms : List ℕ) → IsBase g m → named_foreign name b.forest (m ∷ ms) ≡ Some n →
      MayClose g n × IsIn n (m ∷ ms)
  foreign_base m ms i e = foreign_by g m n ms (is_of_html (name_of m b.forest).ns)
      (is_closed_by name (name_of m b.forest)) (named_foreign name b.forest ms) (html_base m i)
      (λ isnt. html_base m i isnt) e

  foreign_found : (ns : List ℕ) → IsStack g ns → named_foreign name b.forest ns ≡ Some n → MayClose g n × IsIn n ns
  foreign_found _ stands e = foreign_base g.top g.lowest (inl refl) e
  foreign_found _ (bare opened) e = at_root g guard opened
      (λ ns. named_foreign name b.forest ns ≡ Some n → MayClose g n × IsIn n ns)
      (foreign_base g.root [] (root_base g guard opened)) e
  foreign_found _ (guards.nearer k ks free more) e = foreign_by g k n ks (is_of_html (name_of k b.forest).ns)
      (is_closed_by name (name_of k b.forest)) (named_foreign name b.forest ks) (λ isnt. free)
      (λ isnt. foreign_found ks more) e

foreign_end : (found : Option ℕ) (g : Guard) (b : Building) → IsGuard g → IsGuarded g b →
    ((n : ℕ) → found ≡ Some n → MayClose g n × IsIn n b.stack) → IsGuarded g (popped_with_any found b)
foreign_end None g b guard is closes = is
foreign_end (Some n) g b guard is closes =
    let closed = closes n refl in popped_with_guarded n g b guard is closed.0 closed.1

pub closed_foreign_guarded : (name : List ℕ) (g : Guard) (b : Building) → IsGuard g → IsGuarded g b →
    IsGuarded g (closed_by_foreign_end name b)
closed_foreign_guarded name g b guard is = foreign_end (named_foreign name b.forest b.stack) g b guard is
    (λ n e. foreign_found name g guard b is n b.stack is.standing e)
