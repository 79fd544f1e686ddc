-- Elements that are free: those of a set that are open or in scope, those that are listed, and those that are new.
use Rattle.std.proofs.Common.{◌≡◌, ◌⊎◌, if◌then◌else◌, [], ◌∷◌, Bool, List, None, Option, Some, false, inl, inr, refl}
use Rattle.std.proofs.Common.{true, ℕ}
use Rattle.tree_formatting.specs.Entries.{Entry, formatted, is_named, last_named, marker}
use Rattle.tree_forest.specs.Forest.{Forest, name_of}
use Rattle.tree_forest.specs.Orders.{IsIn}
use Rattle.html_lexemes.specs.declared.token.Tag.{Tag}
use Rattle.html_tree_state.specs.Building.{Building}
use Rattle.html_tree_state.specs.OpenElements.{has_any, up_to}
use Rattle.html_tree_state.specs.Scopes.{has_item, is_in_scope, is_item_barrier, is_open}
use Rattle.html_tree_state.specs.Sound.{IsListed}
use Rattle.page_tree_laws.proofs.CleanLists.{AreLeft}
use Rattle.tree_names.specs.Sets.{Elements, is_element_of}
use Rattle.page_tree_laws.proofs.BaseNames.{base_misses}
use Rattle.page_tree_laws.proofs.GuardedStacks.{IsBase, never_both, stack_member}
use Rattle.page_tree_laws.proofs.Guards.{Guard, HasFree, IsAboveBase, IsFree, IsGuard, IsGuarded}

-- an element of a set, among some
abbrev pub HasOne : Elements → Forest → List ℕ → Type 0
HasOne set f ns = (n : ℕ) × (IsIn n ns × (is_element_of set (name_of n f) ≡ true))

one_later : (set : Elements) (f : Forest) (k : ℕ) (ks : List ℕ) → HasOne set f ks → HasOne set f (k ∷ ks)
one_later set f k ks found = (found.0, (inr found.1.0, found.1.1))

any_by : (set : Elements) (f : Forest) (k : ℕ) (ks : List ℕ) (is more : Bool) → is_element_of set (name_of k f) ≡ is →
    (more ≡ true → HasOne set f ks) → (if is then true else more) ≡ true → HasOne set f (k ∷ ks)
any_by set f k ks true more named further e = (k, (inl refl, named))
any_by set f k ks false more named further e = one_later set f k ks (further e)

any_found : (set : Elements) (f : Forest) (ns : List ℕ) → has_any set f ns ≡ true → HasOne set f ns
any_found set f [] e = absurd (let k : false ≡ true = e in cc)
any_found set f (n ∷ ns) e = any_by set f n ns (is_element_of set (name_of n f)) (has_any set f ns) refl
    (any_found set f ns) e

item_by : (set : Elements) (f : Forest) (k : ℕ) (ks : List ℕ) (is stops more : Bool) →
    is_element_of set (name_of k f) ≡ is → (more ≡ true → HasOne set f ks) →
    (if is then true else if stops then false else more) ≡ true → HasOne set f (k ∷ ks)
item_by set f k ks true stops more named further e = (k, (inl refl, named))
item_by set f k ks false true more named further e = absurd (let h : false ≡ true = e in cc)
item_by set f k ks false false more named further e = one_later set f k ks (further e)

pub item_found : (set : Elements) (f : Forest) (ns : List ℕ) → has_item set f ns ≡ true → HasOne set f ns
item_found set f [] e = absurd (let k : false ≡ true = e in cc)
item_found set f (n ∷ ns) e = item_by set f n ns (is_element_of set (name_of n f)) (is_item_barrier (name_of n f))
    (has_item set f ns) refl (item_found set f ns) e

-- what is in a scope is open
scope_by : (is : Bool) (n : ℕ) (ks ns : List ℕ) → AreLeft ks ns → AreLeft (n ∷ (if is then [] else ks)) (n ∷ ns)
scope_by is n ks ns left m (inl e) = inl e
scope_by true n ks ns left m (inr i) = absurd i
scope_by false n ks ns left m (inr i) = inr (left m i)

scope_left : (barriers : Elements) (f : Forest) (ns : List ℕ) → AreLeft (up_to barriers f ns) ns
scope_left barriers f [] = λ n i. i
scope_left barriers f (n ∷ ns) = scope_by (is_element_of barriers (name_of n f)) n (up_to barriers f ns) ns
    (scope_left barriers f ns)

-- an open element of a set that none of the lowest ones is in is free
free_by : (g : Guard) (set : Elements) (f : Forest) (ns : List ℕ) (n : ℕ) → IsIn n ns →
    is_element_of set (name_of n f) ≡ true → ((m : ℕ) → IsBase g m → is_element_of set (name_of m f) ≡ false) →
    IsFree g n ⊎ IsBase g n → HasFree g set f ns
free_by g set f ns n i named misses (inl free) = record { node = n; is_open = i; free = free; named = named }
free_by g set f ns n i named misses (inr base) =
    absurd (never_both (is_element_of set (name_of n f)) named (misses n base))

pub one_is_free : (set : Elements) (g : Guard) (b : Building) → IsGuard g → IsGuarded g b → IsAboveBase g set →
    HasOne set b.forest b.stack → HasFree g set b.forest b.stack
one_is_free set g b guard is above found = free_by g set b.forest b.stack found.0 found.1.0 found.1.1
    (base_misses g guard b.forest is.nodes set above) (stack_member g found.0 b.stack is.standing found.1.0)

pub open_has_free : (set : Elements) (g : Guard) (b : Building) → IsGuard g → IsGuarded g b → IsAboveBase g set →
    is_open set b ≡ true → HasFree g set b.forest b.stack
open_has_free set g b guard is above e = one_is_free set g b guard is above (any_found set b.forest b.stack e)

pub scope_has_free : (barriers set : Elements) (g : Guard) (b : Building) → IsGuard g → IsGuarded g b →
    IsAboveBase g set → is_in_scope barriers set b ≡ true → HasFree g set b.forest b.stack
scope_has_free barriers set g b guard is above e =
    let found = any_found set b.forest (up_to barriers b.forest b.stack) e in
    one_is_free set g b guard is above
    (found.0, (scope_left barriers b.forest b.stack found.0 found.1.0, found.1.1))

-- the latest listed element of a name
last_by : (m n : ℕ) (held : Tag) (rest : List Entry) (is : Bool) (later : Option ℕ) →
    (later ≡ Some n → (tag : Tag) × IsListed n tag rest) → (if is then Some m else later) ≡ Some n →
    (tag : Tag) × IsListed n tag (formatted m held ∷ rest)
last_by m n held rest true later further e = (held, inl (let k : n ≡ m = cc in k, refl))
last_by m n held rest false later further e = let found = further e in (found.0, inr found.1)

last_listed : (name : List ℕ) (n : ℕ) (es : List Entry) → last_named name es ≡ Some n →
    (tag : Tag) × IsListed n tag es
last_listed name n [] e = absurd (let k : None ≡ Some n = e in cc)
last_listed name n (marker ∷ rest) e = absurd (let k : None ≡ Some n = e in cc)
last_listed name n (formatted m tag ∷ rest) e =
    last_by m n tag rest (is_named name tag) (last_named name rest) (last_listed name n rest) e

pub listed_is_free : (name : List ℕ) (n : ℕ) (g : Guard) (b : Building) → IsGuard g → IsGuarded g b →
    last_named name b.formatting ≡ Some n → IsFree g n
listed_is_free name n g b guard is e =
    let found = last_listed name n b.formatting e in (is.listed n found.0 found.1).0
