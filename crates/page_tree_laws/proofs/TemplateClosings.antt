-- The innermost template is closed: another one stays open, or what is lowest is left.
use Rattle.std.proofs.Common.{◌≡◌, ◌≤◌, ◌+◌, ◌&&◌, if◌then◌else◌, [], ◌∷◌, ◌∙◌, Bool, List, arith, codes, false, inl}
use Rattle.std.proofs.Common.{inr, not, refl, subst, sym, true, ℕ}
use Rattle.tree_forest.specs.Forest.{Forest, name_of}
use Rattle.html_lexemes.specs.declared.names.QualName.{QualName}
use Rattle.html_tree_state.specs.Insertions.{is_template}
use Rattle.html_tree_state.specs.OpenElements.{below_first, has_any}
use Rattle.html_tree_state.specs.Scopes.{without_implied}
use Rattle.tree_names.specs.ElementSets.{implied_end_tags}
use Rattle.tree_names.specs.Sets.{Elements, is_element_of}
use Rattle.tree_names.specs.Wanted.{is_implied, one}
use Rattle.page_tree_laws.proofs.GroupNames.{element_apart}
use Rattle.page_tree_laws.proofs.Guards.{Guard, HasFree, IsFree, IsStack, bare, nearer, stands}
use Rattle.page_tree_laws.proofs.TemplateLists.{templates_in}

none : {A : Type 0} → false ≡ true → A
none e = absurd (cc)

-- what is popped up to the innermost template
pub data IsClosed (g : Guard) (f : Forest) (ns : List ℕ) : Type 0 where
  another : IsStack g (below_first (one (codes "template")) f ns) → HasFree g (one (codes "template")) f ns →
      IsClosed g f ns
  outermost : below_first (one (codes "template")) f ns ≡ g.lowest → IsClosed g f ns

deeper_free : (g : Guard) (f : Forest) (n : ℕ) (ns : List ℕ) → HasFree g (one (codes "template")) f ns →
    HasFree g (one (codes "template")) f (n ∷ ns)
deeper_free g f n ns has =
    record { node = has.node; is_open = inr has.is_open; free = has.free; named = has.named }

closed_by : (g : Guard) (f : Forest) (n : ℕ) (ns : List ℕ) (b : Bool) →
    is_element_of (one (codes "template")) (name_of n f) ≡ b → IsFree g n → IsStack g ns → IsClosed g f ns →
    IsClosed g f (n ∷ ns)
closed_by g f n ns true e free rest closed = another
    (subst (IsStack g) (sym (first_popped (is_element_of (one (codes "template")) (name_of n f)) e)) rest)
    (record { node = n; is_open = inl refl; free = free; named = e }) where
      first_popped : (b : Bool) → b ≡ true →
          (if b then ns else below_first (one (codes "template")) f ns) ≡ ns
      first_popped true k = refl
      first_popped false k = none k
closed_by g f n ns false e free rest (another stack has) = another
    (subst (IsStack g) (sym (passed (is_element_of (one (codes "template")) (name_of n f)) e)) stack)
    (deeper_free g f n ns has) where
      passed : (b : Bool) → b ≡ false →
          (if b then ns else below_first (one (codes "template")) f ns) ≡ below_first (one (codes "template")) f ns
      passed true k = none (sym k)
      passed false k = refl
closed_by g f n ns false e free rest (outermost same) = outermost
    (passed (is_element_of (one (codes "template")) (name_of n f)) e ∙ same) where
      passed : (b : Bool) → b ≡ false →
          (if b then ns else below_first (one (codes "template")) f ns) ≡ below_first (one (codes "template")) f ns
      passed true k = none (sym k)
      passed false k = refl

pub closing : (g : Guard) (f : Forest) (ns : List ℕ) → g.is_open ≡ false →
    is_element_of (one (codes "template")) (name_of g.top f) ≡ true → IsStack g ns → IsClosed g f ns
closing g f _ shut named stands = outermost (at_top (is_element_of (one (codes "template")) (name_of g.top f)) named)
  where
    at_top : (b : Bool) → b ≡ true →
        (if b then g.lowest else below_first (one (codes "template")) f g.lowest) ≡ g.lowest
    at_top true e = refl
    at_top false e = none e
closing g f _ shut named (bare e) = none (sym shut ∙ e)
closing g f _ shut named (nearer n ns free rest) =
    closed_by g f n ns (is_element_of (one (codes "template")) (name_of n f)) refl free rest
    (closing g f ns shut named rest)

-- a template is open
counts_one : (b : Bool) (x : ℕ) → b ≡ true → 1 ≤ (if b then 1 else 0) + x
counts_one true x e = omega arith
counts_one false x e = none e

counts_more : (k x : ℕ) → 1 ≤ x → 1 ≤ k + x
counts_more k x h = omega (arith, h)

pub some_template : (g : Guard) (f : Forest) (ns : List ℕ) → g.is_open ≡ false →
    is_template g.top f ≡ true → IsStack g ns → 1 ≤ templates_in f ns
some_template g f _ shut named stands = counts_one (is_template g.top f) (templates_in f g.lowest) named
some_template g f _ shut named (bare e) = none (sym shut ∙ e)
some_template g f _ shut named (nearer n ns free rest) =
    counts_more (if is_template n f then 1 else 0) (templates_in f ns) (some_template g f ns shut named rest)

pub has_one : (g : Guard) (f : Forest) (ns : List ℕ) → g.is_open ≡ false →
    is_element_of (one (codes "template")) (name_of g.top f) ≡ true → IsStack g ns →
    has_any (one (codes "template")) f ns ≡ true
has_one g f _ shut named stands = at_top (is_element_of (one (codes "template")) (name_of g.top f)) named where
  at_top : (b : Bool) → b ≡ true → (if b then true else has_any (one (codes "template")) f g.lowest) ≡ true
  at_top true e = refl
  at_top false e = none e
has_one g f _ shut named (bare e) = none (sym shut ∙ e)
has_one g f _ shut named (nearer n ns free rest) =
    either_way (is_element_of (one (codes "template")) (name_of n f)) (has_one g f ns shut named rest) where
      either_way : (b : Bool) → has_any (one (codes "template")) f ns ≡ true →
          (if b then true else has_any (one (codes "template")) f ns) ≡ true
      either_way true e = refl
      either_way false e = e

-- no template is popped by implied end tags
first_true : (x y : Bool) → (x && y) ≡ true → x ≡ true
first_true true y k = refl
first_true false y k = none k

unimplied : (except : Elements) (name : QualName) → is_implied except name ≡ true →
    is_element_of (one (codes "template")) name ≡ false
unimplied except name e = element_apart (codes "template" ∷ []) implied_end_tags.html name refl
    (first_true (is_element_of implied_end_tags name) (not (is_element_of except name)) e)

same_below : (except : Elements) (f : Forest) (n : ℕ) (ns : List ℕ) (b : Bool) → is_implied except (name_of n f) ≡ b →
    below_first (one (codes "template")) f (without_implied except f ns) ≡ below_first (one (codes "template")) f ns →
    below_first (one (codes "template")) f (if b then without_implied except f ns else n ∷ ns)
    ≡ below_first (one (codes "template")) f (n ∷ ns)
same_below except f n ns true e rest = rest
    ∙ sym (passed (is_element_of (one (codes "template")) (name_of n f)) (unimplied except (name_of n f) e)) where
      passed : (b : Bool) → b ≡ false →
          (if b then ns else below_first (one (codes "template")) f ns) ≡ below_first (one (codes "template")) f ns
      passed true k = none (sym k)
      passed false k = refl
same_below except f n ns false e rest = refl

pub below_implied : (except : Elements) (f : Forest) (ns : List ℕ) →
    below_first (one (codes "template")) f (without_implied except f ns) ≡ below_first (one (codes "template")) f ns
below_implied except f [] = refl
below_implied except f (n ∷ ns) =
    same_below except f n ns (is_implied except (name_of n f)) refl (below_implied except f ns)
