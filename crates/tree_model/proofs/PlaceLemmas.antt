-- Where a node is inserted there is a place for it.
use Rattle.std.proofs.Common.{◌≡◌, [], ◌∷◌, if◌then◌else◌, Bool, List, None, Option, Some, codes, false, inl, inr, refl}
use Rattle.std.proofs.Common.{subst, sym, true, ℕ}
use Rattle.tree_forest.specs.Conditions.{IsPlace}
use Rattle.tree_forest.specs.Forest.{Forest, Holds, contents_of, name_of, parent_of}
use Rattle.tree_forest.specs.Orders.{IsForest, IsIn, of_contents}
use Rattle.tree_forest.specs.Places.{Place, based_on, before, below}
use Rattle.tree_names.specs.Sets.{is_html}
use Rattle.tree_model.specs.Building.{Building}
use Rattle.tree_model.specs.Insertions.{foster_at, foster_place, here, holder, inside, is_fostered, is_template}
use Rattle.tree_model.specs.Insertions.{place_for}
use Rattle.tree_model.specs.Laws.{Laws}
use Rattle.tree_model.specs.OpenElements.{current_of, first_of}
use Rattle.tree_model.specs.Sound.{Sound}

-- of two cases each is a place
either_place : (b : Bool) (p q : Place) (f : Forest) → IsPlace p f → IsPlace q f → IsPlace (if b then p else q) f
either_place true p q f h k = h
either_place false p q f h k = k

holder_there : (c : Option ℕ) (n : ℕ) (f : Forest) → IsForest f → Holds n f → contents_of n f ≡ c →
    Holds (holder c n) f
holder_there None n f forest held e = held
holder_there (Some c) n f forest held e = forest.within n c (of_contents n c e)

if_there : (b : Bool) (c n : ℕ) (f : Forest) → Holds c f → Holds n f → Holds (if b then c else n) f
if_there true c n f h k = h
if_there false c n f h k = k

pub inside_place : (n : ℕ) (f : Forest) → IsForest f → Holds n f → IsPlace (inside n f) f
inside_place n f forest held =
    if_there (is_template n f) (holder (contents_of n f) n) n f
    (holder_there (contents_of n f) n f forest held refl) held

based_by : (laws : Laws) (table above : ℕ) (f : Forest) (p : Option ℕ) → IsForest f → Holds above f →
    parent_of table f ≡ p → IsPlace (based_on table above f) f
based_by laws table above f None forest held e = subst (λ p. IsPlace (by p) f) (sym e) held where
  by : Option ℕ → Place
  by (Some p) = before table
  by None = below above
based_by laws table above f (Some p) forest held e =
    subst (λ q. IsPlace (by q) f) (sym e) (p, (laws.parent table p f forest).0 e) where
      by : Option ℕ → Place
      by (Some p) = before table
      by None = below above

foster_at_place : (laws : Laws) (n : ℕ) (above : Option ℕ) (f : Forest) (further : Place) → IsForest f →
    Holds n f → ((m : ℕ) → above ≡ Some m → Holds m f) → IsPlace further f → IsPlace (foster_at n above f further) f
foster_at_place laws n None f further forest held above rest = inside_place n f forest held
foster_at_place laws n (Some m) f further forest held above rest =
    either_place (is_template n f) _ _ f (inside_place n f forest held)
    (either_place (is_html (codes "table") (name_of n f)) _ _ f
    (based_by laws n m f (parent_of n f) forest (above m refl) refl) rest)

pub first_in : (m : ℕ) (ns : List ℕ) → first_of ns ≡ Some m → IsIn m ns
first_in m [] e = absurd (cc)
first_in m (n ∷ ns) e = inl (cc)

pub foster_place_there : (laws : Laws) (f : Forest) (ns : List ℕ) → IsForest f → ((n : ℕ) → IsIn n ns → Holds n f) →
    IsPlace (foster_place f ns) f
foster_place_there laws f [] forest held = forest.page.0
foster_place_there laws f (n ∷ ns) forest held =
    foster_at_place laws n (first_of ns) f (foster_place f ns) forest (held n (inl refl))
    (λ m e. held m (inr (first_in m ns e)))
    (foster_place_there laws f ns forest (λ m i. held m (inr i)))

open_there : (laws : Laws) (b : Building) → Sound b → (n : ℕ) → IsIn n b.stack → Holds n b.forest
open_there laws b sound n i = laws.element_there n b.forest (sound.elements n i)

pub place_for_there : (laws : Laws) (n : ℕ) (b : Building) → Sound b → Holds n b.forest →
    IsPlace (place_for n b) b.forest
place_for_there laws n b sound held =
    either_place (is_fostered n b) _ _ b.forest
    (foster_place_there laws b.forest b.stack sound.forest (open_there laws b sound))
    (inside_place n b.forest sound.forest held)

pub current_there : (f : Forest) (ns : List ℕ) → IsForest f → ((n : ℕ) → IsIn n ns → Holds n f) → Holds (current_of ns)
    f
current_there f [] forest held = forest.page.0
current_there f (n ∷ ns) forest held = held n (inl refl)

pub here_there : (laws : Laws) (b : Building) → Sound b → IsPlace (here b) b.forest
here_there laws b sound = place_for_there laws (current_of b.stack) b sound
    (current_there b.forest b.stack sound.forest (open_there laws b sound))
