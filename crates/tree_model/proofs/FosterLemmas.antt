-- What stands at or above the place for inserting into the common ancestor: an element that is as far, or above one.
use Rattle.std.proofs.Common.{◌≡◌, ◌&&◌, ◌||◌, ◌⊎◌, ◌∙◌, [], ◌∷◌, ◌++◌, if◌then◌else◌, Bool, List, None, Option, Some}
use Rattle.std.proofs.Common.{ap, codes, false, inl, inr, refl, subst, sym, true, ℕ}
use Rattle.std.proofs.lemmas.Bool.{cond_both}
use Rattle.tree_forest.specs.Conditions.{IsAbovePlace, is_from}
use Rattle.tree_forest.specs.Forest.{Forest, IsElement, Kind, contents_of, document, element_of, kind_at, name_of}
use Rattle.tree_forest.specs.Forest.{parent_of}
use Rattle.tree_forest.specs.Orders.{Above, AtOrAbove, IsDocument, IsForest, IsIn, IsParent, child, further}
use Rattle.tree_forest.specs.Orders.{of_contents}
use Rattle.tree_forest.specs.Places.{Place, based_on, before, below}
use Rattle.tree_names.specs.ElementSets.{foster_targets}
use Rattle.tree_names.specs.Sets.{is_element_of, is_html}
use Rattle.html_lexemes.specs.declared.names.QualName.{QualName}
use Rattle.tree_model.specs.Building.{Building}
use Rattle.tree_model.specs.CanAdopt.{is_foster_stop}
use Rattle.tree_model.specs.Insertions.{foster_at, foster_place, holder, inside, is_fostered, is_template, place_for}
use Rattle.tree_model.specs.OpenElements.{current_of, first_of}
use Rattle.tree_model.proofs.GrownLemmas.{no_document, none_above}
use Rattle.tree_model.proofs.PlaceLemmas.{first_in}
use Rattle.tree_model.proofs.SoundLemmas.{either}

-- what is above the node below which a place is, is at or above the one that it is named by
pub at_from : (place : Place) (a : ℕ) (f : Forest) → IsAbovePlace place a f → AtOrAbove (IsParent f) a (is_from place)
at_from (below p) a f up = up
at_from (before s) a f up = inr up

-- a path ends in an edge
last_edge : (E : ℕ → ℕ → Type 0) (a c : ℕ) → Above E a c → (p : ℕ) × (AtOrAbove E a p × E p c)
last_edge E a c (child _ _ e) = (a, (inl refl, e))
last_edge E a c (further _ p _ up e) = (p, (inr up, e))

-- inside an element: what is at or above the contents is at or above it
module _ (a : ℕ) (f : Forest) (forest : IsForest f) (is : IsElement a f) where
  pub no_page : ¬ (AtOrAbove (IsParent f) a 0)
  no_page (inl e) = no_document _ _ refl is (subst (λ n. IsDocument n f) (sym e) forest.page.1.0)
  no_page (inr up) = none_above 0 f forest.page.1.1 a up

  from_holder : (q : ℕ) (c : Option ℕ) → contents_of q f ≡ c → AtOrAbove (IsParent f) a (holder c q) →
      AtOrAbove (IsParent f) a q
  from_holder q None e at = at
  from_holder q (Some c) e (inl k) =
      absurd (no_document _ _ refl is (subst (λ n. IsDocument n f) (sym k) (forest.contents q c e)))
  from_holder q (Some c) e (inr up) =
      let last = last_edge (IsParent f) a c up in
      subst (AtOrAbove (IsParent f) a) (forest.single last.0 q c last.1.1 (of_contents q c e)) last.1.0

  pub from_inside : (q : ℕ) → AtOrAbove (IsParent f) a (is_from (inside q f)) → AtOrAbove (IsParent f) a q
  from_inside q = cond_both (is_template q f) (holder (contents_of q f) q) q
      (λ n. AtOrAbove (IsParent f) a n → AtOrAbove (IsParent f) a q)
      (λ e. from_holder q (contents_of q f) refl) (λ e at. at)

-- a node is at or above one of some others
pub record IsOver (a : ℕ) (f : Forest) (ns : List ℕ) : Type 0 where
  pub under : ℕ
  pub one : IsIn under ns
  pub over : AtOrAbove (IsParent f) a under

-- by foster parenting
based_by : (table above : ℕ) (f : Forest) (p : Option ℕ) → parent_of table f ≡ p →
    (based_on table above f ≡ before table) ⊎ (based_on table above f ≡ below above)
based_by table above f None e = inr (ap by e) where
  by : Option ℕ → Place
  by (Some p) = before table
  by None = below above
based_by table above f (Some p) e = inl (ap by e) where
  by : Option ℕ → Place
  by (Some p) = before table
  by None = below above

at_step : (a n : ℕ) (above : Option ℕ) (f : Forest) (rest : Place) (ns : List ℕ) → IsForest f → IsElement a f →
    ((m : ℕ) → above ≡ Some m → IsIn m ns) →
    (AtOrAbove (IsParent f) a (is_from rest) → IsOver a f ns) →
    AtOrAbove (IsParent f) a (is_from (foster_at n above f rest)) → IsOver a f (n ∷ ns)
at_step a n None f rest ns forest is first more at =
    record { under = n; one = inl refl; over = from_inside a f forest is n at }
at_step a n (Some m) f rest ns forest is first more at = cond_both (is_template n f) (inside n f)
    (if is_html (codes "table") (name_of n f) then based_on n m f else rest) leads
    (λ e. inside_leads)
    (λ e. cond_both (is_html (codes "table") (name_of n f)) (based_on n m f) rest leads
    (λ k. either
    (λ same. subst leads (sym same) (λ up. record { under = n; one = inl refl; over = up }))
    (λ same. subst leads (sym same) (λ up. record { under = m; one = inr (first m refl); over = up }))
    (based_by n m f (parent_of n f) refl))
    (λ k up. let over = more up in record { under = over.under; one = inr over.one; over = over.over }))
    at where
      leads : Place → Type 0
      leads place = AtOrAbove (IsParent f) a (is_from place) → IsOver a f (n ∷ ns)

      inside_leads : leads (inside n f)
      inside_leads up = record { under = n; one = inl refl; over = from_inside a f forest is n up }

pub from_foster : (a : ℕ) (f : Forest) (ns : List ℕ) → IsForest f → IsElement a f →
    AtOrAbove (IsParent f) a (is_from (foster_place f ns)) → IsOver a f ns
from_foster a f [] forest is at = absurd (no_page a f forest is at)
from_foster a f (n ∷ ns) forest is at =
    at_step a n (first_of ns) f (foster_place f ns) ns forest is (λ m e. first_in m ns e)
    (from_foster a f ns forest is) at

-- elements that are no tables or templates don't matter for it
passed : (s t : Bool) (x y z : Place) → (s || t) ≡ false → (if s then x else if t then y else z) ≡ z
passed true t x y z e = absurd (cc)
passed false true x y z e = absurd (cc)
passed false false x y z e = refl

pass_one : (n m : ℕ) (f : Forest) (rest : Place) → is_foster_stop n f ≡ false →
    foster_at n (Some m) f rest ≡ rest
pass_one n m f rest e = passed (is_template n f) (is_html (codes "table") (name_of n f)) (inside n f)
    (based_on n m f) rest e

pass_with : (n : ℕ) (f : Forest) (us : List ℕ) (q : ℕ) (qs : List ℕ) (rest : Place) → is_foster_stop n f ≡ false →
    foster_at n (first_of (us ++ q ∷ qs)) f rest ≡ rest
pass_with n f [] q qs rest e = pass_one n q f rest e
pass_with n f (u ∷ us) q qs rest e = pass_one n u f rest e

pub all_passed : (f : Forest) (us : List ℕ) (q : ℕ) (qs : List ℕ) →
    ((n : ℕ) → IsIn n us → is_foster_stop n f ≡ false) →
    foster_place f (us ++ q ∷ qs) ≡ foster_place f (q ∷ qs)
all_passed f [] q qs plain = refl
all_passed f (u ∷ us) q qs plain =
    pass_with u f us q qs (foster_place f (us ++ q ∷ qs)) (plain u (inl refl))
    ∙ all_passed f us q qs (λ n i. plain n (inr i))

-- the document is no foster target
page_stays : (fostering : Bool) (name : QualName) (kind : Kind) → name ≡ (element_of kind).name → kind ≡ document →
    (fostering && is_element_of foster_targets name) ≡ false
page_stays true name kind e k =
    ap (is_element_of foster_targets) (e ∙ ap (λ kind. (element_of kind).name) k)
page_stays false name kind e k = refl

pub from_place : (a : ℕ) (us lows : List ℕ) (b : Building) → IsForest b.forest → IsElement a b.forest →
    b.stack ≡ us ++ lows → ((n : ℕ) → IsIn n us → is_foster_stop n b.forest ≡ false) →
    AtOrAbove (IsParent b.forest) a (is_from (place_for (current_of lows) b)) → IsOver a b.forest lows
from_place a us [] b forest is whole plain at = absurd (cond_both (is_fostered 0 b) (foster_place b.forest b.stack)
    (inside 0 b.forest) (λ place. ¬ (AtOrAbove (IsParent b.forest) a (is_from place)))
    (λ e up. let no = page_stays b.fostering (name_of 0 b.forest) (kind_at 0 b.forest) refl forest.page.1.0 in
    absurd (cc))
    (λ e up. no_page a b.forest forest is (from_inside a b.forest forest is 0 up)) at)
from_place a us (q ∷ qs) b forest is whole plain at = cond_both (is_fostered q b) (foster_place b.forest b.stack)
    (inside q b.forest) (λ place. AtOrAbove (IsParent b.forest) a (is_from place) → IsOver a b.forest (q ∷ qs))
    (λ e up. from_foster a b.forest (q ∷ qs) forest is (subst (λ place. AtOrAbove (IsParent b.forest) a (is_from place))
    (ap (foster_place b.forest) whole ∙ all_passed b.forest us q qs plain) up))
    (λ e up. record { under = q; one = inl refl; over = from_inside a b.forest forest is q up }) at
