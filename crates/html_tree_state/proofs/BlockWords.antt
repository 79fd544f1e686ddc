-- The furthest block, looked for from the current node, and what stands above an element.
use Rattle.std.proofs.Common.{◌≡◌, ◌==◌, [], ◌∷◌, ◌∙◌, if◌then◌else◌, Bool, List, None, Option, Some, ap, false, refl}
use Rattle.std.proofs.Common.{true, ℕ}
use Rattle.tree_forest.specs.Forest.{Forest, is_in, name_of}
use Rattle.tree_names.specs.ElementSets.{special_elements}
use Rattle.tree_names.specs.Sets.{is_element_of}
use Rattle.tree_model.specs.Adoption.{farther, last_special, nearer, or_itself}
use Rattle.tree_model.specs.OpenElements.{first_of}
use Rattle.tree_model.proofs.OpenLemmas.{if_other, other_way, rest_false}

-- what was found farther, else what was found nearer
abbrev pub or_nearer : Option ℕ → Option ℕ → Option ℕ
or_nearer (Some m) found = Some m
or_nearer None found = found

or_special : (x found : Option ℕ) (n : ℕ) → or_nearer (or_itself x true n) found ≡ or_nearer x (Some n)
or_special (Some m) found n = refl
or_special None found n = refl

or_plain : (x found : Option ℕ) (n : ℕ) → or_nearer (or_itself x false n) found ≡ or_nearer x found
or_plain (Some m) found n = refl
or_plain None found n = refl

module _ (n m : ℕ) (f : Forest) (ms whole : List ℕ) (found : Option ℕ) (is_whole : whole ≡ m ∷ ms)
    (off : (m == n) ≡ false) where
  divided_by : (is_special : Bool) → is_element_of special_elements (name_of m f) ≡ is_special →
      or_nearer (last_special f (nearer n whole)) found
      ≡ or_nearer (or_itself (last_special f (nearer n ms)) is_special m) found
  divided_by is_special is = ap (λ ns. or_nearer (last_special f (nearer n ns)) found) is_whole
      ∙ ap (λ b. or_nearer (last_special f (if b then [] else m ∷ nearer n ms)) found) off
      ∙ ap (λ b. or_nearer (or_itself (last_special f (nearer n ms)) b m) found) is

  pub block_special : is_element_of special_elements (name_of m f) ≡ true →
      or_nearer (last_special f (nearer n whole)) found ≡ or_nearer (last_special f (nearer n ms)) (Some m)
  block_special is = divided_by true is ∙ or_special (last_special f (nearer n ms)) found m

  pub block_plain : is_element_of special_elements (name_of m f) ≡ false →
      or_nearer (last_special f (nearer n whole)) found ≡ or_nearer (last_special f (nearer n ms)) found
  block_plain is = divided_by false is ∙ or_plain (last_special f (nearer n ms)) found m

none_farther : (n : ℕ) (ns : List ℕ) → is_in n ns ≡ false → farther n ns ≡ []
none_farther n [] none = refl
none_farther n (m ∷ ns) none =
    ap (λ b. if b then ns else farther n ns) (other_way n m (if_other (n == m) (is_in n ns) none))
    ∙ none_farther n ns (rest_false (n == m) (is_in n ns) none)

-- nothing is above an element that isn't open
pub none_above : (n : ℕ) (ns : List ℕ) → is_in n ns ≡ false → first_of (farther n ns) ≡ None
none_above n ns none = ap first_of (none_farther n ns none)
