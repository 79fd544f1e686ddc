-- The stack of open elements in memory, walked from its end.
use Rattle.std.proofs.Common.{◌≡◌, ◌∙◌, [], ◌∷◌, ◌++◌, List, Some, ap, map, reverse, true, ℕ}
use Rattle.std.proofs.lemmas.List.{map-append, reverse-append}
use Rattle.tree_forest.specs.Forest.{Forest, IsElement, contents_of}
use Rattle.tree_forest.specs.Orders.{IsIn}
use Rattle.tree_model.specs.Building.{stack_of}
use Rattle.tree_model.specs.Insertions.{is_template}

-- what stands last in memory is the current node
pub stack_of_last : {H : Type 0} (number : H → ℕ) (lower : List H) (last : H) →
    stack_of number (lower ++ last ∷ []) ≡ number last ∷ stack_of number lower
stack_of_last number lower last =
    ap reverse (map-append number lower (last ∷ [])) ∙ reverse-append (map number lower) (number last ∷ [])

-- all of some nodes are elements
pub record AreElements (f : Forest) (ns : List ℕ) : Type 0 where
  pub are : (n : ℕ) → IsIn n ns → IsElement n f

-- all of some nodes are elements, and of templates the contents are there
pub record AreOpen (f : Forest) (ns : List ℕ) : Type 0 where
  pub are : (n : ℕ) → IsIn n ns → IsElement n f
  pub templates : (n : ℕ) → IsIn n ns → is_template n f ≡ true → (c : ℕ) × (contents_of n f ≡ Some c)
