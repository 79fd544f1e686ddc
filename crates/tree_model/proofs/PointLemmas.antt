-- A place stays where it is when a node is made.
use Rattle.std.proofs.Common.{◌≡◌, ◌∙◌, [], ◌∷◌, if◌then◌else◌, Bool, List, None, Option, Some, ap, false, refl, suc}
use Rattle.std.proofs.Common.{true, ℕ}
use Rattle.tree_forest.specs.Changes.{made, made_element, with_contents}
use Rattle.tree_forest.specs.Forest.{Forest, Kind, document, is_in, parent_from, parent_of}
use Rattle.tree_forest.specs.Places.{Place, based_on, before, below}
use Rattle.html_lexemes.specs.declared.names.Attribute.{Attribute}
use Rattle.html_lexemes.specs.declared.names.QualName.{QualName}
use Rattle.tree_model.specs.Points.{place_of}
use Rattle.tree_model.specs.declared.insertion_point.InsertionPoint.{InsertionPoint}
use Rattle.tree_model.specs.declared.insertion_point.InsertionPoint.TheVariants.{LastChild, TableFosterParenting}

parent_after : (n at : ℕ) (kind : Kind) (f : Forest) → parent_from n at (made kind f) ≡ parent_from n at f
parent_after n at kind [] = refl
parent_after n at kind (x ∷ f) =
    ap (λ p. if is_in n x.children then Some at else p) (parent_after n (suc at) kind f)

parent_with : (t : Bool) (n : ℕ) (f : Forest) → parent_of n (with_contents t f) ≡ parent_of n f
parent_with true n f = parent_after n 0 document f
parent_with false n f = refl

pub parent_made : (n : ℕ) (name : QualName) (attributes : List Attribute) (t p : Bool) (f : Forest) →
    parent_of n (made_element name attributes t p f) ≡ parent_of n f
parent_made n name attributes t p f = parent_with t n _ ∙ parent_after n 0 _ f

based_made : (n m : ℕ) (f g : Forest) → parent_of n g ≡ parent_of n f → based_on n m g ≡ based_on n m f
based_made n m f g e = ap (λ p. by p) e where
  by : Option ℕ → Place
  by (Some p) = before n
  by None = below m

pub place_made : {H : Type 0} (number : H → ℕ) (point : InsertionPoint H) (name : QualName)
    (attributes : List Attribute) (t p : Bool) (f : Forest) →
    place_of number (made_element name attributes t p f) point ≡ place_of number f point
place_made number (LastChild parent) name attributes t p f = refl
place_made number (TableFosterParenting table above) name attributes t p f =
    based_made (number table) (number above) f (made_element name attributes t p f)
    (parent_made (number table) name attributes t p f)

pub place_leaf : {H : Type 0} (number : H → ℕ) (point : InsertionPoint H) (kind : Kind) (f : Forest) →
    place_of number (made kind f) point ≡ place_of number f point
place_leaf number (LastChild parent) kind f = refl
place_leaf number (TableFosterParenting table above) kind f =
    based_made (number table) (number above) f (made kind f) (parent_after (number table) 0 kind f)
