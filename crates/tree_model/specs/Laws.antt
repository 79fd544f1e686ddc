-- The laws of forests, and of the list of active formatting elements, that this crate stands on, as its lemmas take
-- them.
use Rattle.std.specs.Prelude.{◌≡◌, ℕ, ◌⊎◌, ◌↔◌, Bool, true, List, ◌∷◌, ◌++◌, None, Some, suc}
use Rattle.tree_formatting.specs.Alike.{AreFew}
use Rattle.tree_formatting.specs.Entries.{Entry, before_marker, formatted, handed_over, is_listed, marker, moved_after}
use Rattle.tree_formatting.specs.Entries.{up_to_marker, without_entry}
use Rattle.tree_formatting.specs.Pushing.{pushed}
use Rattle.tree_forest.specs.Changes.{detached, made, made_element, reparented, with_attributes}
use Rattle.tree_forest.specs.Conditions.{CanPut, CanReparent, IsAbovePlace, IsPlace}
use Rattle.tree_forest.specs.Forest.{Forest, Holds, IsElement, Kind, children_at, contents_of, document, element_of}
use Rattle.tree_forest.specs.Forest.{kind_at, name_of, nodes, parent_of}
use Rattle.tree_forest.specs.Orders.{Above, AtOrAbove, HasNoParent, IsDocument, IsForest, IsIn, IsParent}
use Rattle.tree_forest.specs.Places.{Child, Place, node, put, put_node, words}
use Rattle.html_lexemes.specs.declared.names.Attribute.{Attribute}
use Rattle.html_lexemes.specs.declared.names.QualName.{QualName}
use Rattle.html_lexemes.specs.declared.token.Tag.{Tag}

pub record Laws : Type 0 where
  pub put_keeps : (place : Place) (child : Child) (f : Forest) → IsForest f → CanPut place child f →
      IsForest (put place child f)
  pub leaf_keeps : (kind : Kind) (f : Forest) → IsForest f → (element_of kind).contents ≡ None →
      IsForest (made kind f)
  pub element_keeps : (name : QualName) (attributes : List Attribute) (template point : Bool) (f : Forest) →
      IsForest f → IsForest (made_element name attributes template point f)
  pub attributes_keep : (n : ℕ) (more : List Attribute) (f : Forest) → IsForest f →
      IsForest (with_attributes n more f)
  pub leaf_may : (place : Place) (kind : Kind) (f : Forest) → IsForest f → IsPlace place f →
      (element_of kind).contents ≡ None → ¬ (kind ≡ document) → CanPut place (node (nodes f)) (made kind f)
  pub element_may : (place : Place) (name : QualName) (attributes : List Attribute) (template point : Bool)
      (f : Forest) → IsForest f → IsPlace place f →
      CanPut place (node (nodes f)) (made_element name attributes template point f)
  pub parent : (n p : ℕ) (f : Forest) → IsForest f → (parent_of n f ≡ Some p) ↔ IsIn n (children_at p f)
  pub there : (a b : ℕ) (f : Forest) → IsForest f → Above (IsParent f) a b → Holds a f × Holds b f
  pub above_leaf : (kind : Kind) (a b : ℕ) (f : Forest) → (element_of kind).contents ≡ None →
      Above (IsParent (made kind f)) a b → Above (IsParent f) a b
  pub above_element : (name : QualName) (attributes : List Attribute) (template point : Bool) (a b : ℕ)
      (f : Forest) → Holds b f → Above (IsParent (made_element name attributes template point f)) a b →
      Above (IsParent f) a b
  pub above_put : (place : Place) (n a b : ℕ) (f : Forest) → IsForest f → CanPut place (node n) f →
      Above (IsParent (put_node place n f)) a b →
      Above (IsParent f) a b ⊎ (IsAbovePlace place a f × AtOrAbove (IsParent f) n b)
  pub above_words : (place : Place) (cs : List ℕ) (a b : ℕ) (f : Forest) → IsForest f → IsPlace place f →
      Holds b f → Above (IsParent (put place (words cs) f)) a b → Above (IsParent f) a b
  pub above_attributes : (n : ℕ) (more : List Attribute) (a b : ℕ) (f : Forest) →
      Above (IsParent (with_attributes n more f)) a b → Above (IsParent f) a b
  pub element_there : (n : ℕ) (f : Forest) → IsElement n f → Holds n f
  pub leaf_stays : (kind : Kind) (n : ℕ) (f : Forest) → Holds n f → kind_at n (made kind f) ≡ kind_at n f
  pub element_stays : (name : QualName) (attributes : List Attribute) (template point : Bool) (n : ℕ)
      (f : Forest) → Holds n f → kind_at n (made_element name attributes template point f) ≡ kind_at n f
  pub put_stays : (place : Place) (n m : ℕ) (f : Forest) → kind_at m (put_node place n f) ≡ kind_at m f
  pub texts_as_one : (place : Place) (cs ds : List ℕ) (f : Forest) → IsForest f → IsPlace place f →
      put place (words (cs ++ ds)) f ≡ put place (words ds) (put place (words cs) f)
  pub words_stay : (place : Place) (cs : List ℕ) (n : ℕ) (f : Forest) → IsElement n f →
      kind_at n (put place (words cs) f) ≡ kind_at n f
  pub attributes_stay : (n m : ℕ) (more : List Attribute) (f : Forest) → IsElement m f →
      IsElement m (with_attributes n more f)
  pub attribute_names : (n m : ℕ) (more : List Attribute) (f : Forest) →
      name_of m (with_attributes n more f) ≡ name_of m f
  pub attribute_contents : (n m : ℕ) (more : List Attribute) (f : Forest) →
      contents_of m (with_attributes n more f) ≡ contents_of m f
  pub attributes_size : (n : ℕ) (more : List Attribute) (f : Forest) → nodes (with_attributes n more f) ≡ nodes f
  pub made_leaf : (kind : Kind) (f : Forest) → kind_at (nodes f) (made kind f) ≡ kind
  pub size_leaf : (kind : Kind) (f : Forest) → nodes (made kind f) ≡ suc (nodes f)
  pub out_keeps : (n : ℕ) (f : Forest) → IsForest f → IsForest (detached n f)
  pub out_free : (n : ℕ) (f : Forest) → IsForest f → ¬ (IsDocument n f) → HasNoParent n (detached n f)
  pub above_out : (n a b : ℕ) (f : Forest) → Above (IsParent (detached n f)) a b → Above (IsParent f) a b
  pub out_stays : (n m : ℕ) (f : Forest) → kind_at m (detached n f) ≡ kind_at m f
  pub out_size : (n : ℕ) (f : Forest) → nodes (detached n f) ≡ nodes f
  pub given_keep : (old new : ℕ) (f : Forest) → IsForest f → CanReparent old new f →
      IsForest (reparented old new f)
  pub above_given : (old new a b : ℕ) (f : Forest) → IsForest f → CanReparent old new f →
      Above (IsParent (reparented old new f)) a b →
      Above (IsParent f) a b ⊎ (AtOrAbove (IsParent f) a new × Above (IsParent f) old b)
  pub given_stay : (old new m : ℕ) (f : Forest) → kind_at m (reparented old new f) ≡ kind_at m f
  pub given_size : (old new : ℕ) (f : Forest) → nodes (reparented old new f) ≡ nodes f
  pub put_size : (place : Place) (n : ℕ) (f : Forest) → nodes (put_node place n f) ≡ nodes f
  pub few_pushed : (n : ℕ) (tag : Tag) (entries : List Entry) → AreFew entries → AreFew (pushed n tag entries)
  pub few_marked : (entries : List Entry) → AreFew entries → AreFew (marker ∷ entries)
  pub few_cleared : (entries : List Entry) → AreFew entries → AreFew (before_marker entries)
  pub few_removed : (n : ℕ) (entries : List Entry) → AreFew entries → AreFew (without_entry n entries)
  pub few_handed : (n m : ℕ) (entries : List Entry) → AreFew entries → AreFew (handed_over n m entries)
  pub few_moved : (n m after : ℕ) (entries : List Entry) → AreFew entries →
      is_listed n (up_to_marker entries) ≡ true → is_listed after (up_to_marker (without_entry n entries)) ≡ true →
      AreFew (moved_after n m after entries)
  pub few_given : (n m : ℕ) (tag : Tag) (front back : List Entry) → AreFew (front ++ formatted n tag ∷ back) →
      AreFew (front ++ formatted m tag ∷ back)
