-- What is popped, inserted or listed keeps a sound tree sound, and its elements.
use Rattle.std.proofs.Common.{◌≡◌, if◌then◌else◌, [], ◌∷◌, Bool, List, None, Option, Some, codes, false, inl, inr, refl}
use Rattle.std.proofs.Common.{subst, sym, true, ℕ}
use Rattle.std.proofs.lemmas.Bool.{cond_both}
use Rattle.tree_forest.specs.Forest.{Forest, Holds, comment, doctype, is_integration_point, name_of, nodes}
use Rattle.tree_forest.specs.Conditions.{IsPlace}
use Rattle.tree_forest.specs.Orders.{IsForest, IsIn}
use Rattle.tree_forest.specs.Places.{Place, below}
use Rattle.html_lexemes.specs.declared.names.Attribute.{Attribute}
use Rattle.html_lexemes.specs.declared.names.QualName.{QualName}
use Rattle.html_lexemes.specs.declared.token.Doctype.{Doctype}
use Rattle.html_lexemes.specs.declared.token.Tag.{Tag}
use Rattle.tree_model.specs.Adoption.{closed_by_other_end, closed_with, named_before_special, popped_with}
use Rattle.tree_model.specs.Building.{Building}
use Rattle.tree_model.specs.Foreign.{broken_out, closed_by_foreign_end, from_html, named_foreign, popped_with_any}
use Rattle.tree_model.specs.Formatting.{inserted_for, inserted_formatting, name_for}
use Rattle.tree_model.specs.Insertions.{commented_at, here, inserted_at, root_of, said, with_doctype_of, with_element}
use Rattle.tree_model.specs.Laws.{Laws}
use Rattle.tree_model.specs.OpenElements.{below_first, from_first}
use Rattle.tree_model.specs.Scopes.{has_item, implied, is_in_scope, popped_down_to, popped_to, with_closed_item}
use Rattle.tree_model.specs.Scopes.{with_closed_p, without_implied}
use Rattle.tree_model.specs.Sound.{Sound}
use Rattle.tree_model.specs.Words.{HasGrown, IsKept, Keeps}
use Rattle.tree_model.proofs.AdoptionLemmas.{left_sound, popped_with_sound}
use Rattle.tree_model.proofs.InsertedLemmas.{commented_sound, doctyped_sound, inserted_sound, said_sound}
use Rattle.tree_model.proofs.InsertedLemmas.{with_element_sound}
use Rattle.tree_model.proofs.KeptSizes.{element_grows, grown_itself, grown_on, put_grows, put_leaf_grows, words_grow}
use Rattle.tree_model.proofs.ListedLemmas.{inserted_formatting_sound}
use Rattle.tree_model.proofs.NearerLemmas.{IsLeft, all_left, left_after}
use Rattle.tree_names.specs.ElementSets.{button_scope_barriers}
use Rattle.tree_names.specs.Sets.{Elements, is_element_of, is_one_of}
use Rattle.tree_names.specs.TagSets.{formatting}
use Rattle.tree_names.specs.Wanted.{is_implied, one}
use Rattle.tree_predicates.specs.Foreign.{stops_break_out}

-- two steps, one of two, and none
pub kept_on : (a b c : Building) → IsKept a b → IsKept b c → IsKept a c
kept_on a b c one two = record {
  sound = two.sound;
  grown = grown_on a.forest b.forest c.forest one.grown two.grown;
}

pub kept_itself : Keeps (λ b. b)
kept_itself b sound = record { sound = sound; grown = grown_itself b.forest }

pub kept_if : (t : Bool) (b x y : Building) → IsKept b x → IsKept b y → IsKept b (if t then x else y)
kept_if true b x y h k = h
kept_if false b x y h k = k

-- the nodes stay
pub kept_nodes : (b c : Building) → c.forest ≡ b.forest → Sound c → IsKept b c
kept_nodes b c same sound = record {
  sound = sound;
  grown = subst (HasGrown b.forest) (sym same) (grown_itself b.forest);
}

-- elements are popped
kept_left : (b : Building) (ns : List ℕ) → Sound b → IsLeft ns b.stack → IsKept b (record b { stack = ns })
kept_left b ns sound left = kept_nodes b _ refl (left_sound b ns sound left)

implied_left : (except : Elements) (f : Forest) (ns : List ℕ) → IsLeft (without_implied except f ns) ns
implied_left except f [] = all_left []
implied_left except f (n ∷ ns) = cond_both (is_implied except (name_of n f)) (without_implied except f ns) (n ∷ ns)
    (λ l. IsLeft l (n ∷ ns)) (λ e. left_after n (without_implied except f ns) ns (implied_left except f ns))
    (λ e. all_left (n ∷ ns))

below_left : (set : Elements) (f : Forest) (ns : List ℕ) → IsLeft (below_first set f ns) ns
below_left set f [] = all_left []
below_left set f (n ∷ ns) = cond_both (is_element_of set (name_of n f)) ns (below_first set f ns)
    (λ l. IsLeft l (n ∷ ns)) (λ e. left_after n ns ns (all_left ns))
    (λ e. left_after n (below_first set f ns) ns (below_left set f ns))

from_left : (set : Elements) (f : Forest) (ns : List ℕ) → IsLeft (from_first set f ns) ns
from_left set f [] = all_left []
from_left set f (n ∷ ns) = cond_both (is_element_of set (name_of n f)) (n ∷ ns) (from_first set f ns)
    (λ l. IsLeft l (n ∷ ns)) (λ e. all_left (n ∷ ns))
    (λ e. left_after n (from_first set f ns) ns (from_left set f ns))

pub implied_kept : (except : Elements) → Keeps (implied except)
implied_kept except b sound = kept_left b _ sound (implied_left except b.forest b.stack)

pub popped_to_kept : (set : Elements) → Keeps (popped_to set)
popped_to_kept set b sound = kept_left b _ sound (below_left set b.forest b.stack)

pub popped_down_kept : (set : Elements) → Keeps (popped_down_to set)
popped_down_kept set b sound = kept_left b _ sound (from_left set b.forest b.stack)

closed_kept : (set : Elements) → Keeps (λ b. popped_to set (implied set b))
closed_kept set b sound =
    let first = implied_kept set b sound in
    kept_on b (implied set b) (popped_to set (implied set b)) first (popped_to_kept set (implied set b) first.sound)

pub closed_p_kept : Keeps with_closed_p
closed_p_kept b sound =
    let p = one (codes "p") in
    kept_if (is_in_scope button_scope_barriers p b) b (popped_to p (implied p b)) b (closed_kept p b sound)
    (kept_itself b sound)

pub closed_item_kept : (set : Elements) → Keeps (with_closed_item set)
closed_item_kept set b sound =
    kept_if (has_item set b.forest b.stack) b (popped_to set (implied set b)) b (closed_kept set b sound)
    (kept_itself b sound)

other_end_kept : (found : Option ℕ) (name : List ℕ) → Keeps (closed_with found name)
other_end_kept None name b sound = kept_itself b sound
other_end_kept (Some n) name b sound =
    let first = implied_kept (one name) b sound in
    kept_on b (implied (one name) b) (popped_with n (implied (one name) b)) first
    (kept_nodes (implied (one name) b) _ refl (popped_with_sound n (implied (one name) b) first.sound))

pub closed_other_kept : (name : List ℕ) → Keeps (closed_by_other_end name)
closed_other_kept name b sound = other_end_kept (named_before_special name b.forest b.stack) name b sound

-- elements of foreign content are popped
html_left : (f : Forest) (ns : List ℕ) → IsLeft (from_html f ns) ns
html_left f [] = all_left []
html_left f (n ∷ ns) = cond_both (stops_break_out (name_of n f) (is_integration_point n f)) (n ∷ ns) (from_html f ns)
    (λ l. IsLeft l (n ∷ ns)) (λ e. all_left (n ∷ ns))
    (λ e. left_after n (from_html f ns) ns (html_left f ns))

pub broken_out_kept : Keeps broken_out
broken_out_kept b sound = kept_left b _ sound (html_left b.forest b.stack)

foreign_end_kept : (found : Option ℕ) → Keeps (popped_with_any found)
foreign_end_kept None b sound = kept_itself b sound
foreign_end_kept (Some n) b sound = kept_nodes b _ refl (popped_with_sound n b sound)

pub closed_foreign_kept : (name : List ℕ) → Keeps (closed_by_foreign_end name)
closed_foreign_kept name b sound = foreign_end_kept (named_foreign name b.forest b.stack) b sound

-- what is inserted
root_there : (f : Forest) (ns : List ℕ) → IsForest f → ((n : ℕ) → IsIn n ns → Holds n f) → Holds (root_of ns) f
root_there f [] forest held = forest.page.0
root_there f (n ∷ []) forest held = held n (inl refl)
root_there f (n ∷ m ∷ ns) forest held = root_there f (m ∷ ns) forest (λ k i. held k (inr i))

module _ (laws : Laws) where
  element_grown : (place : Place) (name : QualName) (attributes : List Attribute) (b : Building) →
      HasGrown b.forest (with_element place name attributes b).forest
  element_grown place name attributes b =
      put_grows laws place (nodes b.forest) b.forest _ (element_grows laws name attributes _ _ b.forest)

  pub inserted_kept : (place : Place) (name : QualName) (attributes : List Attribute) (b : Building) → Sound b →
      IsPlace place b.forest → IsKept b (inserted_at place name attributes b)
  inserted_kept place name attributes b sound there = record {
    sound = inserted_sound laws place name attributes b sound there;
    grown = element_grown place name attributes b;
  }

  pub with_element_kept : (place : Place) (name : QualName) (attributes : List Attribute) (b : Building) → Sound b →
      IsPlace place b.forest → IsKept b (with_element place name attributes b)
  with_element_kept place name attributes b sound there = record {
    sound = with_element_sound laws place name attributes b sound there;
    grown = element_grown place name attributes b;
  }

  pub inserted_for_grows : (tag : Tag) (b : Building) → HasGrown b.forest (inserted_for tag b).forest
  inserted_for_grows tag b = element_grown (here b) (name_for tag) tag.attrs b

  pub formatting_kept : (tag : Tag) → is_one_of formatting tag.name ≡ true → Keeps (inserted_formatting tag)
  formatting_kept tag is b sound = record {
    sound = inserted_formatting_sound laws tag b sound is;
    grown = inserted_for_grows tag b;
  }

  pub said_kept : (cs : List ℕ) → Keeps (said cs)
  said_kept cs b sound = record {
    sound = said_sound laws cs b sound;
    grown = words_grow laws (here b) cs b.forest;
  }

  pub commented_kept : (place : Place) (cs : List ℕ) (b : Building) → Sound b → IsPlace place b.forest →
      IsKept b (commented_at place cs b)
  commented_kept place cs b sound there = record {
    sound = commented_sound laws place cs b sound there;
    grown = put_leaf_grows laws place (comment cs) b.forest;
  }

  pub root_place : (b : Building) → Sound b → IsPlace (below (root_of b.stack)) b.forest
  root_place b sound = root_there b.forest b.stack sound.forest
      (λ n i. laws.element_there n b.forest (sound.elements n i))

  pub doctyped_kept : (d : Doctype) → Keeps (with_doctype_of d)
  doctyped_kept d b sound = record {
    sound = doctyped_sound laws d b sound;
    grown = put_leaf_grows laws (below 0) (doctype _ _ _) b.forest;
  }
