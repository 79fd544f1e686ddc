-- Words on a tree that open no template: no more templates are open after them than before. Open elements are there
-- and listed tags are of formatting elements, before and after.
use Rattle.std.proofs.Common.{◌≡◌, ◌≤◌, ◌⊎◌, if◌then◌else◌, [], ◌∷◌, ◌∙◌, Bool, List, ap, codes, false, inl, inr, refl}
use Rattle.std.proofs.Common.{subst, sym, true, ℕ}
use Rattle.tree_formatting.specs.Entries.{Entry, formatted, marker}
use Rattle.tree_forest.specs.Forest.{Forest, Holds, nodes}
use Rattle.tree_forest.specs.Orders.{IsIn}
use Rattle.tree_forest.specs.Places.{Place, put, words}
use Rattle.html_lexemes.specs.declared.names.Attribute.{Attribute}
use Rattle.html_lexemes.specs.declared.names.QualName.{QualName}
use Rattle.html_lexemes.specs.declared.token.Tag.{Tag}
use Rattle.html_tree_state.specs.Building.{Building}
use Rattle.html_tree_state.specs.Formatting.{all_made_anew, inserted_formatting, made_already, made_anew, name_for}
use Rattle.html_tree_state.specs.Formatting.{reconstructed, to_make}
use Rattle.html_tree_state.specs.Insertions.{here, inserted_at, is_template, said, with_element}
use Rattle.page_tree_laws.proofs.CleanLists.{AreFormatting, AreLeft, AreLeftOr, after_entry, already_formatting}
use Rattle.page_tree_laws.proofs.CleanLists.{pushed_formatting, to_make_formatting}
use Rattle.page_tree_laws.proofs.CleanWords.{element_put}
use Rattle.page_tree_laws.proofs.ForestTexts.{Follows, IsNew, still_held}
use Rattle.page_tree_laws.proofs.WordTexts.{words_said}
use Rattle.tree_names.specs.Sets.{is_html, is_one_of}
use Rattle.tree_names.specs.TagSets.{formatting}
use Rattle.page_tree_laws.proofs.GroupNames.{apart}
use Rattle.page_tree_laws.proofs.TemplateLists.{AreFewer, KeepsNames, all_fewer, as_many, fewer_on, other_first}
use Rattle.page_tree_laws.proofs.TemplateLists.{same_fewer, templates_in}

-- open elements are there, and listed tags are of formatting elements
pub record IsPresent (b : Building) : Type 0 where
  pub held : (n : ℕ) → IsIn n b.stack → Holds n b.forest
  pub listed : AreFormatting b.formatting

-- a word that opens no template
pub record OpensNone (b d : Building) : Type 0 where
  pub fewer : templates_in d.forest d.stack ≤ templates_in b.forest b.stack
  pub present : IsPresent d

pub none_on : (a b d : Building) → OpensNone a b → (IsPresent b → OpensNone b d) → OpensNone a d
none_on a b d first more =
    let second : OpensNone b d = more first.present in
    record {
      fewer = fewer_on (templates_in d.forest d.stack) (templates_in b.forest b.stack) (templates_in a.forest a.stack)
          second.fewer first.fewer;
      present = second.present;
    }

pub none_itself : (b : Building) → IsPresent b → OpensNone b b
none_itself b present = record { fewer = all_fewer b.forest b.stack; present = present }

pub none_if : (x : Bool) (b d old : Building) → OpensNone old b → OpensNone old d →
    OpensNone old (if x then b else d)
none_if true b d old f g = f
none_if false b d old f g = g

-- a formatting element is no template
no_template : (name : List ℕ) → is_one_of formatting name ≡ true → is_one_of (codes "template" ∷ []) name ≡ false
no_template name is = apart (is_one_of formatting) (codes "template" ∷ []) name refl is

pub formatting_none : (tag : Tag) → is_one_of formatting tag.name ≡ true →
    is_html (codes "template") (name_for tag) ≡ false
formatting_none tag is = no_template tag.name is

-- a word that pops elements
pub popped_none : (b : Building) (ms : List ℕ) → AreLeft ms b.stack → AreFewer b.forest ms b.stack → IsPresent b →
    OpensNone b (record b { stack = ms })
popped_none b ms left fewer present = record {
  fewer = fewer;
  present = record { held = λ n i. present.held n (left n i); listed = present.listed };
}

-- a word that changes the forest alone
pub keeps_by : (f h : Forest) → Follows f h → KeepsNames f h
keeps_by f h follows = record { names = follows.names; size = follows.size }

pub still_there : (f h : Forest) (ns : List ℕ) → KeepsNames f h → ((n : ℕ) → IsIn n ns → Holds n f) →
    (n : ℕ) → IsIn n ns → Holds n h
still_there f h ns keeps held n i = still_held n (nodes f) (nodes h) (held n i) keeps.size

named_none : (b : Building) (h : Forest) → KeepsNames b.forest h → IsPresent b → OpensNone b (record b { forest = h })
named_none b h keeps present = record {
  fewer = same_fewer (templates_in h b.stack) (templates_in b.forest b.stack)
      (as_many b.forest h b.stack keeps present.held);
  present = record { held = still_there b.forest h b.stack keeps present.held; listed = present.listed };
}

pub forest_none : (b : Building) (h : Forest) → Follows b.forest h → IsPresent b →
    OpensNone b (record b { forest = h })
forest_none b h follows present = named_none b h (keeps_by b.forest h follows) present

pub said_none : (cs : List ℕ) (b : Building) → IsPresent b → OpensNone b (said cs b)
said_none cs b present =
    let says = words_said (here b) cs b.forest in
    named_none b (put (here b) (words cs) b.forest) (record { names = says.names; size = says.size }) present

-- a word that changes the list alone
pub list_none : (b : Building) (es : List Entry) → AreFormatting es → IsPresent b →
    OpensNone b (record b { formatting = es })
list_none b es are present = record {
  fewer = all_fewer b.forest b.stack;
  present = record { held = present.held; listed = are };
}

-- an element more, which is no template
pub new_none : (name : QualName) (f h : Forest) → IsNew name f h → is_html (codes "template") name ≡ false →
    is_template (nodes f) h ≡ false
new_none name f h new is = ap (is_html (codes "template")) new.named ∙ is

pub with_new : (name : QualName) (f h : Forest) (ns ms : List ℕ) → IsNew name f h →
    ((n : ℕ) → IsIn n ns → Holds n f) → AreLeftOr (nodes f) ms ns → (n : ℕ) → IsIn n ms → Holds n h
with_new name f h ns ms new held left n i = by (left n i) where
  by : (n ≡ nodes f) ⊎ IsIn n ns → Holds n h
  by (inl e) = subst (λ k. Holds k h) (sym e) new.held
  by (inr j) = still_held n (nodes f) (nodes h) (held n j) new.follows.size

-- no more than before, where no more are among what was there
pub fewer_with : (f h : Forest) (ns ms : List ℕ) → Follows f h → ((n : ℕ) → IsIn n ns → Holds n f) →
    AreFewer h ms ns → templates_in h ms ≤ templates_in f ns
fewer_with f h ns ms follows held fewer = fewer_on (templates_in h ms) (templates_in h ns) (templates_in f ns) fewer
    (same_fewer (templates_in h ns) (templates_in f ns) (as_many f h ns (keeps_by f h follows) held))

pub void_none : (place : Place) (name : QualName) (attributes : List Attribute) (b : Building) → IsPresent b →
    OpensNone b (with_element place name attributes b)
void_none place name attributes b present =
    forest_none b (with_element place name attributes b).forest (element_put place name attributes b).follows present

first_or : (c : ℕ) (ns : List ℕ) → AreLeftOr c (c ∷ ns) ns
first_or c ns k (inl e) = inl e
first_or c ns k (inr i) = inr i

pub inserted_none : (place : Place) (name : QualName) (attributes : List Attribute) (b : Building) →
    is_html (codes "template") name ≡ false → IsPresent b → OpensNone b (inserted_at place name attributes b)
inserted_none place name attributes b is present =
    let f = b.forest in
    let h = (with_element place name attributes b).forest in
    let new = element_put place name attributes b in
    record {
      fewer = fewer_with f h b.stack (nodes f ∷ b.stack) new.follows present.held
          (other_first h (nodes f) b.stack b.stack (new_none name f h new is) (all_fewer h b.stack));
      present = record {
        held = with_new name f h b.stack (nodes f ∷ b.stack) new present.held (first_or (nodes f) b.stack);
        listed = present.listed;
      };
    }

pub listed_none : (tag : Tag) (b : Building) → is_one_of formatting tag.name ≡ true → IsPresent b →
    OpensNone b (inserted_formatting tag b)
listed_none tag b is present =
    let step = inserted_none (here b) (name_for tag) tag.attrs b (formatting_none tag is) present in
    record {
      fewer = step.fewer;
      present = record {
        held = step.present.held;
        listed = pushed_formatting (nodes b.forest) tag b.formatting is present.listed;
      };
    }

-- reconstruction: each entry is made anew, the earliest first
entry_none : (entry : Entry) (earlier : List Entry) (b : Building) → AreFormatting (entry ∷ earlier) → IsPresent b →
    OpensNone b (made_anew entry b)
entry_none marker earlier b are present = list_none b (marker ∷ b.formatting) present.listed present
entry_none (formatted n tag) earlier b are present =
    let step = inserted_none (here b) (name_for tag) tag.attrs b (formatting_none tag are.0) present in
    record {
      fewer = step.fewer;
      present = record { held = step.present.held; listed = (are.0, present.listed) };
    }

all_none : (entries : List Entry) (b : Building) → AreFormatting entries → IsPresent b →
    OpensNone b (all_made_anew entries b)
all_none [] b are present = none_itself b present
all_none (entry ∷ earlier) b are present =
    none_on b (all_made_anew earlier b) (made_anew entry (all_made_anew earlier b))
    (all_none earlier b (after_entry entry earlier are) present)
    (entry_none entry earlier (all_made_anew earlier b) are)

pub reconstructed_none : (b : Building) → IsPresent b → OpensNone b (reconstructed b)
reconstructed_none b present =
    none_on b (record b { formatting = made_already b.stack b.formatting }) (reconstructed b)
    (list_none b (made_already b.stack b.formatting) (already_formatting b.stack b.formatting present.listed) present)
    (all_none (to_make b.stack b.formatting) (record b { formatting = made_already b.stack b.formatting })
    (to_make_formatting b.stack b.formatting present.listed))
