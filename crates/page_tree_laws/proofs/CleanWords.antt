-- What words on a tree make of its texts, and of the open elements: none of them is of a barred name.
use Rattle.std.proofs.Common.{◌≡◌, ◌+◌, if◌then◌else◌, [], ◌∷◌, ◌∙◌, Bool, List, ap, arith, codes, false, inl, inr}
use Rattle.std.proofs.Common.{refl, subst, sym, true, ℕ}
use Rattle.tree_formatting.specs.Entries.{Entry, formatted, marker}
use Rattle.tree_forest.specs.Changes.{made_element}
use Rattle.tree_forest.specs.Forest.{Forest, Holds, name_of, nodes}
use Rattle.tree_forest.specs.Orders.{IsIn}
use Rattle.tree_forest.specs.Places.{Place, put, put_node, words}
use Rattle.html_lexemes.specs.declared.names.Attribute.{Attribute}
use Rattle.html_lexemes.specs.declared.names.QualName.{QualName}
use Rattle.html_lexemes.specs.declared.token.Tag.{Tag}
use Rattle.html_tree_state.specs.Building.{Building}
use Rattle.html_tree_state.specs.Formatting.{all_made_anew, inserted_formatting, made_already, made_anew, name_for}
use Rattle.html_tree_state.specs.Formatting.{reconstructed, to_make}
use Rattle.html_tree_state.specs.Insertions.{here, inserted_at, said, with_element}
use Rattle.tree_names.specs.Sets.{is_html, is_one_of}
use Rattle.tree_names.specs.TagSets.{formatting}
use Rattle.tree_predicates.specs.Attributes.{is_html_annotation}
use Rattle.page_tree_laws.proofs.CleanLists.{AreFormatting, AreLeft, after_entry, already_formatting, formatting_free}
use Rattle.page_tree_laws.proofs.CleanLists.{is_barred, pushed_formatting, to_make_formatting}
use Rattle.page_tree_laws.proofs.ForestTexts.{Follows, IsNew, element_new, new_then, put_follows, still_held}
use Rattle.page_tree_laws.proofs.WordTexts.{Says, words_said}
use Rattle.page_tree_laws.specs.KeptText.{how_often, in_texts}

-- some nodes are there, and none is an element of a barred name
abbrev pub AreFree : Forest → List ℕ → Type 0
AreFree f ns = (n : ℕ) → IsIn n ns → Holds n f × (is_barred (name_of n f) ≡ false)

pub record IsClean (b : Building) : Type 0 where
  pub free : AreFree b.forest b.stack
  pub listed : AreFormatting b.formatting

-- a word that says nothing, and keeps what is clean
pub record IsCarried (b d : Building) : Type 0 where
  pub texts : (c : ℕ) → in_texts c d.forest ≡ in_texts c b.forest
  pub clean : IsClean d

pub carried_on : (a b d : Building) → IsCarried a b → (IsClean b → IsCarried b d) → IsCarried a d
carried_on a b d first more =
    let second : IsCarried b d = more first.clean in
    record { texts = λ c. second.texts c ∙ first.texts c; clean = second.clean }

pub carried_itself : (b : Building) → IsClean b → IsCarried b b
carried_itself b clean = record { texts = λ c. refl; clean = clean }

pub carried_if : (x : Bool) (b d old : Building) → IsCarried old b → IsCarried old d →
    IsCarried old (if x then b else d)
carried_if true b d old f g = f
carried_if false b d old f g = g

pub free_left : (f : Forest) (ms ns : List ℕ) → AreLeft ms ns → AreFree f ns → AreFree f ms
free_left f ms ns left free n i = free n (left n i)

pub free_on : (f g : Forest) (n : ℕ) → Follows f g → Holds n f × (is_barred (name_of n f) ≡ false) →
    Holds n g × (is_barred (name_of n g) ≡ false)
free_on f g n follows is =
    (still_held n (nodes f) (nodes g) is.0 follows.size, ap is_barred (follows.names n is.0) ∙ is.1)

pub free_follows : (f g : Forest) (ns : List ℕ) → Follows f g → AreFree f ns → AreFree g ns
free_follows f g ns follows free n i = free_on f g n follows (free n i)

-- a word that pops elements
pub popped_carried : (b : Building) (ms : List ℕ) → AreLeft ms b.stack → IsClean b →
    IsCarried b (record b { stack = ms })
popped_carried b ms left clean = record {
  texts = λ c. refl;
  clean = record { free = free_left b.forest ms b.stack left clean.free; listed = clean.listed };
}

-- a word that changes the forest alone
pub forest_carried : (b : Building) (g : Forest) → Follows b.forest g → IsClean b →
    IsCarried b (record b { forest = g })
forest_carried b g follows clean = record {
  texts = follows.texts;
  clean = record { free = free_follows b.forest g b.stack follows clean.free; listed = clean.listed };
}

-- a word that changes the list alone
pub list_carried : (b : Building) (es : List Entry) → AreFormatting es → IsClean b →
    IsCarried b (record b { formatting = es })
list_carried b es are clean = record { texts = λ c. refl; clean = record { free = clean.free; listed = are } }

pub element_put : (place : Place) (name : QualName) (attributes : List Attribute) (b : Building) →
    IsNew name b.forest (with_element place name attributes b).forest
element_put place name attributes b =
    let t = is_html (codes "template") name in
    let p = is_html_annotation name attributes in
    let g = made_element name attributes t p b.forest in
    new_then name b.forest g (put_node place (nodes b.forest) g) (element_new name attributes t p b.forest)
    (put_follows place (nodes b.forest) g)

pub void_carried : (place : Place) (name : QualName) (attributes : List Attribute) (b : Building) → IsClean b →
    IsCarried b (with_element place name attributes b)
void_carried place name attributes b clean =
    forest_carried b (with_element place name attributes b).forest (element_put place name attributes b).follows clean

-- elements that were there, and a new one
new_free : (name : QualName) (f g : Forest) (ns : List ℕ) → IsNew name f g → is_barred name ≡ false →
    AreFree f ns → AreFree g (nodes f ∷ ns)
new_free name f g ns new is free n (inl e) = (
  subst (λ k. Holds k g) (sym e) new.held,
  subst (λ k. is_barred (name_of k g) ≡ false) (sym e) (ap is_barred new.named ∙ is),
)
new_free name f g ns new is free n (inr i) = free_on f g n new.follows (free n i)

pub inserted_carried : (place : Place) (name : QualName) (attributes : List Attribute) (b : Building) →
    is_barred name ≡ false → IsClean b → IsCarried b (inserted_at place name attributes b)
inserted_carried place name attributes b is clean =
    let new = element_put place name attributes b in
    record {
      texts = new.follows.texts;
      clean = record {
        free = new_free name b.forest (with_element place name attributes b).forest b.stack new is clean.free;
        listed = clean.listed;
      };
    }

pub listed_carried : (tag : Tag) (b : Building) → is_one_of formatting tag.name ≡ true → IsClean b →
    IsCarried b (inserted_formatting tag b)
listed_carried tag b is clean =
    let step = inserted_carried (here b) (name_for tag) tag.attrs b (formatting_free tag.name is) clean in
    record {
      texts = step.texts;
      clean = record {
        free = step.clean.free;
        listed = pushed_formatting (nodes b.forest) tag b.formatting is clean.listed;
      };
    }

-- reconstruction: each entry is made anew, the earliest first
entry_carried : (entry : Entry) (earlier : List Entry) (b : Building) → AreFormatting (entry ∷ earlier) → IsClean b →
    IsCarried b (made_anew entry b)
entry_carried marker earlier b are clean =
    record { texts = λ c. refl; clean = record { free = clean.free; listed = clean.listed } }
entry_carried (formatted n tag) earlier b are clean =
    let step = inserted_carried (here b) (name_for tag) tag.attrs b (formatting_free tag.name are.0) clean in
    record {
      texts = step.texts;
      clean = record { free = step.clean.free; listed = (are.0, clean.listed) };
    }

all_carried : (entries : List Entry) (b : Building) → AreFormatting entries → IsClean b →
    IsCarried b (all_made_anew entries b)
all_carried [] b are clean = carried_itself b clean
all_carried (entry ∷ earlier) b are clean =
    carried_on b (all_made_anew earlier b) (made_anew entry (all_made_anew earlier b))
    (all_carried earlier b (after_entry entry earlier are) clean)
    (entry_carried entry earlier (all_made_anew earlier b) are)

pub reconstructed_carried : (b : Building) → IsClean b → IsCarried b (reconstructed b)
reconstructed_carried b clean =
    carried_on b (record b { formatting = made_already b.stack b.formatting }) (reconstructed b)
    (list_carried b (made_already b.stack b.formatting) (already_formatting b.stack b.formatting clean.listed) clean)
    (all_carried (to_make b.stack b.formatting) (record b { formatting = made_already b.stack b.formatting })
    (to_make_formatting b.stack b.formatting clean.listed))

-- characters are said
pub record IsSpoken (cs : List ℕ) (b d : Building) : Type 0 where
  pub texts : (c : ℕ) → in_texts c d.forest ≡ in_texts c b.forest + how_often c cs
  pub clean : IsClean d

pub says_free : (cs : List ℕ) (f g : Forest) (ns : List ℕ) → Says cs f g → AreFree f ns → AreFree g ns
says_free cs f g ns says free n i =
    let is = free n i in
    (still_held n (nodes f) (nodes g) is.0 says.size, ap is_barred (says.names n is.0) ∙ is.1)

pub said_spoken : (cs : List ℕ) (b : Building) → IsClean b → IsSpoken cs b (said cs b)
said_spoken cs b clean =
    let says = words_said (here b) cs b.forest in
    record {
      texts = says.texts;
      clean = record {
        free = says_free cs b.forest (put (here b) (words cs) b.forest) b.stack says clean.free;
        listed = clean.listed;
      };
    }

silent : (x y : ℕ) → y ≡ x → y ≡ x + 0
silent x y e = omega (arith, e)

pub carried_silent : (b d : Building) → IsCarried b d → IsSpoken [] b d
carried_silent b d step = record {
  texts = λ c. silent (in_texts c b.forest) (in_texts c d.forest) (step.texts c);
  clean = step.clean;
}
