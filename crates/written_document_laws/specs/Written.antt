-- What is written of a page's items (WHATWG HTML, 13.3), and when it is read back as those items (13.2.5).
use Rattle.std.specs.Prelude.{◌≡◌, ◌||◌, ◌==◌, [], ◌∷◌, ◌++◌, List, Option, Some, false, not, true, unwrap_or, ℕ}
use Rattle.std.specs.List.{list_all}
use Rattle.document_laws.specs.Escaped.{HasNoNul, ReadsReferences}
use Rattle.token_grammar.specs.Characters.{is_letter, name_of}
use Rattle.token_grammar.specs.Items.{Item, characters, comment, doctype, end_of_file, error, null_character, tag}
use Rattle.token_grammar.specs.Meaning.{Meaning}
use Rattle.token_grammar.specs.Modes.{next_mode}
use Rattle.token_grammar.specs.Slices.{first_passes}
use Rattle.token_grammar.specs.Tags.{ends_attribute_name, ends_tag_name, first_of_each, greater, is_gap}
use Rattle.token_grammar.specs.declared.modes.Mode.{Mode}
use Rattle.token_grammar.specs.declared.modes.TextKind.TheVariants.{Ordinary, Raw}
use Rattle.html_lexemes.specs.declared.names.Attribute.{Attribute}
use Rattle.html_lexemes.specs.declared.names.Namespace.TheVariants.{Other}
use Rattle.html_lexemes.specs.declared.states.RawKind.TheVariants.{Rcdata}
use Rattle.html_lexemes.specs.declared.token.Tag.{Tag}
use Rattle.html_lexemes.specs.declared.token.TagKind.{TagKind}
use Rattle.html_lexemes.specs.declared.token.TagKind.TheVariants.{EndTag, StartTag}
use Rattle.tree_serializer.specs.Escapes.{doctype_text, end_text, escaped, start_text}
use Rattle.document_laws.specs.Contents.{end_of, start_of}
use Rattle.document_laws.specs.Planted.{of_html}
use Rattle.document_laws.specs.Rebuilt.{html_doctype}

-- ---- what is written: a tag by its name and attributes, a text by its characters escaped

abbrev pub tag_text : TagKind → Tag → List ℕ
tag_text StartTag t = start_text (of_html t.name) t.attrs
tag_text EndTag t = end_text (of_html t.name)

abbrev pub item_text : Item → List ℕ
item_text (characters cs) = escaped false cs
item_text (tag t) = tag_text t.kind t
item_text (doctype d) = doctype_text (unwrap_or d.name [])
item_text null_character = []
item_text (comment cs) = []
item_text error = []
item_text end_of_file = []

abbrev pub items_text : List Item → List ℕ
items_text [] = []
items_text (item ∷ items) = item_text item ++ items_text items

-- ---- what is read back

-- The names of tags and attributes, as they are read (13.2.5.8, 13.2.5.33): nothing in them ends them, and no capital
-- letter is made small.
pub record IsTagName (name : List ℕ) : Type 0 where
  pub begins : first_passes is_letter name ≡ true
  pub goes_on : list_all (λ c. not (ends_tag_name c)) name ≡ true
  pub lower : name_of name ≡ name

pub record IsAttributeName (name : List ℕ) : Type 0 where
  pub begins : first_passes (λ c. not (is_gap c || c == greater)) name ≡ true
  pub goes_on : list_all (λ c. not (ends_attribute_name c)) name ≡ true
  pub lower : name_of name ≡ name

-- attributes in no namespace
abbrev pub AreAttributes : List Attribute → Type 0
AreAttributes [] = Unit {0}
AreAttributes (a ∷ attributes) =
    ((a.name.ns ≡ Other []) × (IsAttributeName a.name.local × HasNoNul a.value)) × AreAttributes attributes

-- ordinary text after a start tag, and the text of a title or a text area (RCDATA) after its own
abbrev pub ordinary : Option (List ℕ) → Mode
ordinary last = record { text = Ordinary; last_start_tag = last }

abbrev pub rcdata_of : List ℕ → Mode
rcdata_of name = record { text = Raw Rcdata; last_start_tag = Some name }

-- an item that is read back in a mode: texts where references are read, tags and doctypes in ordinary text, and in an
-- element's text the end tag of the element alone
pub data IsReadBack : Mode → Item → Type 0 where
  text : (mode : Mode) (cs : List ℕ) → ReadsReferences mode.text → HasNoNul cs → IsReadBack mode (characters cs)
  opens : (last : Option (List ℕ)) (name : List ℕ) (attributes : List Attribute) → IsTagName name →
      AreAttributes attributes → first_of_each [] attributes ≡ attributes →
      IsReadBack (ordinary last) (start_of name attributes)
  closes : (last : Option (List ℕ)) (name : List ℕ) → IsTagName name → IsReadBack (ordinary last) (end_of name)
  ends_text : (name : List ℕ) → IsTagName name → list_all is_letter name ≡ true →
      IsReadBack (rcdata_of name) (end_of name)
  declares : (last : Option (List ℕ)) → IsReadBack (ordinary last) html_doctype

-- the mode after an item, by the sink's reply to it
abbrev pub mode_after : {A H : Type 0} → Meaning A H → Mode → A → Item → Mode
mode_after means mode state (tag t) = next_mode mode t (means.reply state (tag t))
mode_after means mode state (characters cs) = mode
mode_after means mode state null_character = mode
mode_after means mode state (comment cs) = mode
mode_after means mode state (doctype d) = mode
mode_after means mode state error = mode
mode_after means mode state end_of_file = mode

-- items each of which is read back in the mode in which it stands
abbrev pub AreReadBack : {A H : Type 0} → Meaning A H → Mode → A → List Item → Type 0
AreReadBack means mode state [] = Unit {0}
AreReadBack means mode state (item ∷ items) =
    IsReadBack mode item × AreReadBack means (mode_after means mode state item) (means.step state item) items

abbrev pub mode_after_all : {A H : Type 0} → Meaning A H → Mode → A → List Item → Mode
mode_after_all means mode state [] = mode
mode_after_all means mode state (item ∷ items) =
    mode_after_all means (mode_after means mode state item) (means.step state item) items
