-- What is read in a kind of text, and what a sink takes there.
use Rattle.std.specs.Prelude.{List, [], ◌∷◌}
use Rattle.html_lexemes.specs.declared.token.Tag.{Tag}
use Rattle.html_lexemes.specs.declared.token.TagKind.{TagKind}
use Rattle.html_lexemes.specs.declared.token.TagKind.TheVariants.{StartTag, EndTag}
use Rattle.token_grammar.specs.Items.{Item, characters, null_character, tag, comment, doctype, error, end_of_file}
use Rattle.token_grammar.specs.Lexemes.{Lexeme, nothing, emitted, tagged}
use Rattle.token_grammar.specs.Meaning.{Meaning}
use Rattle.token_grammar.specs.Modes.{text_after}
use Rattle.token_grammar.specs.declared.modes.TextKind.{TextKind}
use Rattle.token_grammar.specs.declared.modes.TextKind.TheVariants.{Ordinary, Plain, Raw}

-- ordinary text alone has markup (WHATWG HTML, 13.2.5.1 to 13.2.5.5)
abbrev pub HasMarkup : TextKind → Type 0
HasMarkup Ordinary = Unit {0}
HasMarkup Plain = ⊥
HasMarkup (Raw kind) = ⊥

abbrev pub IsOfTag : TextKind → TagKind → Type 0
IsOfTag kind EndTag = Unit {0}
IsOfTag kind StartTag = HasMarkup kind

-- In other text characters, errors, an end tag and the end alone are emitted.
abbrev pub IsOf : TextKind → Item → Type 0
IsOf kind (characters cs) = Unit {0}
IsOf kind error = Unit {0}
IsOf kind end_of_file = Unit {0}
IsOf kind (tag t) = IsOfTag kind t.kind
IsOf kind null_character = HasMarkup kind
IsOf kind (comment cs) = HasMarkup kind
IsOf kind (doctype d) = HasMarkup kind

-- neither a tag, after which the text may be of another kind, nor the end
abbrev pub IsWithin : Item → Type 0
IsWithin (characters cs) = Unit {0}
IsWithin error = Unit {0}
IsWithin null_character = Unit {0}
IsWithin (comment cs) = Unit {0}
IsWithin (doctype d) = Unit {0}
IsWithin (tag t) = ⊥
IsWithin end_of_file = ⊥

abbrev pub AreWithin : TextKind → List Item → Type 0
AreWithin kind [] = Unit {0}
AreWithin kind (item ∷ items) = (IsWithin item × IsOf kind item) × AreWithin kind items

-- A lexeme is of a kind of text, and but for a tag nothing leads out of it.
abbrev pub LexemeOf : TextKind → Lexeme → Type 0
LexemeOf kind nothing = Unit {0}
LexemeOf kind (emitted items trailing rest) = AreWithin kind items × (HasMarkup trailing.text → HasMarkup kind)
LexemeOf kind (tagged t rest) = IsOf kind (tag t)

-- What a sink that welcomes an item keeps to: what it welcomes beside an item, it welcomes after it; and after a tag
-- it welcomes what is emitted in the text that it asked for. The end, after which nothing is emitted, is left out.
pub record IsHearing {A H : Type 0} (means : Meaning A H) (welcomes : A → Item → Type 0) : Type 0 where
  pub goes_on : (state : A) (item later : Item) → IsWithin item → welcomes state item → welcomes state later →
      welcomes (means.step state item) later
  pub asks : (state : A) (t : Tag) (later : Item) → welcomes state (tag t) →
      IsOf (text_after (means.reply state (tag t))) later → welcomes (means.step state (tag t)) later

-- A sink is ready, and welcomes all that is emitted in a kind of text.
pub record IsReadyFor {A : Type 0} (ready : A → Type 0) (welcomes : A → Item → Type 0) (kind : TextKind)
    (state : A) : Type 0 where
  pub is_ready : ready state
  pub hears : (item : Item) → IsOf kind item → welcomes state item

-- items none of which is a tag, each welcome
abbrev pub AreWelcome : {A : Type 0} → (A → Item → Type 0) → A → List Item → Type 0
AreWelcome welcomes state [] = Unit {0}
AreWelcome welcomes state (item ∷ items) = (IsWithin item × welcomes state item) × AreWelcome welcomes state items
