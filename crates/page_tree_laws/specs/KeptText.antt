-- Text is kept: each character that a page emits as text stands in its tree as often as it was emitted, but for white
-- space, which some modes drop, and U+FFFD, which stands for NUL in foreign content (WHATWG HTML, 13.2.6). A template's
-- columns and a page of frames drop other text too (13.2.6.4.13, 13.2.6.4.19), so no start tag of theirs is emitted
-- here.
use Rattle.std.specs.Prelude.{◌≡◌, ◌+◌, ◌==◌, [], ◌∷◌, if◌then◌else◌, Bool, List, None, codes, false, fold, true, ℕ}
use Rattle.tree_forest.specs.Forest.{Forest, Kind, comment, doctype, document, element, instruction, text}
use Rattle.token_grammar.specs.Items.{Item}
use Rattle.token_grammar.specs.Items as items
use Rattle.html_lexemes.specs.declared.token.TagKind.{TagKind}
use Rattle.html_lexemes.specs.declared.token.TagKind.TheVariants.{EndTag, StartTag}
use Rattle.tree_names.specs.Sets.{is_one_of}
use Rattle.rules_table.specs.Rows.{is_white_space}
use Rattle.rules_table.specs.Settling.{Ready, step}
use Rattle.rules_table.specs.State.{State}
use Rattle.tree_predicates.specs.declared.modes.InsertionMode.TheVariants.{Initial}

-- how often a character stands in a text
abbrev pub how_often : ℕ → List ℕ → ℕ
how_often c [] = 0
how_often c (d ∷ ds) = (if d == c then 1 else 0) + how_often c ds

-- and in the text nodes of a forest
abbrev pub characters_of : Kind → List ℕ
characters_of (text cs) = cs
characters_of document = []
characters_of (doctype name public system) = []
characters_of (comment cs) = []
characters_of (instruction target cs) = []
characters_of (element e) = []

abbrev pub in_texts : ℕ → Forest → ℕ
in_texts c [] = 0
in_texts c (node ∷ f) = how_often c (characters_of node.kind) + in_texts c f

-- and in what is emitted as text
abbrev pub text_emitted : Item → List ℕ
text_emitted (items.characters cs) = cs
text_emitted items.null_character = []
text_emitted (items.tag t) = []
text_emitted (items.comment cs) = []
text_emitted (items.doctype d) = []
text_emitted items.error = []
text_emitted items.end_of_file = []

abbrev pub in_emitted : ℕ → List Item → ℕ
in_emitted c [] = 0
in_emitted c (item ∷ more) = how_often c (text_emitted item) + in_emitted c more

-- a character that no mode drops
abbrev pub is_kept : ℕ → Bool
is_kept c = if is_white_space c then false else if c == 65533 then false else true

-- no start tag of a template or of a frameset is emitted
abbrev pub is_plain_name : TagKind → List ℕ → Bool
is_plain_name StartTag name = if is_one_of (codes "template" ∷ codes "frameset" ∷ []) name then false else true
is_plain_name EndTag name = true

abbrev pub is_plain : Item → Bool
is_plain (items.tag t) = is_plain_name t.kind t.name
is_plain _ = true

abbrev pub EmitsPlainTags : List Item → Type 0
EmitsPlainTags [] = Unit {0}
EmitsPlainTags (item ∷ more) = (is_plain item ≡ true) × EmitsPlainTags more

-- before the first item of a page
pub record IsAtBeginning (s : State) : Type 0 where
  pub ready : Ready s
  pub page : s.context ≡ None
  pub mode : s.mode ≡ Initial
  pub original : s.original ≡ Initial
  pub templates : s.template_modes ≡ []
  pub head : s.head ≡ None
  pub form : s.form ≡ None
  pub pending : s.pending ≡ []
  pub goes_on : s.is_over ≡ false
  pub stack : s.tree.stack ≡ []
  pub formatting : s.tree.formatting ≡ []
  pub fostering : s.tree.fostering ≡ false

abbrev pub KeepsText : State → List Item → Type 0
KeepsText s emitted = (c : ℕ) → is_kept c ≡ true →
    in_texts c (fold step s emitted).tree.forest + how_often c (fold step s emitted).pending
    ≡ in_texts c s.tree.forest + in_emitted c emitted
