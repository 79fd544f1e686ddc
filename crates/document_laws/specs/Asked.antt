-- What tree construction asks of the tokenizer along a document: to read the text of its title as such (WHATWG HTML,
-- 13.2.6.2), and nothing else.
use Rattle.std.specs.Prelude.{◌≡◌, ℕ, Bool, false, List, [], ◌∷◌, Option, codes, if◌then◌else◌}
use Rattle.tree_forest.specs.Forest.{page_alone}
use Rattle.token_grammar.specs.Items.{Item, characters, comment, doctype, end_of_file, error, null_character, tag}
use Rattle.html_lexemes.specs.declared.states.RawKind.TheVariants.{Rcdata}
use Rattle.html_lexemes.specs.declared.token.TagKind.{TagKind}
use Rattle.html_lexemes.specs.declared.token.TagKind.TheVariants.{EndTag, StartTag}
use Rattle.page_tree_laws.specs.KeptText.{IsAtBeginning}
use Rattle.tree_names.specs.Sets.{is_one_of}
use Rattle.rules_table.specs.Settling.{step, taken_tag}
use Rattle.rules_table.specs.State.{Ask, State, nothing, raw}
use Rattle.document_laws.specs.Contents.{Content, IsBlocks}
use Rattle.document_laws.specs.Rebuilt.{document_tokens}

-- a start tag of a title
abbrev pub opens_title : TagKind → List ℕ → Bool
opens_title StartTag name = is_one_of (codes "title" ∷ []) name
opens_title EndTag name = false

-- After it the text up to its end tag is read as RCDATA, where there are references and no tags (13.2.6.4.4).
abbrev pub asked_by : Bool → Ask
asked_by title = if title then raw Rcdata else nothing

-- what tree construction asks at an item in a state: it may ask at tags alone
abbrev pub IsAsked : State → Item → Type 0
IsAsked s (tag t) = (taken_tag t s).ask ≡ asked_by (opens_title t.kind t.name)
IsAsked s (characters cs) = Unit {0}
IsAsked s null_character = Unit {0}
IsAsked s (comment cs) = Unit {0}
IsAsked s (doctype d) = Unit {0}
IsAsked s error = Unit {0}
IsAsked s end_of_file = Unit {0}

-- and at each of some items in turn
abbrev pub AreAsked : State → List Item → Type 0
AreAsked s [] = Unit {0}
AreAsked s (item ∷ items) = IsAsked s item × AreAsked (step s item) items

abbrev pub DocumentsAsk : Type 0
DocumentsAsk = (s : State) (title : Option (List ℕ)) (content : Content) →
    IsAtBeginning s → s.tree.forest ≡ page_alone → s.options.drop_doctype ≡ false → IsBlocks false content →
    AreAsked s (document_tokens title content)
