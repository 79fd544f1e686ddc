-- What a mark comes to, and what a page's items do: what tree construction means to a tokenizer.
use Rattle.std.specs.Prelude.{◌≡◌, ◌==◌, ◌&&◌, if◌then◌else◌, Bool, None, Option, Some, false, fold, not, suc, true}
use Rattle.std.specs.Prelude.{zero, ℕ}
use Rattle.tree_forest.specs.Forest.{Forest, Holds, IsElement, name_of}
use Rattle.token_grammar.specs.Items.{Item}
use Rattle.token_grammar.specs.Items as items
use Rattle.token_grammar.specs.Meaning.{Meaning}
use Rattle.html_lexemes.specs.declared.token.Tag.{Tag}
use Rattle.html_lexemes.specs.declared.token.TagKind.{TagKind}
use Rattle.html_lexemes.specs.declared.token.TagKind.TheVariants.{EndTag, StartTag}
use Rattle.html_lexemes.specs.declared.token.TokenSinkResult.{TokenSinkResult}
use Rattle.html_lexemes.specs.declared.token.TokenSinkResult.TheVariants as answers
use Rattle.html_tree_state.specs.Foreign.{adjusted_current}
use Rattle.html_tree_state.specs.Sound.{Sound}
use Rattle.rules_table.specs.Actions.{act_all}
use Rattle.rules_table.specs.Rank.{rank}
use Rattle.rules_table.specs.Rows.{Row, again, asks, done}
use Rattle.rules_table.specs.Rule.{rule}
use Rattle.rules_table.specs.State.{Ask, State, TreeToken, character, comment, doctype, encoding, end_of_file, finish}
use Rattle.rules_table.specs.State.{nothing, null, plaintext, raw, script, start}
use Rattle.tree_predicates.specs.Foreign.{is_of_html}
use Rattle.tree_predicates.specs.declared.modes.InsertionMode.TheVariants.{Text}

-- a state, and what is asked of the tokenizer
pub record Settled : Type 0 where
  pub ask : Ask
  pub state : State

-- after what asks for the text of an element the mode is "text", which goes back to the one that stood (13.2.6.2)
abbrev pub entered : Ask → State → State
entered nothing s = s
entered plaintext s = s
entered (raw kind) s = record s { original = s.mode; mode = Text }
entered (script n) s = s
entered (encoding name) s = s

-- what a row gives; a mark that is taken again goes to the mode that stands then
abbrev pub given_by : Row → State → (State → Settled) → Settled
given_by (done actions) s further = record { ask = nothing; state = act_all actions s }
given_by (asks ask actions) s further = record { ask = ask; state = entered ask (act_all actions s) }
given_by (again actions) s further = further (act_all actions s)

-- at most so many rules take a mark
abbrev pub settle : ℕ → TreeToken → State → Settled
settle zero mark s = record { ask = nothing; state = s }
settle (suc k) mark s = given_by (rule mark s) s (settle k mark)

-- The rank falls each time, so this is as often as it takes.
abbrev pub taken : TreeToken → State → Settled
taken mark s = settle (suc (rank mark s)) mark s

-- a line feed right after some start tags is left out (13.2.6.4.7); anything that is emitted ends this
abbrev pub past_tag : State → State
past_tag s = record s { skip_lf = false }

abbrev pub taken_character : State → ℕ → State
taken_character s c = if s.skip_lf && c == 10 then past_tag s else (taken (character c) (past_tag s)).state

abbrev pub mark_by : TagKind → Tag → TreeToken
mark_by StartTag t = start t
mark_by EndTag t = finish t

abbrev pub taken_tag : Tag → State → Settled
taken_tag t s = taken (mark_by t.kind t) (past_tag s)

-- after the end nothing is taken
abbrev pub over : State → State
over s = record s { is_over = true }

-- a page's items, one after the other
abbrev pub step : State → Item → State
step s (items.characters cs) = fold taken_character s cs
step s items.null_character = (taken null (past_tag s)).state
step s (items.tag t) = (taken_tag t s).state
step s (items.comment cs) = (taken (comment cs) (past_tag s)).state
step s (items.doctype d) = (taken (doctype d) (past_tag s)).state
step s items.error = past_tag s
step s items.end_of_file = over (taken end_of_file (past_tag s)).state

abbrev pub answer_of : {H : Type 0} → (ℕ → H) → Ask → TokenSinkResult H
answer_of handle nothing = answers.Continue
answer_of handle plaintext = answers.Plaintext
answer_of handle (raw kind) = answers.RawData kind
answer_of handle (script n) = answers.Script (handle n)
answer_of handle (encoding name) = answers.EncodingIndicator name

abbrev pub reply : {H : Type 0} → (ℕ → H) → State → Item → TokenSinkResult H
reply handle s (items.tag t) = answer_of handle (taken_tag t s).ask
reply handle s _ = answers.Continue

-- the adjusted current node is foreign (13.2.4.2)
abbrev pub is_foreign : Forest → Option ℕ → Bool
is_foreign f None = false
is_foreign f (Some n) = not (is_of_html (name_of n f).ns)

abbrev pub foreign : State → Bool
foreign s = is_foreign s.tree.forest (adjusted_current s.context s.tree.stack)

abbrev pub meaning : {H : Type 0} → (ℕ → H) → Meaning State H
meaning handle = record { step = step; reply = reply handle; foreign = foreign }

-- What holds between two items of a page: the tree is sound, the head is one of its nodes, and a fragment's context is
-- an element.
pub record Ready (s : State) : Type 0 where
  pub sound : Sound s.tree
  pub head : (n : ℕ) → s.head ≡ Some n → Holds n s.tree.forest
  pub context : (n : ℕ) → s.context ≡ Some n → IsElement n s.tree.forest
