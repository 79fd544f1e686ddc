-- The state of tree construction (WHATWG HTML, 13.2.4), and what of a page is emitted to it.
use Rattle.std.specs.Prelude.{ℕ, Bool, List, Option}
use Rattle.tree_forest.specs.declared.sink.QuirksMode.{QuirksMode}
use Rattle.html_lexemes.specs.declared.states.RawKind.{RawKind}
use Rattle.html_lexemes.specs.declared.token.Doctype.{Doctype}
use Rattle.html_lexemes.specs.declared.token.Tag.{Tag}
use Rattle.html_tree_state.specs.Building.{Building}
use Rattle.rules_table.specs.declared.options.TreeBuilderOpts.{TreeBuilderOpts}
use Rattle.tree_predicates.specs.declared.modes.InsertionMode.{InsertionMode}

-- The insertion mode, the original one, and those of open templates, the last first (13.2.4.1); the elements that head
-- and form pointer name (13.2.4.4); a fragment's context (13.4); whether a frameset may still come, and whether a line
-- feed is left out next (13.2.4.5 and 13.2.6.4.7); the pending characters of a table (13.2.6.4.9); the quirks mode by
-- which tags are taken; whether nothing more is taken, since the end was emitted or a call was refused, and whether one
-- was refused; and the tree that is built.
pub record State : Type 0 where
  pub options : TreeBuilderOpts
  pub mode : InsertionMode
  pub original : InsertionMode
  pub template_modes : List InsertionMode
  pub head : Option ℕ
  pub form : Option ℕ
  pub context : Option ℕ
  pub frameset_ok : Bool
  pub skip_lf : Bool
  pub pending : List ℕ
  pub quirks : QuirksMode
  pub is_over : Bool
  pub has_failed : Bool
  pub tree : Building

-- what is emitted: a character of text, NUL apart; a comment; a doctype; a start tag; an end tag; the end of the page
pub data TreeToken : Type 0 where
  character : ℕ → TreeToken
  null : TreeToken
  comment : List ℕ → TreeToken
  doctype : Doctype → TreeToken
  start : Tag → TreeToken
  finish : Tag → TreeToken
  end_of_file : TreeToken

-- what is asked of the tokenizer: nothing; that all that follows is text; that the text of an element follows; that a
-- script is run; that a name of an encoding is looked at
pub data Ask : Type 0 where
  nothing : Ask
  plaintext : Ask
  raw : RawKind → Ask
  script : ℕ → Ask
  encoding : List ℕ → Ask
