-- What a page has grown into: the tree, and the quirks mode, of a state in which its reading ends.
use Rattle.std.specs.Prelude.{◌≡◌, ℕ, List}
use Rattle.tree_forest.specs.Forest.{Forest}
use Rattle.tree_forest.specs.declared.sink.QuirksMode.{QuirksMode}
use Rattle.token_grammar.specs.FirstMode.{first_mode}
use Rattle.token_grammar.specs.PageText.{page_text}
use Rattle.token_grammar.specs.Reading.{Reading}
use Rattle.lex_base.specs.References.{References}
use Rattle.html_tree_builder.specs.declared.options.ParseOpts.{ParseOpts}
use Rattle.html_tree_builder.specs.Begun.{begun}
use Rattle.rules_table.specs.Settling.{meaning}
use Rattle.rules_table.specs.State.{State}

pub record IsGrown (ends : State → Type 0) (forest : Forest) (quirks : QuirksMode) : Type 0 where
  pub final : State
  pub reading : ends final
  pub nodes : forest ≡ final.tree.forest
  pub mode : quirks ≡ final.tree.quirks

-- The tree of a page (WHATWG HTML, 13.2): what the rule table makes, from the first nodes of a sink of trees on, of
-- what the page's text emits.
pub record Beginning : Type 0 where
  pub table : References
  pub options : ParseOpts
  pub forest : Forest
  pub quirks : QuirksMode

abbrev pub ReadsTo : {H : Type 0} → (ℕ → H) → Beginning → (text : List ℕ) → State → Type 0
ReadsTo handle from text final = Reading from.table (meaning handle) (first_mode from.options.tokenizer)
    (begun from.options.tree_builder from.forest from.quirks)
    (page_text from.options.tokenizer.discard_bom text) final

abbrev pub IsTreeOfPage : {H : Type 0} → (ℕ → H) → Beginning → (text : List ℕ) → Forest → QuirksMode → Type 0
IsTreeOfPage handle from text forest quirks = IsGrown (ReadsTo handle from text) forest quirks

abbrev pub beginning : References → ParseOpts → Forest → QuirksMode → Beginning
beginning table options forest quirks = record { table = table; options = options; forest = forest; quirks = quirks }
