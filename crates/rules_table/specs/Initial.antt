-- The "initial" insertion mode (WHATWG HTML, 13.2.6.4.1).
use Rattle.std.specs.Prelude.{ℕ, Bool, false, true, List, [], ◌∷◌, if◌then◌else◌}
use Rattle.tree_forest.specs.declared.sink.QuirksMode.TheVariants.{Quirks}
use Rattle.html_lexemes.specs.declared.token.Doctype.{Doctype}
use Rattle.rules_table.specs.Actions.{Action, append_doctype, comment_to_document, go_to, set_quirks}
use Rattle.rules_table.specs.Rows.{Row, TextRow, again, done, dropped, then_again}
use Rattle.rules_table.specs.State.{State}
use Rattle.tree_predicates.specs.Quirks.{quirks_of}
use Rattle.tree_predicates.specs.declared.modes.InsertionMode.TheVariants.{BeforeHtml}

-- a page without a doctype is in quirks mode, unless it is an `iframe`'s `srcdoc`
abbrev pub without_doctype : State → List Action
without_doctype s = if s.options.iframe_srcdoc then go_to BeforeHtml ∷ [] else set_quirks Quirks ∷ go_to BeforeHtml ∷ []

abbrev pub initial_text : (is_space : Bool) → State → TextRow
initial_text true s = dropped
initial_text false s = then_again (without_doctype s)

abbrev pub initial_comment : List ℕ → Row
initial_comment cs = done (comment_to_document cs ∷ [])

abbrev pub initial_doctype : Doctype → State → Row
initial_doctype d s = if s.options.drop_doctype then done (set_quirks (quirks_of d) ∷ go_to BeforeHtml ∷ [])
    else done (append_doctype d ∷ set_quirks (quirks_of d) ∷ go_to BeforeHtml ∷ [])

-- anything else
abbrev pub initial_other : State → Row
initial_other s = again (without_doctype s)
