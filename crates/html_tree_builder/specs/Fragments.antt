-- The tree of a fragment (WHATWG HTML, 13.4): what the rule table makes, from a context in a sink of trees on, of what
-- the fragment's text emits.
use Rattle.std.specs.Prelude.{ℕ, Bool, List, Option, Some, codes}
use Rattle.tree_forest.specs.Changes.{made_element}
use Rattle.tree_forest.specs.Forest.{Forest, name_of}
use Rattle.tree_forest.specs.declared.sink.QuirksMode.{QuirksMode}
use Rattle.token_grammar.specs.Modes.{text_of_state}
use Rattle.token_grammar.specs.PageText.{page_text}
use Rattle.token_grammar.specs.Reading.{Reading}
use Rattle.token_grammar.specs.declared.modes.Mode.{Mode}
use Rattle.token_grammar.specs.declared.sink.TokenizerOpts.{TokenizerOpts}
use Rattle.html_lexemes.specs.declared.names.Attribute.{Attribute}
use Rattle.html_lexemes.specs.declared.names.QualName.{QualName}
use Rattle.html_lexemes.specs.declared.states.State.{State as TextState}
use Rattle.html_tree_builder.specs.Grown.{Beginning, IsGrown}
use Rattle.tree_names.specs.Sets.{is_html}
use Rattle.html_tree_builder.specs.Begun.{begun_fragment, context_state}
use Rattle.rules_table.specs.Settling.{meaning}
use Rattle.rules_table.specs.State.{State}
use Rattle.tree_predicates.specs.Attributes.{is_html_annotation}

-- its context, an element; the form that this stands in; and whether scripts would run there
pub record Fragment : Type 0 where
  pub context : ℕ
  pub form : Option ℕ
  pub scripting : Bool

abbrev pub mode_from : TextState → TokenizerOpts → Mode
mode_from state options = record {
  text = text_of_state (Some state);
  last_start_tag = options.last_start_tag_name;
}

-- its text begins as the context says, whatever state the options name
abbrev pub fragment_mode : TokenizerOpts → (scripting : Bool) → (context : QualName) → Mode
fragment_mode options scripting context = mode_from (context_state scripting context) options

abbrev pub FragmentReadsTo : {H : Type 0} → (ℕ → H) → Beginning → Fragment → (text : List ℕ) → State → Type 0
FragmentReadsTo handle from fragment text final = Reading from.table (meaning handle)
    (fragment_mode from.options.tokenizer fragment.scripting (name_of fragment.context from.forest))
    (begun_fragment from.options.tree_builder fragment.context fragment.form from.forest from.quirks)
    (page_text from.options.tokenizer.discard_bom text) final

abbrev pub IsTreeOfFragment : {H : Type 0} → (ℕ → H) → Beginning → Fragment → (text : List ℕ) → Forest → QuirksMode →
    Type 0
IsTreeOfFragment handle from fragment text forest quirks =
    IsGrown (FragmentReadsTo handle from fragment text) forest quirks

-- a context of a name and attributes, which stands nowhere
abbrev pub made_context : QualName → List Attribute → Forest → Forest
made_context name attributes f =
    made_element name attributes (is_html (codes "template") name) (is_html_annotation name attributes) f
