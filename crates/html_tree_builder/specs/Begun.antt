-- Tree construction before the first token: of a page (WHATWG HTML, 13.2.4), and of a fragment (13.4).
use Rattle.std.specs.Prelude.{ℕ, ◌&&◌, Bool, false, true, not, List, [], ◌∷◌, Option, None, Some, codes, if◌then◌else◌}
use Rattle.tree_forest.specs.Forest.{Forest, name_of}
use Rattle.tree_forest.specs.declared.sink.QuirksMode.{QuirksMode}
use Rattle.html_lexemes.specs.declared.names.QualName.{QualName}
use Rattle.html_lexemes.specs.declared.states.RawKind.TheVariants.{Rcdata, Rawtext, ScriptData}
use Rattle.html_lexemes.specs.declared.states.State.{State as TextState}
use Rattle.html_lexemes.specs.declared.states.State.TheVariants.{Data, Plaintext, RawData}
use Rattle.tree_names.specs.Sets.{is_html, is_one_of}
use Rattle.tree_names.specs.TagSets.{rawtext_contexts, rcdata_contexts}
use Rattle.rules_table.specs.Actions.{Action, act_all, insert_named, push_template_mode, reset}
use Rattle.rules_table.specs.State.{State}
use Rattle.rules_table.specs.declared.options.TreeBuilderOpts.{TreeBuilderOpts}
use Rattle.tree_predicates.specs.Foreign.{is_of_html}
use Rattle.tree_predicates.specs.declared.modes.InsertionMode.TheVariants.{Initial, InTemplate}

abbrev pub begun : TreeBuilderOpts → Forest → QuirksMode → State
begun options forest quirks = record {
  options = options;
  mode = Initial;
  original = Initial;
  template_modes = [];
  head = None;
  form = None;
  context = None;
  frameset_ok = true;
  skip_lf = false;
  pending = [];
  quirks = options.quirks_mode;
  is_over = false;
  has_failed = false;
  tree = record {
    stack = [];
    formatting = [];
    fostering = false;
    forest = forest;
    quirks = quirks;
    counted = true;
  };
}

-- A fragment's root, an element "html" without attributes, is put into the document and is open alone; of a template
-- the contents are taken by a mode of their own; then the mode is reset (13.4).
abbrev pub root_actions : (is_template : Bool) → List Action
root_actions true = insert_named (codes "html") ∷ push_template_mode InTemplate ∷ reset ∷ []
root_actions false = insert_named (codes "html") ∷ reset ∷ []

abbrev pub with_context : (context : ℕ) → (form : Option ℕ) → State → State
with_context context form s = record s { context = Some context; form = form }

abbrev pub begun_fragment : TreeBuilderOpts → (context : ℕ) → (form : Option ℕ) → Forest → QuirksMode → State
begun_fragment options context form forest quirks =
    act_all (root_actions (is_html (codes "template") (name_of context forest)))
    (with_context context form (begun options forest quirks))

-- The state in which a fragment's text begins, by its context, and by whether scripts would run there (13.4).
abbrev pub context_state : (scripting : Bool) → QualName → TextState
context_state scripting name = if not (is_of_html name.ns) then Data
    else if is_one_of rcdata_contexts name.local then RawData Rcdata
    else if is_one_of rawtext_contexts name.local then RawData Rawtext
    else if is_html (codes "script") name then RawData ScriptData
    else if scripting && is_html (codes "noscript") name then RawData Rawtext
    else if is_html (codes "plaintext") name then Plaintext
    else Data

abbrev pub state_for : (scripting : Bool) → Option QualName → TextState
state_for scripting None = Data
state_for scripting (Some name) = context_state scripting name
