-- A tree builder before the first token.
use Rattle.std.proofs.Common.{◌≡◌, ℕ, false, true, List, [], None, reverse, ap, ◌∙◌}
use Rattle.tree_forest.specs.Sinks.{SinkView}
use Rattle.html_tree_state.specs.Building.{Parts, seen}
use Rattle.tree_names.specs.Counts.{counts_of}
use Rattle.html_tree_builder.specs.Begun.{begun}
use Rattle.rules_table.specs.State.{State}
use Rattle.rules_table.specs.declared.options.TreeBuilderOpts.{TreeBuilderOpts}
use Rattle.tree_predicates.specs.declared.modes.InsertionMode.{InsertionMode}
use Rattle.tree_predicates.specs.declared.modes.InsertionMode.TheVariants.{Initial}

abbrev with_parts : {H S : Type 0} → SinkView S H → TreeBuilderOpts → S →
    List InsertionMode → List ℕ → Parts H → State
with_parts view options sink modes pending held = record {
  options = options;
  mode = Initial;
  original = Initial;
  template_modes = reverse modes;
  head = None;
  form = None;
  context = None;
  frameset_ok = true;
  skip_lf = false;
  pending = pending;
  quirks = options.quirks_mode;
  is_over = false;
  has_failed = false;
  tree = seen view held sink;
}

pub begun_is : {H S : Type 0} → (view : SinkView S H)
    (options : TreeBuilderOpts) (sink : S) (modes : List InsertionMode) (pending : List ℕ) (held : Parts H) →
    modes ≡ [] → pending ≡ [] →
    held ≡ record { open_elements = []; entries = []; is_fostering = false; counts = counts_of [] } →
    with_parts view options sink modes pending held ≡ begun options (view.forest sink) (view.quirks sink)
begun_is {H} view options sink modes pending held m p h =
    ap (λ (l : List InsertionMode). with_parts view options sink l pending held) m
    ∙ (ap (λ (l : List ℕ). with_parts view options sink [] l held) p
    ∙ ap (λ (parts : Parts H). with_parts view options sink [] [] parts) h)
