-- What a tree builder's fields mean: the state of tree construction.
use Rattle.std.specs.Prelude.{option_map, reverse}
use Rattle.tree_forest.specs.Sinks.{SinkView}
use Rattle.rules_actions.specs.declared.kept.Kept.{Kept}
use Rattle.rules_actions.specs.declared.parse.Parse.{Parse}
use Rattle.html_tree_state.specs.Building.{Parts, seen}
use Rattle.rules_table.specs.State.{State}

abbrev pub parsed : {H S : Type 0} → SinkView S H → Kept H → Parts H → S → State
parsed view kept held sink = record {
  options = kept.options;
  mode = kept.mode;
  original = kept.original;
  template_modes = reverse kept.template_modes.items;
  head = option_map view.number kept.head;
  form = option_map view.number kept.form;
  context = option_map view.number kept.context;
  frameset_ok = kept.frameset_ok;
  skip_lf = kept.skip_lf;
  pending = kept.pending;
  quirks = kept.quirks;
  is_over = kept.is_over;
  has_failed = kept.has_failed;
  tree = seen view held sink;
}

-- the same of a page that is being parsed
abbrev pub state_of : {H S O : Type 0} → SinkView S H → Parse S H O → State
state_of view page = parsed view page.kept page.tree.held page.tree.sink
