-- What a tree is built from (WHATWG HTML, 13.2.4): the stack of open elements, the current node first, and the list of
-- active formatting elements, the latest first, by the numbers of their nodes; whether foster parenting is on; the
-- nodes, and the quirks mode; and whether the counts by which a test of scope ends at once are those of the stack.
use Rattle.std.specs.Prelude.{ℕ, Bool, List, bytes_eq, map, reverse}
use Rattle.tree_formatting.specs.Entries.{Entry, entries_of}
use Rattle.tree_formatting.specs.declared.entry.FormatEntry.{FormatEntry}
use Rattle.tree_forest.specs.Forest.{Forest, name_of}
use Rattle.tree_forest.specs.Sinks.{SinkView}
use Rattle.tree_forest.specs.declared.sink.QuirksMode.{QuirksMode}
use Rattle.tree_names.specs.Counts.{counts_of}

pub record Building : Type 0 where
  pub stack : List ℕ
  pub formatting : List Entry
  pub fostering : Bool
  pub forest : Forest
  pub quirks : QuirksMode
  pub counted : Bool

-- what is held beside the nodes, in memory: open elements and entries, the earliest first; and how many elements of
-- each name are open
pub record Parts (H : Type 0) : Type 0 where
  pub open_elements : List H
  pub entries : List (FormatEntry H)
  pub is_fostering : Bool
  pub counts : List ℕ

abbrev pub stack_of : {H : Type 0} → (H → ℕ) → List H → List ℕ
stack_of number handles = reverse (map number handles)

-- whether counts are those of open elements, by their names
abbrev pub are_counted : List ℕ → List ℕ → Forest → Bool
are_counted counts stack f = bytes_eq counts (counts_of (map (λ n. name_of n f) stack))

-- what is held and a sink, by what a sink means
abbrev pub seen : {H S : Type 0} → SinkView S H → Parts H → S → Building
seen view parts sink = record {
  stack = stack_of view.number parts.open_elements;
  formatting = entries_of view.number parts.entries;
  fostering = parts.is_fostering;
  forest = view.forest sink;
  quirks = view.quirks sink;
  counted = are_counted parts.counts (stack_of view.number parts.open_elements) (view.forest sink);
}
