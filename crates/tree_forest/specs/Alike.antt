-- Forests that are equal up to the numbers of their nodes.
use Rattle.std.specs.Prelude.{◌≡◌, ℕ, Option, None, Some, map}
use Rattle.tree_forest.specs.Forest.{Forest, Holds, Kind, Node, comment, doctype, document, element, instruction}
use Rattle.tree_forest.specs.Forest.{node_at, text}

-- a node with other numbers for its children and its contents
abbrev pub number_by : (ℕ → ℕ) → Option ℕ → Option ℕ
number_by to None = None
number_by to (Some n) = Some (to n)

abbrev pub kind_by : (ℕ → ℕ) → Kind → Kind
kind_by to (element e) = element (record e { contents = number_by to e.contents })
kind_by to document = document
kind_by to (doctype name public system) = doctype name public system
kind_by to (text cs) = text cs
kind_by to (comment cs) = comment cs
kind_by to (instruction target cs) = instruction target cs

abbrev pub node_by : (ℕ → ℕ) → Node → Node
node_by to x = record { kind = kind_by to x.kind; children = map to x.children }

-- Each node of either is one of the other, the page's document the page's document.
pub record AreAlike (f g : Forest) : Type 0 where
  pub to : ℕ → ℕ
  pub from : ℕ → ℕ
  pub is_sent : (n : ℕ) → Holds n f → Holds (to n) g
  pub is_met : (n : ℕ) → Holds n g → Holds (from n) f
  pub goes_back : (n : ℕ) → Holds n f → from (to n) ≡ n
  pub comes_back : (n : ℕ) → Holds n g → to (from n) ≡ n
  pub page : to 0 ≡ 0
  pub same : (n : ℕ) → Holds n f → node_at (to n) g ≡ node_by to (node_at n f)
