-- What rules ask of the state.
use Rattle.std.specs.Prelude.{◌&&◌, [], ◌∷◌, if◌then◌else◌, Bool, List, None, Option, Some, codes, false, not, true, ℕ}
use Rattle.tree_forest.specs.Forest.{is_in, name_of}
use Rattle.tree_forest.specs.declared.sink.QuirksMode.{QuirksMode}
use Rattle.tree_forest.specs.declared.sink.QuirksMode.TheVariants.{LimitedQuirks, NoQuirks, Quirks}
use Rattle.html_tree_state.specs.Building.{Building}
use Rattle.html_tree_state.specs.OpenElements.{up_to}
use Rattle.html_tree_state.specs.Scopes.{is_in_scope, is_open}
use Rattle.tree_names.specs.ElementSets.{button_scope_barriers, list_item_scope_barriers, scope_barriers}
use Rattle.tree_names.specs.ElementSets.{table_scope_barriers, table_text_places}
use Rattle.tree_names.specs.Sets.{Elements, is_html}
use Rattle.tree_names.specs.Wanted.{one}
use Rattle.rules_table.specs.Actions.{is_current, is_known}
use Rattle.rules_table.specs.State.{State}

-- an element of a set is in scope, in list item, button or table scope (13.2.4.2)
abbrev pub in_scope : Elements → State → Bool
in_scope wanted s = is_in_scope scope_barriers wanted s.tree

abbrev pub in_list_item_scope : Elements → State → Bool
in_list_item_scope wanted s = is_in_scope list_item_scope_barriers wanted s.tree

abbrev pub in_button_scope : Elements → State → Bool
in_button_scope wanted s = is_in_scope button_scope_barriers wanted s.tree

abbrev pub in_table_scope : Elements → State → Bool
in_table_scope wanted s = is_in_scope table_scope_barriers wanted s.tree

-- an element itself is in scope
abbrev pub is_itself_in_scope : ℕ → State → Bool
is_itself_in_scope n s = is_in n (up_to scope_barriers s.tree.forest s.tree.stack)

-- the current node is one of a set; text that follows it is a table's
abbrev pub current_is : Elements → State → Bool
current_is set s = is_current set s.tree s.tree.stack

abbrev pub collects_text : State → Bool
collects_text s = current_is table_text_places s

abbrev pub has_template : State → Bool
has_template s = is_open (one (codes "template")) s.tree

-- the root, which was opened first
abbrev pub first_opened : List ℕ → Option ℕ
first_opened [] = None
first_opened (n ∷ []) = Some n
first_opened (n ∷ m ∷ ns) = first_opened (m ∷ ns)

-- the element that was opened second, where it is a body
abbrev pub second_opened : List ℕ → Option ℕ
second_opened [] = None
second_opened (n ∷ []) = None
second_opened (n ∷ m ∷ []) = Some n
second_opened (n ∷ m ∷ k ∷ ns) = second_opened (m ∷ k ∷ ns)

abbrev pub if_body : Building → Option ℕ → Option ℕ
if_body b None = None
if_body b (Some n) = if is_html (codes "body") (name_of n b.forest) then Some n else None

abbrev pub body_of : State → Option ℕ
body_of s = if_body s.tree (second_opened s.tree.stack)

-- a form element is open that no template holds
abbrev pub has_form : State → Bool
has_form s = is_known s.form && not (has_template s)

abbrev pub is_quirky : QuirksMode → Bool
is_quirky Quirks = true
is_quirky LimitedQuirks = false
is_quirky NoQuirks = false

-- no element is in scope that a name stands for
abbrev pub all_are : (ℕ → Bool) → List ℕ → Bool
all_are holds [] = true
all_are holds (c ∷ cs) = if holds c then all_are holds cs else false
