-- What rules do, each with what it makes of the state.
use Rattle.std.specs.Prelude.{[], ◌∷◌, ◌++◌, if◌then◌else◌, Bool, List, None, Option, Some, false, option_map, true, ℕ}
use Rattle.tree_forest.specs.Forest.{is_in, name_of}
use Rattle.tree_forest.specs.Places.{below}
use Rattle.tree_forest.specs.declared.sink.QuirksMode.{QuirksMode}
use Rattle.html_lexemes.specs.declared.names.Attribute.{Attribute}
use Rattle.html_lexemes.specs.declared.names.Namespace.{Namespace}
use Rattle.html_lexemes.specs.declared.names.Namespace.TheVariants.{Html}
use Rattle.html_lexemes.specs.declared.names.QualName.{QualName}
use Rattle.html_lexemes.specs.declared.token.Doctype.{Doctype}
use Rattle.html_lexemes.specs.declared.token.Tag.{Tag}
use Rattle.html_lexemes.specs.declared.token.TagKind.TheVariants.{StartTag}
use Rattle.html_tree_state.specs.Adoption.{adoption, closed_by_other_end, out_of_place}
use Rattle.html_tree_state.specs.Building.{Building}
use Rattle.html_tree_state.specs.Foreign.{broken_out, closed_by_foreign_end}
use Rattle.html_tree_state.specs.Formatting.{cleared, inserted_for, inserted_formatting, marked, name_for}
use Rattle.html_tree_state.specs.Formatting.{reconstructed, unlisted}
use Rattle.html_tree_state.specs.Insertions.{commented_at, here, inserted, inserted_at, inserted_void, root_of, said}
use Rattle.html_tree_state.specs.Insertions.{with_attributes_of, with_doctype_of, with_element}
use Rattle.html_tree_state.specs.Names.{names_of}
use Rattle.html_tree_state.specs.OpenElements.{first_of}
use Rattle.html_tree_state.specs.Scopes.{implied, is_in_scope, popped, popped_down_to, popped_to, taken_off}
use Rattle.html_tree_state.specs.Scopes.{with_closed_item, with_closed_p}
use Rattle.tree_names.specs.ElementSets.{scope_barriers}
use Rattle.tree_names.specs.Sets.{Elements, is_element_of, is_one_of}
use Rattle.tree_names.specs.TagSets.{formatting}
use Rattle.tree_names.specs.Wanted.{one}
use Rattle.rules_table.specs.State.{State}
use Rattle.rules_table.specs.declared.target.Target.{Target}
use Rattle.rules_table.specs.declared.target.Target.TheVariants as targets
use Rattle.tree_predicates.specs.Modes.{reset_mode}
use Rattle.tree_predicates.specs.declared.modes.InsertionMode.{InsertionMode}
use Rattle.tree_predicates.specs.declared.modes.InsertionMode.TheVariants.{InBody, InTableText, Text}

-- an element is inserted at the appropriate place, or, after the head, into the head
abbrev pub at_place : Target
at_place = targets.AtPlace

abbrev pub into_head : Target
into_head = targets.IntoHead

pub data Action : Type 0 where
  -- elements, comments, text (13.2.6.1); an element without contents is popped at once
  insert : Target → Tag → Action
  insert_void : Target → Tag → Action
  insert_named : List ℕ → Action
  insert_foreign : Namespace → Tag → Action
  insert_comment : List ℕ → Action
  comment_to_document : List ℕ → Action
  comment_to_root : List ℕ → Action
  append_doctype : Doctype → Action
  set_quirks : QuirksMode → Action
  say : List ℕ → Action
  add_attributes : ℕ → List Attribute → Action
  take_out : ℕ → Action
  foster : Bool → Action
  -- the stack of open elements (13.2.4.2 and 13.2.6.3)
  pop : Action
  pop_if : Elements → Action
  pop_to : Elements → Action
  pop_down_to : Elements → Action
  take_off : ℕ → Action
  imply_but : Elements → Action
  close_p : Action
  close_item : Elements → Action
  close_other : List ℕ → Action
  break_out : Action
  close_foreign : List ℕ → Action
  -- the list of active formatting elements (13.2.4.3)
  insert_formatting : Tag → Action
  reconstruct : Action
  put_marker : Action
  clear_to_marker : Action
  unlist : ℕ → Action
  adopt : List ℕ → Action
  adopt_in_scope : List ℕ → Action
  -- insertion modes (13.2.4.1)
  go_to : InsertionMode → Action
  hold_mode : Action
  go_back : Action
  push_template_mode : InsertionMode → Action
  pop_template_mode : Action
  reset : Action
  -- pointers and flags (13.2.4.4 and 13.2.4.5)
  keep_head : Action
  keep_form : Action
  forget_form : Action
  refuse_frameset : Action
  skip_next_line_feed : Action
  keep_pending : ℕ → Action
  forget_pending : Action

abbrev pub with_tree : (Building → Building) → State → State
with_tree word s = record s { tree = word s.tree }

-- a start tag without attributes
abbrev pub bare : List ℕ → Tag
bare name = record {
  kind = StartTag;
  name = name;
  self_closing = false;
  attrs = [];
  had_duplicate_attributes = false;
}

abbrev pub in_html : List ℕ → QualName
in_html name = record { ns = Html; local = name }

-- into the head that is known
abbrev pub inserted_into : Option ℕ → Tag → Building → Building
inserted_into None tag b = inserted_for tag b
inserted_into (Some head) tag b = inserted_at (below head) (name_for tag) tag.attrs b

abbrev pub inserted_void_into : Option ℕ → Tag → Building → Building
inserted_void_into None tag b = inserted_void (name_for tag) tag.attrs b
inserted_void_into (Some head) tag b = with_element (below head) (name_for tag) tag.attrs b

abbrev pub inserted_foreign : Namespace → Tag → Building → Building
inserted_foreign ns tag b = if tag.self_closing
    then inserted_void (record { ns = ns; local = tag.name }) tag.attrs b
    else inserted (record { ns = ns; local = tag.name }) tag.attrs b

-- an open element takes the attributes that it lacks
abbrev pub given_attributes : ℕ → List Attribute → Building → Building
given_attributes n attributes b = if is_in n b.stack then with_attributes_of n attributes b else b

-- the current node is popped, where it is one of a set
abbrev pub is_current : Elements → Building → List ℕ → Bool
is_current set b [] = false
is_current set b (n ∷ ns) = is_element_of set (name_of n b.forest)

abbrev pub popped_if : Elements → Building → Building
popped_if set b = if is_current set b b.stack then popped b else b

-- a tag of an element with formatting is listed
abbrev pub inserted_and_listed : Tag → Building → Building
inserted_and_listed tag b = if is_one_of formatting tag.name then inserted_formatting tag b else inserted_for tag b

-- an element of a name that is in scope is closed by the adoption agency
abbrev pub adopted_in_scope : List ℕ → Building → Building
adopted_in_scope name b =
    if is_in_scope scope_barriers (one name) b then reconstructed (adoption name b) else b

-- the mode of the template that was opened last
abbrev pub first_mode : List InsertionMode → Option InsertionMode
first_mode [] = None
first_mode (mode ∷ modes) = Some mode

abbrev pub later_modes : List InsertionMode → List InsertionMode
later_modes [] = []
later_modes (mode ∷ modes) = modes

abbrev pub is_known : Option ℕ → Bool
is_known None = false
is_known (Some n) = true

-- "reset the insertion mode appropriately" (13.2.4.1)
abbrev pub mode_by_elements : State → InsertionMode
mode_by_elements s = reset_mode (option_map (λ n. name_of n s.tree.forest) s.context) (is_known s.head)
    (first_mode s.template_modes) (names_of s.tree)

-- What asks for the text of an element alone leads to the mode "text", and no mode of text is gone back to: an action
-- that says so leads into the body. (No rule says so.)
abbrev pub is_text : InsertionMode → Bool
is_text Text = true
is_text _ = false

abbrev pub is_of_text : InsertionMode → Bool
is_of_text Text = true
is_of_text InTableText = true
is_of_text _ = false

abbrev pub but_text : InsertionMode → InsertionMode
but_text mode = if is_text mode then InBody else mode

abbrev pub out_of_text : InsertionMode → InsertionMode
out_of_text mode = if is_of_text mode then InBody else mode

-- A whole table: goals cite it by its name.
unfoldable pub act : Action → State → State
act (insert targets.AtPlace tag) s = with_tree (inserted_for tag) s
act (insert targets.IntoHead tag) s = with_tree (inserted_into s.head tag) s
act (insert_void targets.AtPlace tag) s = with_tree (inserted_void (name_for tag) tag.attrs) s
act (insert_void targets.IntoHead tag) s = with_tree (inserted_void_into s.head tag) s
act (insert_named name) s = with_tree (inserted (in_html name) []) s
act (insert_foreign ns tag) s = with_tree (inserted_foreign ns tag) s
act (insert_comment cs) s = with_tree (λ b. commented_at (here b) cs b) s
act (comment_to_document cs) s = with_tree (commented_at (below 0) cs) s
act (comment_to_root cs) s = with_tree (λ b. commented_at (below (root_of b.stack)) cs b) s
act (append_doctype doctype) s = with_tree (with_doctype_of doctype) s
act (set_quirks mode) s = record s { quirks = mode; tree = record s.tree { quirks = mode } }
act (say cs) s = with_tree (said cs) s
act (add_attributes n attributes) s = with_tree (given_attributes n attributes) s
act (take_out n) s = with_tree (out_of_place n) s
act (foster is_on) s = with_tree (λ b. record b { fostering = is_on }) s
act pop s = with_tree popped s
act (pop_if set) s = with_tree (popped_if set) s
act (pop_to set) s = with_tree (popped_to set) s
act (pop_down_to set) s = with_tree (popped_down_to set) s
act (take_off n) s = with_tree (taken_off n) s
act (imply_but set) s = with_tree (implied set) s
act close_p s = with_tree with_closed_p s
act (close_item set) s = with_tree (with_closed_item set) s
act (close_other name) s = with_tree (closed_by_other_end name) s
act break_out s = with_tree broken_out s
act (close_foreign name) s = with_tree (closed_by_foreign_end name) s
act (insert_formatting tag) s = with_tree (inserted_and_listed tag) s
act reconstruct s = with_tree reconstructed s
act put_marker s = with_tree marked s
act clear_to_marker s = with_tree cleared s
act (unlist n) s = with_tree (unlisted n) s
act (adopt name) s = with_tree (adoption name) s
act (adopt_in_scope name) s = with_tree (adopted_in_scope name) s
act (go_to mode) s = record s { mode = but_text mode }
act hold_mode s = record s { original = s.mode }
act go_back s = record s { mode = out_of_text s.original }
act (push_template_mode mode) s = record s { template_modes = mode ∷ s.template_modes }
act pop_template_mode s = record s { template_modes = later_modes s.template_modes }
act reset s = record s { mode = but_text (mode_by_elements s) }
act keep_head s = record s { head = first_of s.tree.stack }
act keep_form s = record s { form = first_of s.tree.stack }
act forget_form s = record s { form = None }
act refuse_frameset s = record s { frameset_ok = false }
act skip_next_line_feed s = record s { skip_lf = true }
act (keep_pending c) s = record s { pending = s.pending ++ c ∷ [] }
act forget_pending s = record s { pending = [] }

-- one after the other
abbrev pub act_all : List Action → State → State
act_all [] s = s
act_all (action ∷ actions) s = act_all actions (act action s)
