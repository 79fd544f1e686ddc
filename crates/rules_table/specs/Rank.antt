-- Why a mark is not handed on for ever: each time it is, fewer tables and templates are open, or the mode stands
-- further on in the order in which modes hand such a mark on.
use Rattle.std.specs.Prelude.{ℕ, ◌+◌, ◌*◌, List, [], ◌∷◌, codes, if◌then◌else◌}
use Rattle.tree_forest.specs.Forest.{Forest, name_of}
use Rattle.tree_names.specs.Sets.{Elements, html_elements, is_element_of}
use Rattle.tree_names.specs.Groups.{tag_group}
use Rattle.tree_names.specs.declared.group.TagGroup.{TagGroup}
use Rattle.tree_names.specs.declared.group.TagGroup.TheVariants as groups
use Rattle.rules_table.specs.State.{TreeToken, State, character, comment, doctype, end_of_file, finish, null, start}
use Rattle.tree_predicates.specs.declared.modes.InsertionMode.{InsertionMode}
use Rattle.tree_predicates.specs.declared.modes.InsertionMode.TheVariants as modes

-- the elements whose closing resets the mode
abbrev pub tables_and_templates : Elements
tables_and_templates = html_elements (codes "table" ∷ codes "template" ∷ [])

abbrev pub how_many : Forest → List ℕ → ℕ
how_many f [] = 0
how_many f (n ∷ ns) = (if is_element_of tables_and_templates (name_of n f) then 1 else 0) + how_many f ns

-- a mark goes from a mode with a greater number to one with a smaller one
abbrev pub usual_place : InsertionMode → ℕ
usual_place modes.InTableText = 15
usual_place modes.Text = 14
usual_place modes.Initial = 13
usual_place modes.BeforeHtml = 12
usual_place modes.BeforeHead = 11
usual_place modes.InHeadNoscript = 10
usual_place modes.InHead = 9
usual_place modes.AfterHead = 8
usual_place modes.InTemplate = 8
usual_place modes.InCell = 7
usual_place modes.InCaption = 7
usual_place modes.InRow = 6
usual_place modes.InTableBody = 5
usual_place modes.InColumnGroup = 5
usual_place modes.AfterAfterBody = 5
usual_place modes.InTable = 4
usual_place modes.AfterBody = 4
usual_place modes.InBody = 3
usual_place modes.InFrameset = 0
usual_place modes.AfterFrameset = 0
usual_place modes.AfterAfterFrameset = 0

-- characters go from the modes of tables to the text of a table
abbrev pub character_place : InsertionMode → ℕ
character_place modes.InTableText = 0
character_place mode = usual_place mode

-- a column opens its group, a cell its section and its row, a row its section
abbrev pub start_place : TagGroup → InsertionMode → ℕ
start_place groups.Column modes.InColumnGroup = 3
start_place groups.Cell modes.InTableBody = 3
start_place groups.Cell modes.InRow = 2
start_place groups.Row modes.InTableBody = 3
start_place group mode = usual_place mode

-- the end tag "html" goes from the body to what is after it
abbrev pub end_place : TagGroup → InsertionMode → ℕ
end_place groups.Html modes.AfterBody = 2
end_place group mode = usual_place mode

abbrev pub place : TreeToken → InsertionMode → ℕ
place (character c) mode = character_place mode
place null mode = character_place mode
place (comment cs) mode = usual_place mode
place (doctype d) mode = usual_place mode
place (start t) mode = start_place (tag_group t.name) mode
place (finish t) mode = end_place (tag_group t.name) mode
place end_of_file mode = usual_place mode

abbrev pub rank : TreeToken → State → ℕ
rank mark s = 16 * how_many s.tree.forest s.tree.stack + place mark s.mode
