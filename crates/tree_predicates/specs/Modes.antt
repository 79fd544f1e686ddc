-- Which insertion mode the open elements ask for (WHATWG HTML, 13.2.4.1, "reset the insertion mode appropriately").
use Rattle.std.specs.Prelude.{◌&&◌, [], ◌∷◌, if◌then◌else◌, Bool, List, None, Option, Some, codes, false, not, true}
use Rattle.tree_names.specs.ElementSets.{table_cells, table_sections}
use Rattle.tree_names.specs.Sets.{is_element_of, is_html}
use Rattle.html_lexemes.specs.declared.names.QualName.{QualName}
use Rattle.tree_predicates.specs.declared.modes.InsertionMode.{InsertionMode}
use Rattle.tree_predicates.specs.declared.modes.InsertionMode.TheVariants.{AfterHead, BeforeHead, InBody, InCaption}
use Rattle.tree_predicates.specs.declared.modes.InsertionMode.TheVariants.{InCell, InColumnGroup, InFrameset, InHead}
use Rattle.tree_predicates.specs.declared.modes.InsertionMode.TheVariants.{InRow, InTable, InTableBody}

-- the first of some cases that holds
abbrev pub first_case : List (Bool × Option InsertionMode) → Option InsertionMode
first_case [] = None
first_case (c ∷ rest) = if c.0 then c.1 else first_case rest

-- What an element asks for. The root, in whose place the context of a fragment stands, counts as no cell and no head.
abbrev pub own_mode : QualName → (is_root has_head : Bool) → (template : Option InsertionMode) →
    Option InsertionMode
own_mode name is_root has_head template = first_case (
    (is_element_of table_cells name && not is_root, Some InCell)
    ∷ (is_html (codes "tr") name, Some InRow)
    ∷ (is_element_of table_sections name, Some InTableBody)
    ∷ (is_html (codes "caption") name, Some InCaption)
    ∷ (is_html (codes "colgroup") name, Some InColumnGroup)
    ∷ (is_html (codes "table") name, Some InTable)
    ∷ (is_html (codes "template") name, template)
    ∷ (is_html (codes "head") name && not is_root, Some InHead)
    ∷ (is_html (codes "body") name, Some InBody)
    ∷ (is_html (codes "frameset") name, Some InFrameset)
    ∷ (is_html (codes "html") name, Some (if has_head then AfterHead else BeforeHead))
    ∷ [])

abbrev pub or_else : Option InsertionMode → InsertionMode → InsertionMode
or_else None mode = mode
or_else (Some own) mode = own

-- The names of the open elements, the current node first. The root of a fragment counts as its context, and at the end
-- the mode is in body.
abbrev pub counted_as : (context : Option QualName) → QualName → QualName
counted_as None root = root
counted_as (Some context) root = context

abbrev pub root_mode : (context : Option QualName) → QualName → (has_head : Bool) →
    (template : Option InsertionMode) → InsertionMode
root_mode context root has_head template =
    or_else (own_mode (counted_as context root) true has_head template) InBody

abbrev pub mode_above : List QualName → (root : InsertionMode) → (own : Option InsertionMode) →
    (further : InsertionMode) → InsertionMode
mode_above [] root own further = root
mode_above (below ∷ rest) root own further = or_else own further

abbrev pub reset_mode : (context : Option QualName) → (has_head : Bool) → (template : Option InsertionMode) →
    List QualName → InsertionMode
reset_mode context has_head template [] = InBody
reset_mode context has_head template (name ∷ rest) =
    mode_above rest (root_mode context name has_head template) (own_mode name false has_head template)
    (reset_mode context has_head template rest)
