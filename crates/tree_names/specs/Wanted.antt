-- The sets of elements that tree construction asks for (WHATWG HTML, 13.2.4 and 13.2.6).
use Rattle.std.specs.Prelude.{ℕ, Bool, ◌&&◌, not, List, [], ◌∷◌, codes}
use Rattle.tree_names.specs.ElementSets.{button_scope_barriers, headings, implied_end_tags, list_item_scope_barriers}
use Rattle.tree_names.specs.ElementSets.{scope_barriers, table_body_context, table_cells, table_context}
use Rattle.tree_names.specs.ElementSets.{table_row_context, table_scope_barriers, table_sections}
use Rattle.tree_names.specs.Sets.{Elements, html_elements, is_element_of}
use Rattle.tree_names.specs.TagSets.{definitions}
use Rattle.html_lexemes.specs.declared.names.QualName.{QualName}
use Rattle.tree_names.specs.declared.wanted.ElementSet.{ElementSet}
use Rattle.tree_names.specs.declared.wanted.ElementSet.TheVariants as sets
use Rattle.tree_names.specs.declared.wanted.Scope.{Scope}
use Rattle.tree_names.specs.declared.wanted.Scope.TheVariants as scopes

-- one element of HTML
abbrev pub one : List ℕ → Elements
one word = html_elements (word ∷ [])

abbrev pub elements_of : ElementSet → Elements
elements_of (sets.Named name) = one name.now
elements_of sets.Body = one (codes "body")
elements_of sets.Button = one (codes "button")
elements_of sets.Caption = one (codes "caption")
elements_of sets.ColumnGroup = one (codes "colgroup")
elements_of sets.Definition = html_elements definitions
elements_of sets.Form = one (codes "form")
elements_of sets.Heading = headings
elements_of sets.Html = one (codes "html")
elements_of sets.ListItem = one (codes "li")
elements_of sets.NoBreak = one (codes "nobr")
elements_of sets.Nothing = html_elements []
elements_of sets.OptionGroup = one (codes "optgroup")
elements_of sets.OptionItem = one (codes "option")
elements_of sets.Paragraph = one (codes "p")
elements_of sets.Ruby = one (codes "ruby")
elements_of sets.RubyTextContainer = one (codes "rtc")
elements_of sets.Select = one (codes "select")
elements_of sets.Table = one (codes "table")
elements_of sets.TableBodyContext = table_body_context
elements_of sets.TableCell = table_cells
elements_of sets.TableContext = table_context
elements_of sets.TableRow = one (codes "tr")
elements_of sets.TableRowContext = table_row_context
elements_of sets.TableSection = table_sections
elements_of sets.Template = one (codes "template")

-- the barriers of a scope (13.2.4.2)
abbrev pub barriers_of : Scope → Elements
barriers_of scopes.Default = scope_barriers
barriers_of scopes.ListItemScope = list_item_scope_barriers
barriers_of scopes.ButtonScope = button_scope_barriers
barriers_of scopes.TableScope = table_scope_barriers

-- elements whose end tags are implied, but for some (13.2.6.3)
abbrev pub is_implied : Elements → QualName → Bool
is_implied except name = is_element_of implied_end_tags name && not (is_element_of except name)
