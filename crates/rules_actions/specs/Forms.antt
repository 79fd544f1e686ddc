-- Which form an element belongs to that is made for a tag (WHATWG HTML, 13.2.6.1, "create an element for a token").
use Rattle.std.specs.Prelude.{ℕ, Bool, ◌&&◌, ◌||◌, not, List, Option, None, codes, is_some, if◌then◌else◌}
use Rattle.html_lexemes.specs.declared.names.Attribute.{Attribute}
use Rattle.html_lexemes.specs.declared.names.QualName.{QualName}
use Rattle.tree_names.specs.Sets.{is_html}
use Rattle.rules_table.specs.Asking.{has_form}
use Rattle.rules_table.specs.State.{State}
use Rattle.tree_predicates.specs.Attributes.{value_of}

-- a listed element (4.10.2)
abbrev pub is_listed : QualName → Bool
is_listed name = is_html (codes "button") name || (is_html (codes "fieldset") name || (is_html (codes "input") name
    || (is_html (codes "object") name || (is_html (codes "output") name || (is_html (codes "select") name
    || is_html (codes "textarea") name)))))

abbrev pub names_form : List Attribute → Bool
names_form attributes = is_some (value_of (codes "form") attributes)

-- an image, or a listed element that names no form itself
abbrev pub takes_form : QualName → List Attribute → Bool
takes_form name attributes = is_html (codes "img") name || (is_listed name && not (names_form attributes))

-- the form that was opened last, unless a template is open
abbrev pub form_owner : QualName → List Attribute → State → Option ℕ
form_owner name attributes s = if has_form s && takes_form name attributes then s.form else None
