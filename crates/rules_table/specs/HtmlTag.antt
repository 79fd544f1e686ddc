-- What nearly all modes take alike.
use Rattle.std.specs.Prelude.{ℕ, [], ◌∷◌, Option, None, Some, if◌then◌else◌}
use Rattle.html_lexemes.specs.declared.token.Tag.{Tag}
use Rattle.rules_table.specs.Actions.{add_attributes}
use Rattle.rules_table.specs.Asking.{first_opened, has_template}
use Rattle.rules_table.specs.Rows.{Row, done, ignored}
use Rattle.rules_table.specs.State.{State}

abbrev pub given_to : Option ℕ → Tag → Row
given_to None t = ignored
given_to (Some n) t = done (add_attributes n t.attrs ∷ [])

-- a start tag "html" (13.2.6.4.7): the root takes the attributes that it lacks
abbrev pub html_start : Tag → State → Row
html_start t s = if has_template s then ignored else given_to (first_opened s.tree.stack) t
