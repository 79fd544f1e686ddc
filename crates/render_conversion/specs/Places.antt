-- Where a node stands, by what its parent makes of its children, and which nodes are looked at there.
use Rattle.std.specs.Prelude.{ℕ, ◌&&◌, Bool, true, false, not, List, [], ◌∷◌, Option, None, Some, codes}
use Rattle.tree_forest.specs.Forest.{Kind}
use Rattle.html_lexemes.specs.declared.names.QualName.{QualName}
use Rattle.html_render_dom.specs.Asking.{name_of_kind}
use Rattle.render_conversion.specs.ElementNames.{is_one_of}
use Rattle.render_conversion.specs.Hiding.{is_hidden}
use Rattle.render_conversion.specs.declared.options.ConversionOptions.{ConversionOptions}
use Rattle.render_conversion.specs.declared.place.Place.{Place}
use Rattle.render_conversion.specs.declared.place.Place.TheVariants.{Captions, Cells, Feet, Flow, Groups, Items}
use Rattle.render_conversion.specs.declared.place.Place.TheVariants.{Nowhere, Rows}

abbrev pub has_name : List (List ℕ) → Option QualName → Bool
has_name words None = false
has_name words (Some name) = is_one_of words name

-- an element of HTML of one of these names
abbrev pub is_element : List (List ℕ) → Kind → Bool
is_element words kind = has_name words (name_of_kind kind)

-- of a table its groups and captions, of groups the rows, of these the cells; all else in a table is left out
abbrev pub is_seen : Place → Kind → Bool
is_seen Nowhere kind = false
is_seen Flow kind = true
is_seen Items kind = true
is_seen Groups kind = is_element (codes "thead" ∷ codes "tbody" ∷ []) kind
is_seen Feet kind = is_element (codes "tfoot" ∷ []) kind
is_seen Captions kind = is_element (codes "caption" ∷ []) kind
is_seen Rows kind = is_element (codes "tr" ∷ []) kind
is_seen Cells kind = is_element (codes "td" ∷ codes "th" ∷ []) kind

-- an element that hides itself isn't looked at, where pages are converted so
abbrev pub is_shown : ConversionOptions → Place → Kind → Bool
is_shown o place kind = is_seen place kind && not (is_hidden kind && o.skip_hidden)

-- a child of a list that is no `li` is left out where its value is shallow-empty
abbrev pub is_guarded : Place → Kind → Bool
is_guarded Nowhere kind = false
is_guarded Flow kind = false
is_guarded Items kind = not (is_element (codes "li" ∷ []) kind)
is_guarded Groups kind = false
is_guarded Feet kind = false
is_guarded Captions kind = false
is_guarded Rows kind = false
is_guarded Cells kind = false
