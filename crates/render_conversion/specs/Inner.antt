-- What stands in an element's value: the values of its children at a place, between texts, or the parts of a table.
use Rattle.std.specs.Prelude.{ℕ, Bool, false, true, List, [], ◌∷◌, None}
use Rattle.render_values.specs.Endings.{ended, ending}
use Rattle.render_values.specs.Looks.{plain}
use Rattle.render_values.specs.Values.{Values, joined, none, value}
use Rattle.render_values.specs.declared.closing.Condition.TheVariants.{AnyCell}
use Rattle.render_values.specs.declared.info.Head.{Head}
use Rattle.render_values.specs.declared.info.RenderInfo.TheVariants as infos
use Rattle.render_values.specs.declared.style.RenderStyle.{RenderStyle}
use Rattle.render_conversion.specs.declared.inner.Inner.{Inner}
use Rattle.render_conversion.specs.declared.inner.Inner.TheVariants.{Captioned, Children, Quoted, Spaced, TableParts}
use Rattle.render_conversion.specs.declared.place.Place.{Place}
use Rattle.render_conversion.specs.declared.place.Place.TheVariants.{Captions, Feet, Flow, Groups}

abbrev pub text_value : RenderStyle → List ℕ → Values
text_value look cs = value (record { info = infos.Text cs; style = look; fragment = None }) none none

-- the texts before and after all else in it
abbrev pub opening : Inner → Values
opening (Children place) = none
opening Quoted = text_value plain (0x201C ∷ [])
opening Spaced = text_value plain (0x20 ∷ [])
opening TableParts = none
opening Captioned = none

abbrev pub closing : Inner → Values
closing (Children place) = none
closing Quoted = text_value plain (0x201D ∷ [])
closing Spaced = text_value plain (0x20 ∷ [])
closing TableParts = none
closing Captioned = none

abbrev pub has_closing : Inner → Bool
has_closing (Children place) = false
has_closing Quoted = true
has_closing Spaced = true
has_closing TableParts = false
has_closing Captioned = false

-- where the texts stand that rules put before and after children; in a table there are none
abbrev pub place_of : Inner → Place
place_of (Children place) = place
place_of Quoted = Flow
place_of Spaced = Flow
place_of TableParts = Groups
place_of Captioned = Groups

-- the rows of a table: those of its feet come last
abbrev pub table_parts : (at : Place → Values) → Values
table_parts at = joined (at Groups) (at Feet)

-- a table without a style and a fragment, where a cell stands in it
abbrev pub table_head : Head
table_head = record { info = infos.Table; style = plain; fragment = None }

abbrev pub table_value : (inside : Values) → Values
table_value inside = ended (ending AnyCell false table_head inside) table_head inside none

-- the values of children; `at` has those at a place
abbrev pub children_in : Inner → (at : Place → Values) → Values
children_in (Children place) at = at place
children_in Quoted at = at Flow
children_in Spaced at = at Flow
children_in TableParts at = table_parts at
children_in Captioned at = joined (at Captions) (table_value (table_parts at))
