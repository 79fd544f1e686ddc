-- The columns that a layout asks for: of a value after a prefix its own, and of a table those of what stands in it.
use Rattle.std.specs.Prelude.{◌≡◌, ◌⊎◌, List, [], ◌∷◌, ◌++◌}
use Rattle.render_sizes.specs.Extents.{Measure, extent_of, extents, nothing_wide}
use Rattle.render_sizes.specs.declared.asked.Asked.{Asked}
use Rattle.render_sizes.specs.declared.asked.Asked.TheVariants.{Inside, Itself, Nothing}
use Rattle.render_sizes.specs.declared.extent.Extent.{Extent}
use Rattle.render_values.specs.Values.{Values, none, value}
use Rattle.render_values.specs.declared.info.Head.{Head}
use Rattle.render_values.specs.declared.info.RenderInfo.{RenderInfo}
use Rattle.render_values.specs.declared.info.RenderInfo.TheVariants as infos

abbrev pub asked_of : RenderInfo → Asked
asked_of (infos.Heading level) = Itself
asked_of infos.Quote = Itself
asked_of infos.Bullets = Itself
asked_of (infos.Numbers first) = Itself
asked_of infos.Details = Itself
asked_of infos.Table = Inside
asked_of _ = Nothing

-- of a value and of what stands in it, where that is asked for `others`
abbrev pub asked_as : Asked → Measure → Head → (inside : Values) → (others : List Extent) → List Extent
asked_as Itself m head inside others = extent_of m head inside ∷ extents m inside
asked_as Inside m head inside others = nothing_wide ∷ extents m inside
asked_as Nothing m head inside others = nothing_wide ∷ others

-- of each value, in the order of their nodes: columns that are asked for, and none where nothing is asked
abbrev pub asked_extents : Measure → Values → List Extent
asked_extents m none = []
asked_extents m (value head inside rest) =
    asked_as (asked_of head.info) m head inside (asked_extents m inside) ++ asked_extents m rest

-- the columns of each value, or those that are asked for
abbrev pub AreMeasured : Measure → Values → List Extent → Type 0
AreMeasured m values es = (es ≡ extents m values) ⊎ (es ≡ asked_extents m values)
