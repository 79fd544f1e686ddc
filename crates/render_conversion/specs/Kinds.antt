-- Kinds of meanings of nodes.
use Rattle.std.specs.Prelude.{ℕ, List, [], Option, None, Some}
use Rattle.render_values.specs.declared.closing.Condition.{Condition}
use Rattle.render_values.specs.declared.closing.Condition.TheVariants.{Always, Never}
use Rattle.render_values.specs.declared.info.RenderInfo.{RenderInfo}
use Rattle.render_values.specs.declared.info.RenderInfo.TheVariants as infos
use Rattle.render_conversion.specs.declared.inner.Inner.{Inner}
use Rattle.render_conversion.specs.declared.inner.Inner.TheVariants.{Children}
use Rattle.render_conversion.specs.declared.kinds.Meaning.{Meaning}
use Rattle.render_conversion.specs.declared.place.Place.TheVariants.{Flow, Nowhere}

abbrev pub means : RenderInfo → Condition → (inner : Inner) → Meaning
means info condition inner = record { info = info; condition = condition; inner = inner }

-- no value
abbrev pub nothing : Meaning
nothing = means infos.Nothing Never (Children Nowhere)

-- a value in which nothing stands
abbrev pub leaf : RenderInfo → Meaning
leaf info = means info Always (Children Nowhere)

-- a value with those of the children in it
abbrev pub holds : RenderInfo → Meaning
holds info = means info Always (Children Flow)

-- `svg`: an image without a source where it has a title
abbrev pub pictured : (title : Option (List ℕ)) → Meaning
pictured None = nothing
pictured (Some title) = leaf (infos.Image [] title)
