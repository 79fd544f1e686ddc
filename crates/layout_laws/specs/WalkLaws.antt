-- Words of the laws on values that are laid out.
use Rattle.std.specs.Prelude.{◌≡◌, FitsSigned, IsSomeAnd, Some}
use Rattle.std.specs.Int.{w64}
use Rattle.layout_values.specs.Sizing.{Sizing}
use Rattle.render_values.specs.Values.{Values, none, value}
use Rattle.render_values.specs.declared.info.RenderInfo.{RenderInfo}
use Rattle.render_values.specs.declared.info.RenderInfo.TheVariants as infos
use Rattle.layout_values.specs.Lay.{laid_parts}
use Rattle.block_trait.specs.Renderers.{Marking}
use Rattle.text_block_renderer.specs.PartLaws.{AreKeptWithin, HaveRoom, PartsStayWithin}
use Rattle.text_block_renderer.specs.Parts.{Parts}
use Rattle.text_decorators.specs.Marks.{IsSteady}

-- A list with numbers begins with a number of 64 bits.
abbrev pub IsNumbered : RenderInfo → Type 0
IsNumbered (infos.Numbers first) = FitsSigned w64 first
IsNumbered _ = Unit {0}

-- So does each list among values, at any depth.
abbrev pub AreNumbered : Values → Type 0
AreNumbered none = Unit {0}
AreNumbered (value head inside rest) = IsNumbered head.info × (AreNumbered inside × AreNumbered rest)

-- Values keep the width: what they are laid in stays within it.
abbrev pub KeepWidth : {H A : Type 0} → Marking H A → Type 0
KeepWidth {H} {A} m = (w : Sizing) (values : Values) (p new : Parts H A) → IsSteady m.mark_text
    → AreNumbered values → AreKeptWithin p → laid_parts m w values p ≡ Some new → PartsStayWithin p new

-- Values with room are laid.
abbrev pub AreLaidWithRoom : {H A : Type 0} → Marking H A → Type 0
AreLaidWithRoom {H} {A} m = (w : Sizing) (values : Values) (p : Parts H A) → HaveRoom p
    → IsSomeAnd (laid_parts m w values p) HaveRoom
