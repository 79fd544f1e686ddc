-- A page whose renderers keep no annotations.
use Rattle.std.specs.Prelude.{◌≡◌, map}
use Rattle.std.specs.Option.{option_map}
use Rattle.block_trait.specs.Bare.{bare_of}
use Rattle.block_trait.specs.Renderers.{Marking}
use Rattle.layout_values.specs.Sizing.{Sizing}
use Rattle.render_values.specs.Values.{Values}
use Rattle.layout_values.specs.Lay.{laid_parts}
use Rattle.text_block_renderer.specs.Parts.{Parts}

abbrev pub bare_parts : {H A : Type 0} → Parts H A → Parts H A
bare_parts p = record { below = map bare_of p.below; current = bare_of p.current; targets = p.targets }

-- Values are laid out the same in renderers that keep no annotations, and refused where they are refused in others.
abbrev pub AreLaidBare : {H A : Type 0} → Marking H A → Type 0
AreLaidBare {H} {A} m = (w : Sizing) (values : Values) (p : Parts H A)
    → laid_parts m w values (bare_parts p) ≡ option_map bare_parts (laid_parts m w values p)
