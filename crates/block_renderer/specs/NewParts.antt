-- A renderer for a part of a block.
use Rattle.std.specs.Prelude.{ℕ, min, [], ◌∷◌}
use Rattle.block_trait.specs.Renderers.{Sub, mode_of, new_part}

-- White space and preformatting go on in it as they stand, strikeouts don't; `sub` is what a decorator made for it
-- holds.
abbrev pub part_of : {H A : Type 0} → (sub : H → H) → ℕ → Sub H A → Sub H A
part_of sub width s = record (new_part sub width s) {
  modes = mode_of s ∷ [];
  preformats = min s.preformats 1;
}
