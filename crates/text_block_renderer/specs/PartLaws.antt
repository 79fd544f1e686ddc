-- Words of the laws on renderers of a page.
use Rattle.std.specs.Prelude.{◌≡◌, All}
use Rattle.block_laws.specs.RendererLaws.{IsKeptWithin, StaysWithin, HasRoom}
use Rattle.text_block_renderer.specs.Parts.{Parts}

-- No character may overflow in any of them, and what each has laid is within its width.
pub record AreKeptWithin {H A : Type 0} (p : Parts H A) : Type 0 where
  pub current : IsKeptWithin p.current
  pub below : All IsKeptWithin p.below

-- The current one is kept within its width, under its options, and those below it stay as they were.
pub record PartsStayWithin {H A : Type 0} (old new : Parts H A) : Type 0 where
  pub current : StaysWithin old.current new.current
  pub below : new.below ≡ old.below
  pub kept : AreKeptWithin new

-- In each of them a character that is wider than the lines may stand alone.
pub record HaveRoom {H A : Type 0} (p : Parts H A) : Type 0 where
  pub current : HasRoom p.current
  pub below : All HasRoom p.below
