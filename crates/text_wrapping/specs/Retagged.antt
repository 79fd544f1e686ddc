-- A block of text under other tags.
use Rattle.std.specs.Prelude.{map}
use Rattle.std.specs.Option.{option_map}
use Rattle.text_wrapping.specs.Blocks.{Block}
pub use Rattle.text_pieces.specs.Retagged.{reitem, resource}

abbrev pub reblock : {A B : Type 0} → (A → B) → Block A → Block B
reblock f b = record {
  width = b.width;
  overflow = b.overflow;
  padding = option_map f b.padding;
  lines = map (map (reitem f)) b.lines;
  mode = b.mode;
  source = map (resource f) b.source;
}

-- what a call answers beside the block
abbrev pub reblocked : {A B X : Type 0} → (A → B) → X × Block A → X × Block B
reblocked f r = (r.0, reblock f r.1)
