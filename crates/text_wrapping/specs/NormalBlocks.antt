-- Blocks of normal text, of which no line is filled and nothing has ended.
use Rattle.std.specs.Prelude.{ℕ, Bool, List, [], None}
use Rattle.text_pieces.specs.Sources.{Source}
use Rattle.text_pieces.specs.declared.white_space.WhiteSpace.TheVariants.{Normal}
use Rattle.text_wrapping.specs.Blocks.{Block}

-- the block that holds this text
abbrev pub normal_block : {S : Type 0} → ℕ → Bool → List (Source S) → Block S
normal_block width overflow source = record {
  width = width;
  overflow = overflow;
  padding = None;
  lines = [];
  mode = Normal;
  source = source;
}
