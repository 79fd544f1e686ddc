-- A block that holds no text has ended.
use Rattle.std.proofs.Common.{◌≡◌, ℕ, Bool, true, false, List, [], ap, sym, ◌∙◌, append-nil}
use Rattle.std.specs.Prelude.{Option, Some}
use Rattle.text_lines.specs.Tagged.{Item}
use Rattle.text_pieces.specs.Sources.{Source}
use Rattle.text_pieces.specs.declared.white_space.WhiteSpace.{WhiteSpace}
use Rattle.text_pieces.specs.declared.white_space.WhiteSpace.TheVariants.{Normal, Pre, PreWrap}
use Rattle.text_preserved.specs.Preserved.{preserved_lines, preserved_waiting, is_too_wide}
use Rattle.text_normal.specs.Riders.{normal_lines, normal_waiting}
use Rattle.text_wrapping.specs.Blocks.{Block, ended}

abbrev block : {S : Type 0} → WhiteSpace → Bool → ℕ → Option S → List (List (Item S)) → List (Source S) → Block S
block mode overflow width padding lines source = record {
  width = width;
  overflow = overflow;
  padding = padding;
  lines = lines;
  mode = mode;
  source = source;
}

bare_ended : {S : Type 0} (mode : WhiteSpace) (overflow : Bool) (width : ℕ) (padding : Option S)
    (lines : List (List (Item S))) → ended (block mode overflow width padding lines [])
    ≡ Some (block mode overflow width padding lines [])
unfolding preserved_lines preserved_waiting is_too_wide normal_lines normal_waiting
bare_ended Normal true width padding lines =
    ap (λ ls. Some (block Normal true width padding ls [])) (append-nil lines)
bare_ended Normal false width padding lines =
    ap (λ ls. Some (block Normal false width padding ls [])) (append-nil lines)
bare_ended Pre true width padding lines = ap (λ ls. Some (block Pre true width padding ls [])) (append-nil lines)
bare_ended Pre false width padding lines = ap (λ ls. Some (block Pre false width padding ls [])) (append-nil lines)
bare_ended PreWrap true width padding lines =
    ap (λ ls. Some (block PreWrap true width padding ls [])) (append-nil lines)
bare_ended PreWrap false width padding lines =
    ap (λ ls. Some (block PreWrap false width padding ls [])) (append-nil lines)

pub nothing_ended : {S : Type 0} (b : Block S) → b.source ≡ [] → ended b ≡ Some b
nothing_ended b none =
    ap (λ s. ended (record b { source = s })) none ∙ bare_ended b.mode b.overflow b.width b.padding b.lines
    ∙ ap (λ s. Some (record b { source = s })) (sym none)
