-- Text in each mode of white space, at its widest columns.
use Rattle.std.proofs.Common.{◌≡◌, ◌≤◌, ◌∙◌, Bool, List, ap, arith, false, length, refl, sym, true, ℕ}
use Rattle.text_pieces.specs.Modes.{is_preserved}
use Rattle.text_pieces.specs.Sources.{Source}
use Rattle.text_pieces.specs.declared.white_space.WhiteSpace.{WhiteSpace}
use Rattle.text_pieces.specs.declared.white_space.WhiteSpace.TheVariants.{Normal, Pre, PreWrap}
use Rattle.text_normal.specs.Letters.{codes_of, has_marker}
use Rattle.text_preserved.specs.Preserved.{parts, preserved_lines}
use Rattle.text_wrapping.specs.Lines.{lines_in}
use Rattle.content_widths.specs.Texts.{lines_columns, widest_of}
use Rattle.content_laws.proofs.NormalLine.{normal_is, normal_line_one}
use Rattle.content_laws.proofs.PreservedLine.{part_line_one}
use Rattle.content_laws.proofs.SourceColumns.{HasNoLineEnd, preserved_is, preserved_same}

preserved_one : {S : Type 0} (w : ℕ) (wraps : Bool) (source : List (Source S)) → HasNoLineEnd (codes_of source)
    → lines_columns 0 (codes_of source) ≤ w → length (preserved_lines w wraps source) ≤ 1
preserved_one w wraps source one fits =
    omega (arith, ap length (preserved_is w wraps source one fits), part_line_one (parts w wraps source))

pub one_in : {S : Type 0} (mode : WhiteSpace) (w : ℕ) (source : List (Source S))
    → widest_of mode (codes_of source) ≤ w
    → (is_preserved mode ≡ true → HasNoLineEnd (codes_of source))
    → (is_preserved mode ≡ false → has_marker source ≡ false) → length (lines_in mode w source) ≤ 1
one_in Normal w source fits one none =
    omega (arith, ap length (normal_is w source (none refl) fits), normal_line_one source)
one_in Pre w source fits one none = preserved_one w false source (one refl) fits
one_in PreWrap w source fits one none = preserved_one w true source (one refl) fits

pub same_in : {S : Type 0} (mode : WhiteSpace) (w wider : ℕ) (source : List (Source S))
    → widest_of mode (codes_of source) ≤ w → w ≤ wider
    → (is_preserved mode ≡ true → HasNoLineEnd (codes_of source))
    → (is_preserved mode ≡ false → has_marker source ≡ false)
    → lines_in mode w source ≡ lines_in mode wider source
same_in Normal w wider source fits more one none =
    normal_is w source (none refl) fits ∙ sym (normal_is wider source (none refl) (omega arith))
same_in Pre w wider source fits more one none = preserved_same w wider false source (one refl) fits more
same_in PreWrap w wider source fits more one none = preserved_same w wider true source (one refl) fits more
