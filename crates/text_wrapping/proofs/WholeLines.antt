-- A source line that is one line, in a block that holds no text.
use Rattle.std.proofs.Common.{◌≡◌, Bool, true, false, List, [], ◌∷◌, ◌++◌, Some, refl, sym, ap, ◌∙◌}
use Rattle.std.specs.Prelude.{not, ◌&&◌, if◌then◌else◌}
use Rattle.text_lines.specs.Tagged.{Item}
use Rattle.text_pieces.specs.Modes.{is_preserved, is_wrapped}
use Rattle.text_pieces.specs.Sources.{Source}
use Rattle.text_preserved.specs.Preserved.{preserved_lines, preserved_waiting, is_too_wide}
use Rattle.text_preserved.specs.PlainLines.{IsOnlyLine}
use Rattle.text_normal.specs.Riders.{normal_lines, normal_waiting, has_wide_text}
use Rattle.text_wrapping.specs.Blocks.{Block, after_sources, with_lines, with_source, line_ended, is_too_narrow}
use Rattle.text_wrapping.specs.Lines.{lines_in, waiting_in, is_wide_in}
use Rattle.text_wrapping.proofs.BlockLemmas.{line_ended_by}

and_false : (a b : Bool) → b ≡ false → (a && b) ≡ false
and_false true b e = e
and_false false b e = refl

pub whole_ended : {S : Type 0} (b : Block S) (source : List (Source S)) (line : List (Item S)) → b.source ≡ []
    → is_preserved b.mode ≡ true → IsOnlyLine b.width (is_wrapped b.mode) source line
    → line_ended (after_sources source b) ≡ Some (with_lines (line ∷ []) b)
whole_ended {S = S} b source line none preserved only =
    let w = b.width in
    let wraps = is_wrapped b.mode in
    let held : Block S = with_source source b in
    let narrow : is_too_narrow held ≡ false =
    and_false (not b.overflow) (is_wide_in b.mode w source)
    (ap (λ t. if t then is_too_wide w wraps source else has_wide_text w source) preserved ∙ only.fits) in
    let lines : line ∷ [] ≡ lines_in b.mode w source =
    sym (ap (λ t. if t then preserved_lines w wraps source else normal_lines w source) preserved ∙ only.lines) in
    let waiting : [] ≡ waiting_in b.mode w source =
    sym (ap (λ t. if t then preserved_waiting w wraps source else normal_waiting w source) preserved ∙ only.waiting) in
    ap (λ s. line_ended (with_source (s ++ source) b)) none
    ∙ line_ended_by held (with_lines (line ∷ []) held) (with_lines (line ∷ []) b) (line ∷ []) (line ∷ []) [] narrow
    lines refl waiting refl (ap (λ s. with_source s (with_lines (line ∷ []) b)) none)
