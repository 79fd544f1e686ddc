-- Blocks of normal text: what they take, and their lines.
use Rattle.std.proofs.Common.{◌≡◌, ◌&&◌, ◌||◌, [], ◌∷◌, ◌++◌, ◌∙◌, Bool, List, None, Some, ap, append-nil, append_assoc}
use Rattle.std.proofs.Common.{false, map, not, refl, subst, sym, true, ℕ}
use Rattle.std.specs.Prelude.{if◌then◌else◌}
use Rattle.std.specs.Option.{option_map}
use Rattle.text_lines.specs.Tagged.{Item}
use Rattle.text_pieces.specs.Sources.{Source, letter, sourced}
use Rattle.text_pieces.specs.declared.white_space.WhiteSpace.TheVariants.{Normal}
use Rattle.text_normal.specs.Layout.{AreLinesOf, NeverFits}
use Rattle.text_normal.specs.Riders.{normal_lines, has_wide_text}
use Rattle.text_normal.specs.Letters.{letters_of}
use Rattle.text_wrapping.specs.Blocks.{Block, padded, lines_after, lines_of, took_all, added, ended_lines}
use Rattle.text_wrapping.specs.NormalBlocks.{normal_block}

-- ---- what is taken

took_all_normal : {S : Type 0} (width : ℕ) (overflow : Bool) (source : List (Source S)) (cs : List ℕ)
    (main further : S) → took_all main further cs (normal_block width overflow source)
    ≡ Some (normal_block width overflow (source ++ sourced cs main further))
took_all_normal width overflow source [] main further =
    ap (λ s. Some (normal_block width overflow s)) (sym (append-nil source))
took_all_normal width overflow source (c ∷ cs) main further =
    took_all_normal width overflow (source ++ letter c main further ∷ []) cs main further
    ∙ ap (λ s. Some (normal_block width overflow s))
    (append_assoc source (letter c main further ∷ []) (sourced cs main further))

pub added_normal : {S : Type 0} (width : ℕ) (overflow : Bool) (source : List (Source S)) (cs : List ℕ)
    (main further : S) → added Normal cs main further (normal_block width overflow source)
    ≡ Some (normal_block width overflow (source ++ sourced cs main further))
added_normal width overflow source [] main further =
    ap (λ s. Some (normal_block width overflow s)) (sym (append-nil source))
added_normal width overflow source (c ∷ cs) main further =
    took_all_normal width overflow source (c ∷ cs) main further

-- ---- lines

not_padded : {S : Type 0} (width : ℕ) (lines : List (List (Item S))) → map (padded width None) lines ≡ lines
not_padded width [] = refl
not_padded width (line ∷ lines) = ap (λ rest. line ∷ rest) (not_padded width lines)

-- what ends without a refusal
ended_at : {S : Type 0} (overflow wide : Bool) (b : Block S) (lines : List (List (Item S)))
    → option_map lines_of (if not overflow && wide then None else Some b) ≡ Some lines
    → ((overflow || not wide) ≡ true) × (b.lines ≡ lines)
ended_at true wide b lines e = (refl, some_same b.lines lines e)
  where
    some_same : {X : Type 0} (x y : X) → Some x ≡ Some y → x ≡ y
    some_same x y h = cc
ended_at false true b lines e = cc
ended_at false false b lines e = (refl, some_same b.lines lines e)
  where
    some_same : {X : Type 0} (x y : X) → Some x ≡ Some y → x ≡ y
    some_same x y h = cc

refused_at : {S : Type 0} (overflow wide : Bool) (b : Block S)
    → option_map lines_of (if not overflow && wide then None else Some b) ≡ None
    → (overflow ≡ false) × (wide ≡ true)
refused_at true wide b e = cc
refused_at false true b e = (refl, refl)
refused_at false false b e = cc

pub block_lines_are : {S : Type 0} (width : ℕ) (overflow : Bool) (source : List (Source S))
    (lines : List (List (Item S)))
    → ((overflow || not (has_wide_text width source)) ≡ true
    → AreLinesOf width overflow (letters_of source) (normal_lines width source))
    → ended_lines (normal_block width overflow source) ≡ Some lines
    → AreLinesOf width overflow (letters_of source) lines
block_lines_are width overflow source lines law e =
    let ends = ended_at overflow (has_wide_text width source)
    (lines_after (normal_block width overflow source) (normal_lines width source)) lines e in
    subst (AreLinesOf width overflow (letters_of source))
    (sym (not_padded width (normal_lines width source)) ∙ ends.1)
    (law ends.0)

pub narrow_block : {S : Type 0} (width : ℕ) (overflow : Bool) (source : List (Source S))
    → (has_wide_text width source ≡ true → NeverFits width false (letters_of source))
    → ended_lines (normal_block width overflow source) ≡ None
    → (overflow ≡ false) × NeverFits width false (letters_of source)
narrow_block width overflow source law e =
    let refused = refused_at overflow (has_wide_text width source)
    (lines_after (normal_block width overflow source) (normal_lines width source)) e in
    (refused.0, law refused.1)
