-- No line of a block passes its width.
use Rattle.std.proofs.Common.{◌≡◌, ◌≤◌, ◌&&◌, ◌==◌, [], ◌∷◌, ◌∙◌, Bool, List, None, Some, ap, arith, false, map, not}
use Rattle.std.proofs.Common.{refl, subst, sym, true, ℕ}
use Rattle.std.specs.Prelude.{Option, All, if◌then◌else◌}
use Rattle.std.specs.Option.{option_map, option_and_then}
use Rattle.std.proofs.lemmas.List.Elements.{All-nil, All-cons, All-head, All-tail, All-append}
use Rattle.text_lines.specs.Tagged.{Item, line_columns}
use Rattle.text_pieces.specs.Sources.{Source}
use Rattle.text_pieces.specs.Modes.{is_preserved, is_wrapped, is_same_mode}
use Rattle.text_preserved.specs.Preserved.{preserved_lines, is_too_wide as is_wide_source}
use Rattle.text_pieces.specs.declared.white_space.WhiteSpace.{WhiteSpace}
use Rattle.text_normal.specs.Riders.{normal_lines, has_wide_text}
use Rattle.text_wrapping.specs.Lines.{lines_in, is_wide_in}
use Rattle.text_wrapping.specs.Blocks.{Block, added, ended, ended_lines, in_mode, is_too_narrow, line_ended, line_feed}
use Rattle.text_wrapping.specs.Blocks.{lines_after, lines_of, lines_or_empty, padded, took, took_all, with_letter}
use Rattle.text_wrapping.specs.Blocks.{with_mode}
use Rattle.text_wrapping.specs.LawWords.{IsWithin}
use Rattle.text_wrapping.proofs.BlockLaws.{filled_width, some_same}

-- no line passes the width
abbrev pub AreFitting : {S : Type 0} → ℕ → List (List (Item S)) → Type 0
AreFitting width lines = All (λ line. line_columns line ≤ width) lines

-- what the crates below say of the lines of a text
pub record FitLaws (S : Type 0) : Type 0 where
  pub preserved : (width : ℕ) (wraps : Bool) (line : List (Source S)) → is_wide_source width wraps line ≡ false
      → AreFitting width (preserved_lines width wraps line)
  pub normal : (width : ℕ) (source : List (Source S)) → has_wide_text width source ≡ false
      → AreFitting width (normal_lines width source)

text_fits : {S : Type 0} (laws : FitLaws S) (mode : WhiteSpace) (width : ℕ) (source : List (Source S))
    → is_wide_in mode width source ≡ false → AreFitting width (lines_in mode width source)
text_fits laws mode width source narrow = by_mode (is_preserved mode) narrow
  where
    by_mode : (b : Bool) → (if b then is_wide_source width (is_wrapped mode) source else has_wide_text width source)
        ≡ false → AreFitting width (if b then preserved_lines width (is_wrapped mode) source
        else normal_lines width source)
    by_mode true h = laws.preserved width (is_wrapped mode) source h
    by_mode false h = laws.normal width source h

padded_fits : {S : Type 0} (width : ℕ) (padding : Option S) (line : List (Item S)) → line_columns line ≤ width
    → line_columns (padded width padding line) ≤ width
padded_fits width None line fits = fits
padded_fits width (Some tag) line fits = let same = filled_width width tag line fits in omega (arith, same)

all_padded : {S : Type 0} (width : ℕ) (padding : Option S) (lines : List (List (Item S))) → AreFitting width lines
    → AreFitting width (map (padded width padding) lines)
all_padded width padding [] fit = All-nil (λ line. line_columns line ≤ width)
all_padded width padding (line ∷ lines) fit =
    All-cons (λ l. line_columns l ≤ width) (padded width padding line) (map (padded width padding) lines)
    (padded_fits width padding line (All-head (λ l. line_columns l ≤ width) line lines fit))
    (all_padded width padding lines (All-tail (λ l. line_columns l ≤ width) line lines fit))

or_empty_fits : {S : Type 0} (width : ℕ) (lines : List (List (Item S))) → AreFitting width lines
    → AreFitting width (lines_or_empty lines)
or_empty_fits width [] fit =
    All-cons (λ l. line_columns l ≤ width) [] [] (omega arith) (All-nil (λ l. line_columns l ≤ width))
or_empty_fits width (line ∷ lines) fit = fit

-- ---- what ends

after_fits : {S : Type 0} (width : ℕ) (b : Block S) (lines : List (List (Item S))) → IsWithin width b
    → AreFitting width lines → IsWithin width (lines_after b lines)
after_fits {S = S} width b lines h fit =
    record {
      same_width = h.same_width;
      no_overflow = h.no_overflow;
      lines = All-append (λ (l : List (Item S)). line_columns l ≤ width) b.lines
          (map (padded b.width b.padding) lines) h.lines
          (subst (λ w. AreFitting width (map (padded w b.padding) lines)) (sym h.same_width)
          (all_padded width b.padding lines fit));
    }

unless_narrow : {S : Type 0} (width : ℕ) (narrow : Bool) (mid new : Block S)
    → (if narrow then None else Some mid) ≡ Some new → (narrow ≡ false → IsWithin width mid) → IsWithin width new
unless_narrow width true mid new is h = cc
unless_narrow width false mid new is h = subst (IsWithin width) (some_same mid new is) (h refl)

narrow_text : {S : Type 0} (width : ℕ) (b : Block S) → IsWithin width b → is_too_narrow b ≡ false
    → is_wide_in b.mode width b.source ≡ false
narrow_text width b h room =
    ap (λ w. is_wide_in b.mode w b.source) (sym h.same_width)
    ∙ ap (λ o. not o && is_wide_in b.mode b.width b.source) (sym h.no_overflow) ∙ room

held_fits : {S : Type 0} (laws : FitLaws S) (width : ℕ) (b : Block S) → IsWithin width b → is_too_narrow b ≡ false
    → AreFitting width (lines_in b.mode b.width b.source)
held_fits laws width b h room =
    subst (λ w. AreFitting width (lines_in b.mode w b.source)) (sym h.same_width)
    (text_fits laws b.mode width b.source (narrow_text width b h room))

pub ended_within : {S : Type 0} (laws : FitLaws S) (width : ℕ) (b new : Block S) → IsWithin width b
    → ended b ≡ Some new → IsWithin width new
ended_within laws width b new h is =
    unless_narrow width (is_too_narrow b) (lines_after b (lines_in b.mode b.width b.source)) new is
    (λ room. after_fits width b (lines_in b.mode b.width b.source) h (held_fits laws width b h room))

line_within : {S : Type 0} (laws : FitLaws S) (width : ℕ) (b new : Block S) → IsWithin width b
    → line_ended b ≡ Some new → IsWithin width new
line_within laws width b new h is =
    unless_narrow width (is_too_narrow b) (lines_after b (lines_or_empty (lines_in b.mode b.width b.source))) new is
    (λ room. after_fits width b (lines_or_empty (lines_in b.mode b.width b.source)) h
    (or_empty_fits width (lines_in b.mode b.width b.source) (held_fits laws width b h room)))

-- ---- what is taken

same_lines : {S : Type 0} (width : ℕ) (b : Block S) (mode : WhiteSpace) (source : List (Source S)) → IsWithin width b
    → IsWithin width (record b { mode = mode; source = source })
same_lines width b mode source h =
    record { same_width = h.same_width; no_overflow = h.no_overflow; lines = h.lines }

took_within : {S : Type 0} (laws : FitLaws S) (width : ℕ) (main further : S) (c : ℕ) (b new : Block S)
    → IsWithin width b → took main further c b ≡ Some new → IsWithin width new
took_within laws width main further c b new h is = by_end (is_preserved b.mode && (c == line_feed)) is
  where
    by_end : (t : Bool) → (if t then line_ended b else Some (with_letter main further c b)) ≡ Some new
        → IsWithin width new
    by_end true e = line_within laws width b new h e
    by_end false e = subst (IsWithin width) (some_same (with_letter main further c b) new e)
        (same_lines width b b.mode (with_letter main further c b).source h)

took_all_within : {S : Type 0} (laws : FitLaws S) (width : ℕ) (main further : S) (cs : List ℕ) (b new : Block S)
    → IsWithin width b → took_all main further cs b ≡ Some new → IsWithin width new
took_all_within laws width main further [] b new h is = subst (IsWithin width) (some_same b new is) h
took_all_within {S = S} laws width main further (c ∷ cs) b new h is =
    by_first (λ mid within e. took_all_within laws width main further cs mid new within e)
    (took main further c b) refl is
  where
    by_first : ((mid : Block S) → IsWithin width mid → took_all main further cs mid ≡ Some new → IsWithin width new)
        → (o : Option (Block S)) → took main further c b ≡ o
        → option_and_then (took_all main further cs) o ≡ Some new → IsWithin width new
    by_first rest None e k = cc
    by_first rest (Some mid) e k = rest mid (took_within laws width main further c b mid h e) k

entered_within : {S : Type 0} (laws : FitLaws S) (width : ℕ) (mode : WhiteSpace) (b new : Block S) → IsWithin width b
    → in_mode mode b ≡ Some new → IsWithin width new
entered_within {S = S} laws width mode b new h is = by_same (is_same_mode mode b.mode) is
  where
    by_ended : (o : Option (Block S)) → ended b ≡ o → option_map (with_mode mode) o ≡ Some new → IsWithin width new
    by_ended None e k = cc
    by_ended (Some x) e k = subst (IsWithin width) (some_same (with_mode mode x) new k)
        (same_lines width x mode x.source (ended_within laws width b x h e))

    by_same : (t : Bool) → (if t then Some b else option_map (with_mode mode) (ended b)) ≡ Some new → IsWithin width new
    by_same true k = subst (IsWithin width) (some_same b new k) h
    by_same false k = by_ended (ended b) refl k

pub added_within : {S : Type 0} (laws : FitLaws S) (width : ℕ) (mode : WhiteSpace) (cs : List ℕ) (main further : S)
    (b new : Block S) → IsWithin width b → added mode cs main further b ≡ Some new → IsWithin width new
added_within laws width mode [] main further b new h is = subst (IsWithin width) (some_same b new is) h
added_within {S = S} laws width mode (c ∷ cs) main further b new h is = by_entered (in_mode mode b) refl is
  where
    by_entered : (o : Option (Block S)) → in_mode mode b ≡ o
        → option_and_then (took_all main further (c ∷ cs)) o ≡ Some new → IsWithin width new
    by_entered None e k = cc
    by_entered (Some x) e k =
        took_all_within laws width main further (c ∷ cs) x new (entered_within laws width mode b x h e) k

pub lines_within : {S : Type 0} (laws : FitLaws S) (width : ℕ) (b : Block S) (lines : List (List (Item S)))
    → IsWithin width b → ended_lines b ≡ Some lines → AreFitting width lines
lines_within {S = S} laws width b lines h is = by_ended (ended b) refl is
  where
    by_ended : (o : Option (Block S)) → ended b ≡ o → option_map lines_of o ≡ Some lines → AreFitting width lines
    by_ended None e k = cc
    by_ended (Some x) e k =
        subst (AreFitting width) (some_same (lines_of x) lines k) (ended_within laws width b x h e).lines
