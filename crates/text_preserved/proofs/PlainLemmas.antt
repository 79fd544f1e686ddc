-- A source line of printable ASCII that fits on a line is that line.
use Rattle.std.proofs.Common.{◌≡◌, ◌≤◌, [], ◌∷◌, ◌++◌, ◌∙◌, ◌<◌, Bool, List, ap, arith, chars, false, get_or, inl, inr}
use Rattle.std.proofs.Common.{length, refl, string_bytes, subst, sym, take, true, ℕ}
use Rattle.std.specs.Prelude.{◌⊎◌, ◌||◌, nat_lt, All, flat_map, Option, None, Some, IsSome, option_to_list}
use Rattle.std.specs.String.Boundary.{IsSplitPoint}
use Rattle.std.proofs.lemmas.List.{append-nil}
use Rattle.std.proofs.lemmas.List.Elements.{All-from_get_or, All-get_or, All-head, All-tail}
use Rattle.std.proofs.lemmas.List.Sums.{sum_by-cons}
use Rattle.std.proofs.lemmas.Str.{chars-IsAscii}
use Rattle.std.proofs.lemmas.Str.Ascii.{IsAscii-from_all}
use Rattle.text_lines.specs.Columns.{text_columns, width_of}
use Rattle.text_lines.specs.Tagged.{character, marker, tagged}
use Rattle.text_pieces.specs.Sources.{Source, fragment, is_filled, letter, names_of, sourced, sources_of, text_sources}
use Rattle.text_pieces.specs.Sources.{wrap_seen}
use Rattle.text_pieces.specs.declared.piece.Piece.{Piece}
use Rattle.text_pieces.specs.declared.piece.Piece.TheVariants.{Text, Fragment}
use Rattle.text_pieces.specs.declared.piece.TextPiece.{TextPiece}
use Rattle.text_pieces.specs.Items.{markers_of}
use Rattle.text_preserved.specs.Preserved.{Part, blank, body, has_wide_body, has_wide_letter, is_too_wide, kind_of}
use Rattle.text_preserved.specs.Preserved.{parts, preserved_lines, preserved_waiting, solid, stop, trimmed}
use Rattle.text_preserved.specs.Fronts.{BeginsSolid}
use Rattle.text_preserved.specs.LawWords.{ArePlain, source_columns, as_it_stands, one_line}
use Rattle.text_preserved.specs.PlainLines.{IsOnlyLine, IsPrintable, IsPlainFront, IsPlainCut, MakesLine, lead_items}
use Rattle.text_preserved.specs.Trimming.{IsFrontOf}
use Rattle.text_preserved.proofs.CharacterLemmas.{visible_is_solid}
use Rattle.text_preserved.proofs.ColumnLemmas.{lt_is_false}
use Rattle.text_preserved.proofs.FrontLemmas.{width_of-two}
use Rattle.text_preserved.proofs.LayingMarkers.{lines_keep_markers}
use Rattle.text_preserved.proofs.LayingPlain.{a_line_that_fits, a_marked_line_that_fits}
use Rattle.text_preserved.proofs.TrimLemmas.{sourced_trimmed}

plain_one : (width : ℕ) (wraps : Bool) (c : ℕ) → IsPrintable c → (kind_of width wraps c ≡ solid) ⊎ (c ≡ 0x20)
plain_one width wraps c (inl space) = inr space
plain_one width wraps c (inr shown) = inl (visible_is_solid c shown.0 shown.1 width wraps)

are_plain : {S : Type 0} (width : ℕ) (wraps : Bool) (cs : List ℕ) (main further : S) → All IsPrintable cs
    → ArePlain width wraps (sourced cs main further)
are_plain width wraps [] main further all = tt
are_plain width wraps (c ∷ cs) main further all = (
  plain_one width wraps c (All-head IsPrintable c cs all),
  are_plain width wraps cs main further (All-tail IsPrintable c cs all),
)

counted : {S : Type 0} (cs : List ℕ) (main further : S) → source_columns (sourced cs main further) ≡ text_columns cs
counted [] main further = refl
counted (c ∷ cs) main further = omega (arith, sum_by-cons width_of c cs, counted cs main further)

stands : {S : Type 0} (cs : List ℕ) (main further : S) → as_it_stands (sourced cs main further) ≡ tagged cs main
stands [] main further = refl
stands (c ∷ cs) main further = ap (λ l. character c main ∷ l) (stands cs main further)

no_names : {S : Type 0} (cs : List ℕ) (main further : S) → names_of (sourced cs main further) ≡ []
no_names [] main further = refl
no_names (c ∷ cs) main further = no_names cs main further

no_markers : {S : Type 0} (cs : List ℕ) (main : S) → markers_of (tagged cs main) ≡ []
no_markers [] main = refl
no_markers (c ∷ cs) main = no_markers cs main

filled_line : {S : Type 0} (cs : List ℕ) (main : S) → is_filled cs ≡ true
    → one_line (tagged cs main) ≡ tagged cs main ∷ []
filled_line [] main filled = cc
filled_line (c ∷ cs) main filled = refl

-- printable bytes are the characters
below : (b : ℕ) → IsPrintable b → b < 128
below b (inl space) = omega (arith, space)
below b (inr shown) = omega (arith, shown.1)

pub printable_characters : (bs : List ℕ) → All IsPrintable bs → All IsPrintable (chars bs)
printable_characters bs all =
    subst (All IsPrintable) (sym (chars-IsAscii bs (IsAscii-from_all bs (All-from_get_or (λ b. b < 128) bs 0
    (λ i inside. below (get_or bs i 0) (All-get_or IsPrintable bs i 0 inside all)))))) all

-- ---- no character is wider than two columns

either : (a b : Bool) → a ≡ false → b ≡ false → (a || b) ≡ false
either true b e f = cc
either false b e f = f

no_wide_letter : {S : Type 0} (width : ℕ) (word : List (Source S)) → 2 ≤ width → has_wide_letter width word ≡ false
no_wide_letter width [] wide = refl
no_wide_letter width (letter c main further ∷ rest) wide =
    either (nat_lt width (width_of c)) (has_wide_letter width rest)
    (lt_is_false width (width_of c) (omega (arith, width_of-two c))) (no_wide_letter width rest wide)
no_wide_letter width (fragment name ∷ rest) wide = no_wide_letter width rest wide

no_wide_body : {S : Type 0} (width : ℕ) (ps : List (Part S)) → 2 ≤ width → has_wide_body width ps ≡ false
no_wide_body width [] wide = refl
no_wide_body width (blank n main further ∷ rest) wide = no_wide_body width rest wide
no_wide_body width (stop main further ∷ rest) wide = no_wide_body width rest wide
no_wide_body width (body word ∷ rest) wide =
    either (has_wide_letter width word) (has_wide_body width rest) (no_wide_letter width word wide)
    (no_wide_body width rest wide)

never_wide : {S : Type 0} (width : ℕ) (wraps : Bool) (source : List (Source S)) → 2 ≤ width
    → is_too_wide width wraps source ≡ false
unfolding is_too_wide
never_wide width wraps source wide = no_wide_body width (parts width wraps source) wide

-- ---- the line

pub only : {S : Type 0} (width : ℕ) (wraps : Bool) (text front : List ℕ) (main further : S)
    → IsPlainFront width wraps text front → text_columns front ≤ width
    → IsOnlyLine width wraps (sourced text main further) (tagged front main)
only {S = S} width wraps text front main further p fits =
    let source : List (Source S) = sourced text main further in
    let trims : trimmed width wraps source ≡ sourced front main further =
    sourced_trimmed width wraps text main further ∙ ap (λ cs. sourced cs main further) (sym p.is) in
    let lines : preserved_lines width wraps source ≡ tagged front main ∷ [] =
    a_line_that_fits width wraps source (are_plain width wraps text main further p.printable)
    (omega (arith, ap source_columns trims, counted front main further, fits))
    ∙ ap (λ l. one_line (as_it_stands l)) trims ∙ ap one_line (stands front main further)
    ∙ filled_line front main p.filled in
    let rest : List (List ℕ) = preserved_waiting width wraps source in
    record {
      lines = lines;
      waiting = sym (ap (λ m. (m ++ []) ++ rest) (no_markers front main))
          ∙ sym (ap (λ ls. flat_map (markers_of {S = S}) ls ++ rest) lines)
          ∙ lines_keep_markers width wraps source ∙ no_names text main further;
      fits = never_wide width wraps source p.wide;
    }

-- after a marker, where the line begins with a character that is shown
pub only_marked : {S : Type 0} (width : ℕ) (wraps : Bool) (name text front : List ℕ) (main further : S)
    → IsPlainFront width wraps text front → BeginsSolid width wraps front → text_columns front ≤ width
    → IsOnlyLine width wraps (fragment name ∷ sourced text main further) (marker name ∷ tagged front main)
only_marked {S = S} width wraps name text front main further p begins fits =
    let source : List (Source S) = sourced text main further in
    let trims : trimmed width wraps source ≡ sourced front main further =
    sourced_trimmed width wraps text main further ∙ ap (λ cs. sourced cs main further) (sym p.is) in
    let lines : preserved_lines width wraps (fragment name ∷ source) ≡ (marker name ∷ tagged front main) ∷ [] =
    a_marked_line_that_fits width wraps name source begins.first main further (sourced begins.after main further)
    (are_plain width wraps text main further p.printable)
    (trims ∙ ap (λ cs. sourced cs main further) begins.whole) begins.is_solid
    (omega (arith, ap source_columns trims, counted front main further, fits))
    ∙ ap (λ l. (marker name ∷ as_it_stands l) ∷ []) trims
    ∙ ap (λ items. (marker name ∷ items) ∷ []) (stands front main further) in
    let rest : List (List ℕ) = preserved_waiting width wraps (fragment name ∷ source) in
    let all : name ∷ rest ≡ name ∷ [] =
    sym (ap (λ m. ((name ∷ m) ++ []) ++ rest) (no_markers front main))
    ∙ sym (ap (λ ls. flat_map (markers_of {S = S}) ls ++ rest) lines)
    ∙ lines_keep_markers width wraps (fragment name ∷ source)
    ∙ ap (λ ns. name ∷ ns) (no_names text main further) in
    record { lines = lines; waiting = cc all; fits = never_wide width wraps (fragment name ∷ source) p.wide }

-- ---- the line that is taken

pub plain_cut : (width : ℕ) (wraps : Bool) (text front : List ℕ) (bytes columns : ℕ)
    → IsPlainFront width wraps (chars text) (chars front) → IsFrontOf text front → bytes ≡ length front
    → columns ≡ text_columns (chars front) → columns ≤ width → IsPlainCut width wraps text bytes columns
plain_cut width wraps text front bytes columns plain f size counted fits =
    let is : front ≡ take bytes text = sym (ap (λ n. take n text) size ∙ f.is) in
    record {
      front = subst (λ l. IsPlainFront width wraps (chars text) (chars l)) is plain;
      edge = subst (IsSplitPoint text) (sym size) f.edge;
      counted = counted ∙ ap (λ l. text_columns (chars l)) is;
      fits = fits;
    }

pub begins_cut : (width : ℕ) (wraps : Bool) (text front : List ℕ) (bytes : ℕ) → IsFrontOf text front
    → bytes ≡ length front → BeginsSolid width wraps (chars front)
    → BeginsSolid width wraps (chars (take bytes text))
begins_cut width wraps text front bytes f size begins =
    subst (λ l. BeginsSolid width wraps (chars l)) (sym (ap (λ n. take n text) size ∙ f.is)) begins

-- what is taken off the pieces after their text
pub record IsTaken {T S : Type 0} (seen : T → S) (width : ℕ) (wraps : Bool) (pieces rest : List (Piece T))
    (piece : TextPiece T) (lead : Option (Piece T)) (bytes columns : ℕ) : Type 0 where
  pub cut : IsPlainCut width wraps (string_bytes piece.text) bytes columns
  pub line : IsOnlyLine width wraps (sources_of seen pieces)
      (lead_items lead ++ tagged (chars (take bytes (string_bytes piece.text))) (seen piece.main_tag))
  pub none : rest ≡ []

no_lead : {A : Type 0} (rest : List A) (lead : Option A) → [] ≡ rest ++ option_to_list lead
    → (rest ≡ []) × (lead ≡ None)
no_lead [] None e = (refl, refl)
no_lead [] (Some x) e = cc
no_lead (y ∷ rest) lead e = cc

one_lead : {A : Type 0} (x : A) (rest : List A) (lead : Option A) → x ∷ [] ≡ rest ++ option_to_list lead
    → IsSome lead → (rest ≡ []) × (lead ≡ Some x)
one_lead x [] None e some = cc
one_lead x [] (Some y) e some = (refl, cc)
one_lead x (y ∷ []) None e some = cc
one_lead x (y ∷ []) (Some z) e some = cc
one_lead x (y ∷ z ∷ rest) lead e some = cc

pub line_taken : {T S : Type 0} (seen : T → S) (width : ℕ) (wraps : Bool) (pieces front rest : List (Piece T))
    (piece : TextPiece T) (lead : Option (Piece T)) (bytes columns : ℕ) → MakesLine width wraps pieces bytes columns
    → pieces ≡ front ++ Text piece ∷ [] → front ≡ rest ++ option_to_list lead → (0 < length front → IsSome lead)
    → IsTaken seen width wraps pieces rest piece lead bytes columns
line_taken seen width wraps pieces [] rest piece lead bytes columns makes split led some =
    let cut = subst (λ ps. MakesLine width wraps ps bytes columns) split makes in
    let none = no_lead rest lead led in
    let front = chars (take bytes (string_bytes piece.text)) in
    let main = seen piece.main_tag in
    record {
      cut = cut;
      line = subst (λ l. IsOnlyLine width wraps (sources_of seen pieces) (lead_items l ++ tagged front main))
          (sym none.1) (subst (λ s. IsOnlyLine width wraps s (tagged front main))
          (sym (ap (sources_of seen) split ∙ append-nil (text_sources seen piece)))
          (only width wraps (chars (string_bytes piece.text)) front main (wrap_seen seen piece) cut.front
          (omega (arith, cut.counted, cut.fits))));
      none = none.0;
    }
line_taken seen width wraps pieces (Fragment name ∷ []) rest piece lead bytes columns makes split led some =
    let both = subst (λ ps. MakesLine width wraps ps bytes columns) split makes in
    let cut = both.0 in
    let one = one_lead (Fragment name) rest lead led (some (omega arith)) in
    let front = chars (take bytes (string_bytes piece.text)) in
    let main = seen piece.main_tag in
    let title = chars (string_bytes name) in
    record {
      cut = cut;
      line = subst (λ l. IsOnlyLine width wraps (sources_of seen pieces) (lead_items l ++ tagged front main))
          (sym one.1) (subst (λ s. IsOnlyLine width wraps s (marker title ∷ tagged front main))
          (sym (ap (sources_of seen) split
          ∙ ap (λ s. fragment title ∷ s) (append-nil (text_sources seen piece))))
          (only_marked width wraps title (chars (string_bytes piece.text)) front main (wrap_seen seen piece)
          cut.front both.1 (omega (arith, cut.counted, cut.fits))));
      none = one.0;
    }
line_taken seen width wraps pieces (Text other ∷ []) rest piece lead bytes columns makes split led some =
    absurd (subst (λ ps. MakesLine width wraps ps bytes columns) split makes)
line_taken seen width wraps pieces (Text other ∷ another ∷ more) rest piece lead bytes columns makes split led some =
    absurd (subst (λ ps. MakesLine width wraps ps bytes columns) split makes)
line_taken seen width wraps pieces (Fragment name ∷ Text other ∷ []) rest piece lead bytes columns makes split led
    some =
    absurd (subst (λ ps. MakesLine width wraps ps bytes columns) split makes)
line_taken seen width wraps pieces (Fragment name ∷ Text other ∷ another ∷ more) rest piece lead bytes columns makes
    split led some =
    absurd (subst (λ ps. MakesLine width wraps ps bytes columns) split makes)
line_taken seen width wraps pieces (Fragment name ∷ Fragment other ∷ more) rest piece lead bytes columns makes split
    led some =
    absurd (subst (λ ps. MakesLine width wraps ps bytes columns) split makes)
