-- Lines that are cut keep the width.
use Rattle.std.proofs.Common.{◌≡◌, ◌+◌, ◌≤◌, ◌||◌, [], ◌∷◌, ◌++◌, Bool, List, arith, false, fold, map, nat_le, not}
use Rattle.std.proofs.Common.{refl, true, ℕ}
use Rattle.std.specs.Prelude.{All, Option, None, Some, IfSome, unwrap_or, if◌then◌else◌}
use Rattle.std.proofs.lemmas.Bool.Decides.{nat_tests}
use Rattle.std.proofs.lemmas.List.Elements.{All-nil, All-cons, All-append}
use Rattle.text_lines.specs.Columns.{columns_of, width_of, columns_of-at_most_two}
use Rattle.text_lines.specs.Tagged.{Item, character, marker, line_columns}
use Rattle.text_pieces.specs.Items.{has_text}
use Rattle.text_pieces.proofs.ItemColumns.{line_columns-append, line_columns-cons, no_columns}
use Rattle.text_footnotes.specs.Footnotes.{Cut, nothing_cut, placed, noted, footnote_lines}

two_at_most : (o : Option ℕ) → IfSome o (λ n. n ≤ 2) → unwrap_or o 0 ≤ 2
two_at_most None h = omega arith
two_at_most (Some n) h = h

width_of-two : (c : ℕ) → width_of c ≤ 2
unfolding width_of
width_of-two c = two_at_most (columns_of c) (columns_of-at_most_two c)

abbrev Within : {S : Type 0} → ℕ → List (List (Item S)) → Type 0
Within w lines = All (λ l. line_columns l ≤ w) lines

record Fits {S : Type 0} (w : ℕ) (cut : Cut S) : Type 0 where
  done : Within w cut.done
  line : line_columns cut.line ≤ w

one_more : {S : Type 0} (w : ℕ) (lines : List (List (Item S))) (line : List (Item S)) → Within w lines
    → line_columns line ≤ w → Within w (lines ++ line ∷ [])
one_more w lines line all here =
    All-append (λ l. line_columns l ≤ w) lines (line ∷ []) all
    (All-cons (λ l. line_columns l ≤ w) line [] here (All-nil (λ l. line_columns l ≤ w)))

room : (a n w : ℕ) (t : Bool) → n ≤ w → (t ≡ false → a ≡ 0) → (nat_le (a + n) w || not t) ≡ true → a + n ≤ w
room a n w false small none h = omega (arith, small, none refl)
room a n w true small none h = grind (arith, nat_tests, h)

put_by : {S : Type 0} (w : ℕ) (b : Bool) (cut : Cut S) (c : ℕ) (tag : S)
    → (b ≡ true → line_columns (cut.line ++ character c tag ∷ []) ≤ w) → line_columns (character c tag ∷ []) ≤ w
    → Fits w cut → Fits w (if b then record cut { line = cut.line ++ character c tag ∷ [] }
    else record { done = cut.done ++ cut.line ∷ []; line = character c tag ∷ [] })
put_by w true cut c tag goes alone h = record { done = h.done; line = goes refl }
put_by w false cut c tag goes alone h = record { done = one_more w cut.done cut.line h.done h.line; line = alone }

one_item : {S : Type 0} (c : ℕ) (tag : S) → line_columns (character c tag ∷ []) ≡ width_of c
one_item c tag = omega (arith, line_columns-cons (character c tag) [])

placed_fits : {S : Type 0} (w : ℕ) → 2 ≤ w → (cut : Cut S) (item : Item S) → Fits w cut → Fits w (placed w cut item)
placed_fits w wide cut (marker name) h =
    record { done = h.done; line = omega (arith, line_columns-append cut.line (marker name ∷ []), h.line) }
placed_fits w wide cut (character c tag) h =
    put_by w (nat_le (line_columns cut.line + width_of c) w || not (has_text cut.line)) cut c tag
    (λ goes. omega (
      arith,
      line_columns-append cut.line (character c tag ∷ []),
      one_item c tag,
      room (line_columns cut.line) (width_of c) w (has_text cut.line) (omega (arith, width_of-two c, wide))
          (λ e. no_columns cut.line e) goes,
    ))
    (omega (arith, one_item c tag, width_of-two c, wide)) h

all_placed : {S : Type 0} (w : ℕ) → 2 ≤ w → (items : List (Item S)) (cut : Cut S) → Fits w cut
    → Fits w (fold (placed w) cut items)
all_placed w wide [] cut h = h
all_placed w wide (item ∷ items) cut h = all_placed w wide items (placed w cut item) (placed_fits w wide cut item h)

pub footnotes_fit : {A : Type 0} (w : ℕ) (items : List (Item A)) → 2 ≤ w → Within w (footnote_lines true w items)
footnotes_fit {A} w items wide =
    let cut = fold (placed w) nothing_cut (map noted items) in
    let fits : Fits {S = List A} w cut = all_placed w wide (map noted items) nothing_cut
    (record { done = All-nil (λ l. line_columns l ≤ w); line = omega arith }) in
    one_more w cut.done cut.line fits.done fits.line
