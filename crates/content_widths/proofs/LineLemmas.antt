-- Source lines, read character by character.
use Rattle.std.proofs.Common.{◌≡◌, ◌+◌, ◌-◌, ◌^◌, ◌≤◌, ◌==◌, ◌%◌, ◌⊎◌, [], ◌∷◌, ◌++◌, ◌∙◌, Bool, List, ap, append-nil}
use Rattle.std.proofs.Common.{append_assoc, arith, false, inl, inr, max, refl, sym, true, ℕ}
use Rattle.std.specs.Prelude.{if◌then◌else◌}
use Rattle.std.proofs.lemmas.Bool.Decides.{nat_tests}
use Rattle.text_lines.specs.Columns.{width_of}
use Rattle.content_widths.specs.Flows.{capped}
use Rattle.content_widths.specs.Reading.{AreSourceLines}
use Rattle.content_widths.specs.Texts.{column_after, is_shown, lines_columns}
use Rattle.content_widths.specs.declared.source_lines.SourceLines.{SourceLines}

-- ---- from columns that are the same where they stop, the same follows

same_below : (n m : ℕ) → capped n ≡ capped m → (n ≡ m) ⊎ ((2 ^ 64 - 1 ≤ n) × (2 ^ 64 - 1 ≤ m))
same_below n m e = grind arith

beyond : (n m a b : ℕ) → 2 ^ 64 - 1 ≤ n → 2 ^ 64 - 1 ≤ m → capped (n + a) ≡ capped (m + b)
beyond n m a b low also = omega arith

by_tab : (b : Bool) (n m w : ℕ) → (n ≡ m) ⊎ ((2 ^ 64 - 1 ≤ n) × (2 ^ 64 - 1 ≤ m))
    → capped (if b then n + (8 - n % 8) else n + w) ≡ capped (if b then m + (8 - m % 8) else m + w)
by_tab b n m w (inl e) = ap (λ k. capped (if b then k + (8 - k % 8) else k + w)) e
by_tab true n m w (inr h) = beyond n m (8 - n % 8) (8 - m % 8) h.0 h.1
by_tab false n m w (inr h) = beyond n m w w h.0 h.1

same_column : (n m c : ℕ) → capped n ≡ capped m → capped (column_after n c) ≡ capped (column_after m c)
same_column n m c e = by_tab (c == 0x9) n m (width_of c) (same_below n m e)

greater_capped : (a b x y : ℕ) → capped a ≡ capped b → capped x ≡ capped y → capped (max a x) ≡ capped (max b y)
greater_capped a b x y e h = omega arith

shown_capped : (b : Bool) (n m : ℕ) → capped n ≡ capped m → capped (if b then n else 0) ≡ capped (if b then m else 0)
shown_capped true n m e = e
shown_capped false n m e = refl

by_line_end : (b : Bool) (x n m : ℕ) → capped n ≡ capped m → capped (if b then x else n) ≡ capped (if b then x else m)
by_line_end true x n m e = refl
by_line_end false x n m e = e

same_lines : (n m : ℕ) (ds : List ℕ) → capped n ≡ capped m → capped (lines_columns n ds) ≡ capped (lines_columns m ds)
same_lines n m [] e = refl
same_lines n m (d ∷ ds) e =
    let after = same_column n m d e in
    by_line_end (d == 0xA) (lines_columns 0 ds) _ _
    (greater_capped (if is_shown d then column_after n d else 0) (if is_shown d then column_after m d else 0)
    (lines_columns (column_after n d) ds) (lines_columns (column_after m d) ds)
    (shown_capped (is_shown d) (column_after n d) (column_after m d) after)
    (same_lines (column_after n d) (column_after m d) ds after))

-- ---- a character more

whole : (cs ds : List ℕ) (c : ℕ) → capped (lines_columns 0 ((cs ++ c ∷ []) ++ ds))
    ≡ capped (lines_columns 0 (cs ++ c ∷ ds))
whole cs ds c = ap (λ xs. capped (lines_columns 0 xs)) (append_assoc cs (c ∷ []) ds)

within : (g n m : ℕ) → capped n ≡ capped m → capped (max g n) ≡ capped (max g m)
within g n m e = omega arith

pub lines_after_end : (l : SourceLines) (cs : List ℕ) (c : ℕ) → c ≡ 0xA → AreSourceLines l cs
    → AreSourceLines (record { longest = l.longest; at = 0 }) (cs ++ c ∷ [])
lines_after_end l cs c e h = record {
  gives = λ ds. whole cs ds c ∙ h.gives (c ∷ ds) ∙ ap (λ d. capped (max l.longest (lines_columns l.at (d ∷ ds)))) e;
}

pub no_line_end : (c : ℕ) → (c ≡ 0xA → ⊥) → (c == 0xA) ≡ false
no_line_end c h = grind (arith, nat_tests)

after_front : (g at next : ℕ) (c : ℕ) (ds : List ℕ) (shown : Bool) → (c == 0xA) ≡ false → is_shown c ≡ shown
    → column_after at c ≡ next
    → capped (max g (lines_columns at (c ∷ ds)))
    ≡ capped (max g (max (if shown then next else 0) (lines_columns next ds)))
after_front g at next c ds shown e is same =
    ap (λ k. capped (max g (if k then lines_columns 0 ds
    else max (if is_shown c then column_after at c else 0) (lines_columns (column_after at c) ds)))) e
    ∙ ap (λ k. capped (max g (max (if k then column_after at c else 0) (lines_columns (column_after at c) ds)))) is
    ∙ ap (λ n. capped (max g (max (if shown then n else 0) (lines_columns n ds)))) same

over_shown : (g n new x y : ℕ) → new ≡ capped n → capped x ≡ capped y
    → capped (max g (max n x)) ≡ capped (max (max g new) y)
over_shown g n new x y is e = omega arith

stops : (n new : ℕ) → new ≡ capped n → capped n ≡ capped new
stops n new e = omega arith

pub lines_after_shown : (l : SourceLines) (cs : List ℕ) (c at longest : ℕ) → (c == 0xA) ≡ false → is_shown c ≡ true
    → at ≡ capped (column_after l.at c) → longest ≡ max l.longest at → AreSourceLines l cs
    → AreSourceLines (record { longest = longest; at = at }) (cs ++ c ∷ [])
lines_after_shown l cs c at longest e shown is more h = record {
  gives = λ ds.
      let n = column_after l.at c in
      whole cs ds c ∙ h.gives (c ∷ ds)
      ∙ after_front l.longest l.at n c ds true e shown refl
      ∙ over_shown l.longest n at (lines_columns n ds) (lines_columns at ds) is (same_lines n at ds (stops n at is))
      ∙ ap (λ g. capped (max g (lines_columns at ds))) (sym more);
}

over_other : (g x y : ℕ) → capped x ≡ capped y → capped (max g (max 0 x)) ≡ capped (max g y)
over_other g x y e = omega arith

pub lines_after_other : (l : SourceLines) (cs : List ℕ) (c at : ℕ) → (c == 0xA) ≡ false → is_shown c ≡ false
    → at ≡ capped (column_after l.at c) → AreSourceLines l cs
    → AreSourceLines (record { longest = l.longest; at = at }) (cs ++ c ∷ [])
lines_after_other l cs c at e shown is h = record {
  gives = λ ds.
      let n = column_after l.at c in
      whole cs ds c ∙ h.gives (c ∷ ds)
      ∙ after_front l.longest l.at n c ds false e shown refl
      ∙ over_other l.longest (lines_columns n ds) (lines_columns at ds) (same_lines n at ds (stops n at is));
}

at_end : (g : ℕ) → capped (max g 0) ≡ capped g
at_end g = omega arith

-- where the text ends
pub all_lines : (l : SourceLines) (cs : List ℕ) → AreSourceLines l cs → capped l.longest ≡ capped (lines_columns 0 cs)
all_lines l cs h =
    sym (at_end l.longest) ∙ sym (h.gives []) ∙ ap (λ xs. capped (lines_columns 0 xs)) (append-nil cs)
