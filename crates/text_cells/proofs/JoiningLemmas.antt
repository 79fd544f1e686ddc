-- Borders that are joined to a row, and the columns of rows.
use Rattle.std.proofs.Common.{◌≡◌, ◌+◌, [], ◌∷◌, ◌++◌, if◌then◌else◌, ◌<◌, ◌∙◌, Bool, List, ap, append_assoc, arith}
use Rattle.std.proofs.Common.{false, length, map, refl, subst, sym, true, ℕ}
use Rattle.std.specs.Prelude.{IsSome, Option, None, Some, fold, unwrap_or}
use Rattle.std.specs.Option.{option_to_list}
use Rattle.std.proofs.lemmas.Bool.{false≢true}
use Rattle.std.proofs.lemmas.List.{same_from_push, append-nil}
use Rattle.text_borders.specs.Segments.{Segment}
use Rattle.text_borders.specs.Borders.{Border, change_to, columns_where, with_segments}
use Rattle.text_borders.specs.Across.{OpenCell, row_width, signs}
use Rattle.text_cells.specs.OpenCells.{asked, ends}

-- ---- columns

where_moved : (is : Segment → Bool) (at k : ℕ) (ss : List Segment)
    → columns_where is (at + k) ss ≡ map (λ j. at + j) (columns_where is k ss)
where_moved is at k [] = refl
where_moved is at k (s ∷ ss) =
    let next : at + k + 1 ≡ at + (k + 1) = omega arith in
    by_test (is s) (ap (λ n. columns_where is n ss) next ∙ where_moved is at (k + 1) ss)
  where
    by_test : (t : Bool) → columns_where is (at + k + 1) ss ≡ map (λ j. at + j) (columns_where is (k + 1) ss)
        → (if t then (at + k) ∷ columns_where is (at + k + 1) ss else columns_where is (at + k + 1) ss)
        ≡ map (λ j. at + j) (if t then k ∷ columns_where is (k + 1) ss else columns_where is (k + 1) ss)
    by_test true same = ap (λ ks. (at + k) ∷ ks) same
    by_test false same = same

where_from : (is : Segment → Bool) (at : ℕ) (ss : List Segment)
    → columns_where is at ss ≡ map (λ j. at + j) (columns_where is 0 ss)
where_from is at ss =
    let first : at ≡ at + 0 = omega arith in ap (λ n. columns_where is n ss) first ∙ where_moved is at 0 ss

-- a border that was taken out is taken in
pub taken_in : {S : Type 0} (f : Segment → Segment) (is : Segment → Bool) (at : ℕ) (o : Option (Border S))
    (x b : Border S) → o ≡ Some x
    → with_segments (fold (change_to f) b.segments (columns_where is at x.segments)) b
    ≡ with_segments (fold (change_to f) b.segments (map (λ k. at + k) (asked is o))) b
taken_in f is at o x b given =
    ap (λ ks. with_segments (fold (change_to f) b.segments ks) b) (where_from is at x.segments)
    ∙ sym (ap (λ y. with_segments (fold (change_to f) b.segments (map (λ k. at + k) (asked is y))) b) given)

-- ---- the columns after cells

pub more_ends : {S : Type 0} (at next end : ℕ) (c : OpenCell S) (cells : List (OpenCell S)) (old new : List ℕ)
    → next ≡ at + c.width + 1 → end ≡ at + c.width → new ≡ old ++ end ∷ []
    → new ++ ends next cells ≡ old ++ ends at (c ∷ cells)
more_ends at next end c cells old new next_is end_is pushed =
    ap (λ l. l ++ ends next cells) pushed ∙ append_assoc old (end ∷ []) (ends next cells)
    ∙ ap (λ k. old ++ k ∷ ends next cells) end_is ∙ ap (λ n. old ++ (at + c.width) ∷ ends n cells) next_is

signs_and_end : {S : Type 0} (at : ℕ) (c : OpenCell S) (cells : List (OpenCell S))
    → ends at (c ∷ cells) ≡ signs at (c ∷ cells) ++ (at + row_width (c ∷ cells)) ∷ []
signs_and_end at c [] = refl
signs_and_end at c (d ∷ cells) =
    let same : at + c.width + 1 + row_width (d ∷ cells) ≡ at + (c.width + 1 + row_width (d ∷ cells)) = omega arith in
    ap (λ ks. (at + c.width) ∷ ks) (signs_and_end (at + c.width + 1) d cells)
    ∙ ap (λ n. (at + c.width) ∷ (signs (at + c.width + 1) (d ∷ cells) ++ n ∷ [])) same

pub record IsRow {S : Type 0} (cells : List (OpenCell S)) (front : List ℕ) (last : ℕ) : Type 0 where
  pub signs : front ≡ signs 0 cells
  pub width : last ≡ row_width cells

some_end : {S : Type 0} (cells : List (OpenCell S)) (front : List ℕ) (n : ℕ) → ends 0 cells ≡ front ++ n ∷ []
    → IsRow cells front n
some_end [] front n is = absurd (none_pushed front n is)
  where
    none_pushed : (front : List ℕ) (n : ℕ) → [] ≡ front ++ n ∷ [] → ⊥
    none_pushed [] n e = cc
    none_pushed (x ∷ front) n e = cc
some_end (c ∷ cells) front n is =
    let both = same_from_push (signs 0 (c ∷ cells)) front (0 + row_width (c ∷ cells)) n
    (sym (signs_and_end 0 c cells) ∙ is) in
    record { signs = sym both.0; width = sym both.1 ∙ omega arith }

no_end : {S : Type 0} (cells : List (OpenCell S)) (front : List ℕ) → length (ends 0 cells) ≡ 0
    → ends 0 cells ≡ front ++ [] → IsRow cells front 0
no_end [] front none is = record { signs = sym (is ∙ append-nil front); width = refl }
no_end (c ∷ cells) front none is = absurd (omega (arith, none))

-- a list of which none is the last is empty
pub none_left : {last : Option ℕ} (all : List ℕ) → (0 < length all → IsSome last) → last ≡ None → length all ≡ 0
none_left [] is e = refl
none_left (x ∷ xs) is e = absurd (false≢true (subst IsSome e (is (omega arith))))

-- the last end is the row's width, and the others are signs
pub ends_are : {S : Type 0} (cells : List (OpenCell S)) (all front : List ℕ) (last : Option ℕ) → all ≡ ends 0 cells
    → all ≡ front ++ option_to_list last → (last ≡ None → length all ≡ 0) → IsRow cells front (unwrap_or last 0)
ends_are cells all front None are is none =
    no_end cells front (ap length (sym are) ∙ none refl) (sym are ∙ is)
ends_are cells all front (Some n) are is none = some_end cells front n (sym are ∙ is)
