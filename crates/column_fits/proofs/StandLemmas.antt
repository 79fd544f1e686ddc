-- Cells have what they ask for, from when they have widened their columns on.
use Rattle.std.proofs.Common.{◌≡◌, ◌+◌, ◌-◌, ◌<◌, ◌≤◌, ◌∙◌, [], ◌∷◌, ◌++◌, All, List, ap, arith, drop, fold, length}
use Rattle.std.proofs.Common.{map, refl}
use Rattle.std.proofs.Common.{subst, sym, take, ℕ}
use Rattle.std.specs.List.{AllByRecursion}
use Rattle.std.proofs.lemmas.List.{drop-map, length-map, map-append, take-map}
use Rattle.std.proofs.lemmas.List.Elements.{All-map}
use Rattle.column_fits.specs.Fits.{covered, high_of, low_of, parts, raised, taken, widened_by, widened_to}
use Rattle.column_fits.specs.Laws.{AreAtLeast}
use Rattle.column_fits.specs.declared.cell.CellWidths.{CellWidths}
use Rattle.column_fits.specs.declared.fit.ColumnFit.{ColumnFit}
use Rattle.column_fits.proofs.ListLemmas.{added, at_least_refl, at_least_spread, at_least_trans, covered_map}
use Rattle.column_fits.proofs.ListLemmas.{covered_more, has_spread, spread}
use Rattle.column_fits.proofs.WidenLemmas.{length-parts, length-widened_by, some_widened_by}

lows_raised : (fs : List ColumnFit) (ls hs : List ℕ) → length ls ≡ length fs → length hs ≡ length fs →
    map low_of (raised fs ls hs) ≡ added (map low_of fs) ls
unfolding raised
lows_raised [] ls hs e f = refl
lows_raised (x ∷ fs) [] hs e f = absurd (omega arith)
lows_raised (x ∷ fs) (l ∷ ls) [] e f = absurd (omega arith)
lows_raised (x ∷ fs) (l ∷ ls) (h ∷ hs) e f =
    ap (λ (ns : List ℕ). (x.low + l) ∷ ns) (lows_raised fs ls hs (omega arith) (omega arith))

highs_raised : (fs : List ColumnFit) (ls hs : List ℕ) → length ls ≡ length fs → length hs ≡ length fs →
    map high_of (raised fs ls hs) ≡ added (map high_of fs) hs
unfolding raised
highs_raised [] ls hs e f = refl
highs_raised (x ∷ fs) [] hs e f = absurd (omega arith)
highs_raised (x ∷ fs) (l ∷ ls) [] e f = absurd (omega arith)
highs_raised (x ∷ fs) (l ∷ ls) (h ∷ hs) e f =
    ap (λ (ns : List ℕ). (x.high + h) ∷ ns) (highs_raised fs ls hs (omega arith) (omega arith))

map_widened : (part : ColumnFit → ℕ) (fs : List ColumnFit) (c : CellWidths) →
    map part (widened_by fs c)
    ≡ take c.first (map part fs) ++ map part (widened_to c (covered c fs)) ++ drop c.last (map part fs)
map_widened part fs c =
    map-append part (take c.first fs ++ widened_to c (covered c fs)) (drop c.last fs)
    ∙ ap (λ (xs : List ℕ). xs ++ map part (drop c.last fs))
    (map-append part (take c.first fs) (widened_to c (covered c fs)))
    ∙ ap (λ (xs : List ℕ). xs ++ map part (widened_to c (covered c fs)) ++ map part (drop c.last fs))
    (sym (take-map part c.first fs))
    ∙ ap (λ (xs : List ℕ). take c.first (map part fs) ++ map part (widened_to c (covered c fs)) ++ xs)
    (sym (drop-map part c.last fs))

lows_widened : (fs : List ColumnFit) (c : CellWidths) →
    map low_of (widened_by fs c) ≡ spread c c.narrowest (map low_of fs) (map high_of fs)
lows_widened fs c =
    let these : List ColumnFit = covered c fs in
    map_widened low_of fs c
    ∙ ap (λ (xs : List ℕ). take c.first (map low_of fs) ++ xs ++ drop c.last (map low_of fs))
    (lows_raised (covered c fs)
    (parts (c.narrowest - taken (map low_of (covered c fs))) (map high_of (covered c fs)))
    (parts (c.widest - taken (map high_of (covered c fs))) (map high_of (covered c fs)))
    (length-parts (c.narrowest - taken (map low_of (covered c fs))) (covered c fs))
    (length-parts (c.widest - taken (map high_of (covered c fs))) (covered c fs))
    ∙ ap (λ (xs : List ℕ). added xs (parts (c.narrowest - taken xs) (map high_of (covered c fs))))
    (sym (covered_map low_of c fs))
    ∙ ap (λ (ws : List ℕ). added (covered c (map low_of fs))
    (parts (c.narrowest - taken (covered c (map low_of fs))) ws))
    (sym (covered_map high_of c fs)))

highs_widened : (fs : List ColumnFit) (c : CellWidths) →
    map high_of (widened_by fs c) ≡ spread c c.widest (map high_of fs) (map high_of fs)
highs_widened fs c =
    map_widened high_of fs c
    ∙ ap (λ (xs : List ℕ). take c.first (map high_of fs) ++ xs ++ drop c.last (map high_of fs))
    (highs_raised (covered c fs)
    (parts (c.narrowest - taken (map low_of (covered c fs))) (map high_of (covered c fs)))
    (parts (c.widest - taken (map high_of (covered c fs))) (map high_of (covered c fs)))
    (length-parts (c.narrowest - taken (map low_of (covered c fs))) (covered c fs))
    (length-parts (c.widest - taken (map high_of (covered c fs))) (covered c fs))
    ∙ ap (λ (xs : List ℕ). added xs (parts (c.widest - taken xs) xs)) (sym (covered_map high_of c fs)))

-- Columns have no less than at the start, and each of these cells has what it asks for.
pub record IsStanding (start now : List ColumnFit) (cells : List CellWidths) : Type 0 where
  pub same : length now ≡ length start
  pub lows : AreAtLeast (map low_of start) (map low_of now)
  pub highs : AreAtLeast (map high_of start) (map high_of now)
  pub narrowest : AllByRecursion (λ c. c.narrowest ≤ taken (covered c (map low_of now))) cells
  pub widest : AllByRecursion (λ c. c.widest ≤ taken (covered c (map high_of now))) cells

-- the cell has columns, and these are of the table
abbrev pub HasColumns : ℕ → CellWidths → Type 0
HasColumns count c = (c.first < c.last) × (c.last ≤ count)

pub standing : (start : List ColumnFit) (cells : List CellWidths) → All (λ f. 1 ≤ f.high) start →
    AllByRecursion (HasColumns (length start)) cells → IsStanding start (fold widened_by start cells) cells
standing start [] some each = record {
  same = refl;
  lows = at_least_refl (map low_of start);
  highs = at_least_refl (map high_of start);
  narrowest = tt;
  widest = tt;
}
standing start (c ∷ cells) some each =
    let here : HasColumns (length start) c = each.0 in
    let lt = here.0 in let le = here.1 in
    let n = length-widened_by start c (omega arith) le in
    let l = length-map start low_of in
    let h = length-map start high_of in
    let rest = standing (widened_by start c) cells (some_widened_by start c some)
    (subst (λ (count : ℕ). AllByRecursion (HasColumns count) cells) (sym n) each.1) in
    let heavy : All (λ (w : ℕ). 1 ≤ w) (map high_of start) = All-map (λ (w : ℕ). 1 ≤ w) high_of start some in
    let lows : AreAtLeast (map low_of start) (map low_of (widened_by start c)) =
    subst (AreAtLeast (map low_of start)) (sym (lows_widened start c))
    (at_least_spread c c.narrowest (map low_of start) (map high_of start) (omega arith) (omega arith) (omega arith)) in
    let highs : AreAtLeast (map high_of start) (map high_of (widened_by start c)) =
    subst (AreAtLeast (map high_of start)) (sym (highs_widened start c))
    (at_least_spread c c.widest (map high_of start) (map high_of start) (omega arith) (omega arith) refl) in
    let narrow : c.narrowest ≤ taken (covered c (map low_of (widened_by start c))) =
    subst (λ (xs : List ℕ). c.narrowest ≤ taken (covered c xs)) (sym (lows_widened start c))
    (has_spread c c.narrowest (map low_of start) (map high_of start) lt (omega arith) (omega arith) heavy) in
    let wide : c.widest ≤ taken (covered c (map high_of (widened_by start c))) =
    subst (λ (xs : List ℕ). c.widest ≤ taken (covered c xs)) (sym (highs_widened start c))
    (has_spread c c.widest (map high_of start) (map high_of start) lt (omega arith) refl heavy) in
    let low_more = covered_more c (map low_of (widened_by start c))
    (map low_of (fold widened_by (widened_by start c) cells)) rest.lows in
    let high_more = covered_more c (map high_of (widened_by start c))
    (map high_of (fold widened_by (widened_by start c) cells)) rest.highs in
    record {
      same = rest.same ∙ n;
      lows = at_least_trans (map low_of start) (map low_of (widened_by start c))
          (map low_of (fold widened_by (widened_by start c) cells)) lows rest.lows;
      highs = at_least_trans (map high_of start) (map high_of (widened_by start c))
          (map high_of (fold widened_by (widened_by start c) cells)) highs rest.highs;
      narrowest = (omega arith, rest.narrowest);
      widest = (omega arith, rest.widest);
    }
