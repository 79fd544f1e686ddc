-- What a cell makes of the columns that it covers.
use Rattle.std.proofs.Common.{◌≡◌, ◌+◌, ◌-◌, ◌<◌, ◌≤◌, ◌^◌, ◌∙◌, [], ◌∷◌, ◌++◌, All, Bool, List, ap, arith, cond, drop}
use Rattle.std.proofs.Common.{length, map, refl}
use Rattle.std.proofs.Common.{false, filter, fold, get_or, subst, true}
use Rattle.std.proofs.Common.{sum, sum_by, sym, take, ℕ}
use Rattle.std.specs.List.{AllByRecursion}
use Rattle.std.proofs.lemmas.List.{append_assoc, drop-drop, length-append, length-drop, length-map, length-take}
use Rattle.std.proofs.lemmas.List.{append-nil, take_more}
use Rattle.std.proofs.lemmas.List.Elements.{All-append, All-drop, All-from_recursion, All-take, filter_more}
use Rattle.std.proofs.lemmas.List.Elements.{recursion_from_All}
use Rattle.std.proofs.lemmas.List.Sums.{fold_push, get_or-le-sum_by, sum-map}
use Rattle.column_fits.specs.Fits.{covered, fit_of, high_of, high_width, is_over, low_of, low_width, parts, parts_of}
use Rattle.column_fits.specs.Fits.{raised}
use Rattle.column_fits.specs.Fits.{taken, widened_by, widened_to}
use Rattle.column_fits.specs.declared.cell.CellWidths.{CellWidths}
use Rattle.column_fits.specs.declared.fit.ColumnFit.{ColumnFit}
use Rattle.column_fits.proofs.PartLemmas.{length-parts_of}

-- ---- sizes

pub length-raised : (fs : List ColumnFit) (ls hs : List ℕ) → length ls ≡ length fs → length hs ≡ length fs →
    length (raised fs ls hs) ≡ length fs
unfolding raised
length-raised [] ls hs e f = refl
length-raised (x ∷ fs) [] hs e f = absurd (omega arith)
length-raised (x ∷ fs) (l ∷ ls) [] e f = absurd (omega arith)
length-raised (x ∷ fs) (l ∷ ls) (h ∷ hs) e f =
    let r = length-raised fs ls hs (omega arith) (omega arith) in omega arith

some_raised : (fs : List ColumnFit) (ls hs : List ℕ) → AllByRecursion (λ f. 1 ≤ f.high) fs →
    AllByRecursion (λ f. 1 ≤ f.high) (raised fs ls hs)
unfolding raised
some_raised [] ls hs each = tt
some_raised (x ∷ fs) [] hs each = tt
some_raised (x ∷ fs) (l ∷ ls) [] each = tt
some_raised (x ∷ fs) (l ∷ ls) (h ∷ hs) each = (let le = each.0 in omega arith, some_raised fs ls hs each.1)

-- parts by what columns take at the most: as many as the columns
pub length-parts : (lack : ℕ) (fs : List ColumnFit) → length (parts lack (map high_of fs)) ≡ length fs
length-parts lack fs =
    length-parts_of lack (sum (map high_of fs)) lack (map high_of fs) ∙ length-map fs high_of

pub length-widened_to : (c : CellWidths) (fs : List ColumnFit) → length (widened_to c fs) ≡ length fs
length-widened_to c fs =
    length-raised fs (parts (c.narrowest - taken (map low_of fs)) (map high_of fs))
    (parts (c.widest - taken (map high_of fs)) (map high_of fs))
    (length-parts (c.narrowest - taken (map low_of fs)) fs) (length-parts (c.widest - taken (map high_of fs)) fs)

pub length-covered : {A : Type 0} (c : CellWidths) (xs : List A) → c.first ≤ c.last → c.last ≤ length xs →
    length (covered c xs) ≡ c.last - c.first
length-covered c xs le lt =
    let a = length-take (c.last - c.first) (drop c.first xs) in let b = length-drop c.first xs in omega arith

pub length-widened_by : (fs : List ColumnFit) (c : CellWidths) → c.first ≤ c.last → c.last ≤ length fs →
    length (widened_by fs c) ≡ length fs
length-widened_by fs c le lt =
    let a = length-append (take c.first fs ++ widened_to c (covered c fs)) (drop c.last fs) in
    let b = length-append (take c.first fs) (widened_to c (covered c fs)) in
    let d = length-take c.first fs in
    let e = length-drop c.last fs in
    let f = length-widened_to c (covered c fs) in
    let g = length-covered c fs le lt in
    omega arith

pub some_widened_by : (fs : List ColumnFit) (c : CellWidths) → All (λ f. 1 ≤ f.high) fs →
    All (λ f. 1 ≤ f.high) (widened_by fs c)
some_widened_by fs c each =
    All-append (λ (f : ColumnFit). 1 ≤ f.high) (take c.first fs ++ widened_to c (covered c fs)) (drop c.last fs)
    (All-append (λ (f : ColumnFit). 1 ≤ f.high) (take c.first fs) (widened_to c (covered c fs))
    (All-take (λ (f : ColumnFit). 1 ≤ f.high) c.first fs each)
    (All-from_recursion (λ (f : ColumnFit). 1 ≤ f.high) (widened_to c (covered c fs))
    (some_raised (covered c fs) _ _ (recursion_from_All (λ (f : ColumnFit). 1 ≤ f.high) (covered c fs)
    (All-take (λ (f : ColumnFit). 1 ≤ f.high) (c.last - c.first) (drop c.first fs)
    (All-drop (λ (f : ColumnFit). 1 ≤ f.high) c.first fs each))))))
    (All-drop (λ (f : ColumnFit). 1 ≤ f.high) c.last fs each)

-- ---- what is lacking fits

pub some_high : (fs : List ColumnFit) → 0 < length fs → All (λ f. 1 ≤ f.high) fs → 0 < sum_by high_of fs
some_high fs lt each =
    let a = get_or-le-sum_by high_of fs 0 (fit_of 0 0) lt in let b = each 0 (fit_of 0 0) lt in omega arith

-- what is lacking has room beside what a column takes
pub room_for : (part : ColumnFit → ℕ) (fs : List ColumnFit) (n lack : ℕ) → n < 2 ^ 64 →
    lack ≡ n - (sum_by part fs + (length fs - 1)) → All (λ f. 0 < lack → part f + lack < 2 ^ 64) fs
room_for part fs n lack small e =
    λ k d lt some. let a = get_or-le-sum_by part fs k d lt in omega arith

-- ---- what the code does is this

taken_is : (part : ColumnFit → ℕ) (fs : List ColumnFit) →
    sum_by part fs + (length fs - 1) ≡ taken (map part fs)
taken_is part fs = let s = sum-map part fs in let n = length-map fs part in omega arith

pub raised_is_widened : (c : CellWidths) (fs : List ColumnFit) (low high total : ℕ) → low ≡ c.narrowest - low_width fs →
    high ≡ c.widest - high_width fs → total ≡ sum_by high_of fs →
    raised fs (parts_of low total low (map high_of fs)) (parts_of high total high (map high_of fs)) ≡ widened_to c fs
raised_is_widened c fs low high total l h t =
    let a : low ≡ c.narrowest - taken (map low_of fs) = l ∙ ap (λ (n : ℕ). c.narrowest - n) (taken_is low_of fs) in
    let b : high ≡ c.widest - taken (map high_of fs) = h ∙ ap (λ (n : ℕ). c.widest - n) (taken_is high_of fs) in
    let s : total ≡ sum (map high_of fs) = t ∙ sym (sum-map high_of fs) in
    rw (a, b, s)

pub widened_is : (c : CellWidths) (fs columns : List ColumnFit) → columns ≡ widened_to c (covered c fs) →
    c.first ≤ c.last →
    take c.first fs ++ (columns ++ drop (c.last - c.first) (drop c.first fs)) ≡ widened_by fs c
widened_is c fs columns e le =
    let last : c.first + (c.last - c.first) ≡ c.last = omega arith in
    sym (append_assoc (take c.first fs) columns (drop (c.last - c.first) (drop c.first fs)))
    ∙ ap (λ (xs : List ColumnFit). take c.first fs ++ xs ++ drop (c.last - c.first) (drop c.first fs)) e
    ∙ ap (λ (xs : List ColumnFit). take c.first fs ++ widened_to c (covered c fs) ++ xs)
    (drop-drop (c.last - c.first) c.first fs ∙ ap (λ (n : ℕ). drop n fs) last)

-- ---- one cell after another

pub record IsWidened (start now : List ColumnFit) (cells : List CellWidths) : Type 0 where
  pub widened : now ≡ fold widened_by start cells
  pub same : length now ≡ length start
  pub high : All (λ f. 1 ≤ f.high) now

pub widened_first : (start : List ColumnFit) → All (λ f. 1 ≤ f.high) start → IsWidened start start []
widened_first start high = record { widened = refl; same = refl; high = high }

widened_by_next : (start now : List ColumnFit) (cells : List CellWidths) (c : CellWidths) → c.first ≤ c.last →
    c.last ≤ length start → IsWidened start now cells → IsWidened start (widened_by now c) (cells ++ c ∷ [])
widened_by_next start now cells c le lt h = record {
  widened = ap (λ (fs : List ColumnFit). widened_by fs c) h.widened ∙ sym (fold_push widened_by start cells c);
  same = let s = h.same in length-widened_by now c le (omega arith) ∙ h.same;
  high = some_widened_by now c h.high;
}

pub widened_more : (start now new : List ColumnFit) (cells : List CellWidths) (i : ℕ) (d : CellWidths) →
    i < length cells → (get_or cells i d).first ≤ (get_or cells i d).last → (get_or cells i d).last ≤ length start →
    new ≡ widened_by now (get_or cells i d) → IsWidened start now (take i cells) →
    IsWidened start new (take (i + 1) cells)
widened_more start now new cells i d lt le within e h =
    rw (e, take_more cells i d lt) (widened_by_next start now (take i cells) (get_or cells i d) le within h)

pub single_more : (start now new : List ColumnFit) (cells : List CellWidths) (i : ℕ) (d : CellWidths) →
    i < length cells → (get_or cells i d).first ≤ (get_or cells i d).last → (get_or cells i d).last ≤ length start →
    is_over 1 (get_or cells i d) ≡ true → new ≡ widened_by now (get_or cells i d) →
    IsWidened start now (filter (is_over 1) (take i cells)) →
    IsWidened start new (filter (is_over 1) (take (i + 1) cells))
single_more start now new cells i d lt le within one e h =
    subst (IsWidened start new) (sym (filter_more (is_over 1) cells i d lt
    ∙ ap (λ (b : Bool). filter (is_over 1) (take i cells) ++ cond b (get_or cells i d ∷ []) []) one))
    (subst (λ (fs : List ColumnFit). IsWidened start fs (filter (is_over 1) (take i cells) ++ get_or cells i d ∷ []))
    (sym e)
    (widened_by_next start now (filter (is_over 1) (take i cells)) (get_or cells i d) le within h))

pub single_same : (start now : List ColumnFit) (cells : List CellWidths) (i : ℕ) (d : CellWidths) →
    i < length cells → is_over 1 (get_or cells i d) ≡ false →
    IsWidened start now (filter (is_over 1) (take i cells)) →
    IsWidened start now (filter (is_over 1) (take (i + 1) cells))
single_same start now cells i d lt other h =
    subst (IsWidened start now) (sym (filter_more (is_over 1) cells i d lt
    ∙ ap (λ (b : Bool). filter (is_over 1) (take i cells) ++ cond b (get_or cells i d ∷ []) []) other
    ∙ append-nil (filter (is_over 1) (take i cells)))) h
