-- What each column gets of what is lacking.
use Rattle.std.proofs.Common.{◌≡◌, ◌+◌, ◌-◌, ◌*◌, ◌/◌, ◌^◌, ◌<◌, ◌≤◌, ◌∙◌, [], ◌∷◌, ◌++◌, All, List, ap, arith, get_or}
use Rattle.std.proofs.Common.{length, map, refl, set, subst, suc, sum, sum_by, sym, zero, ℕ}
use Rattle.std.proofs.Math.Nat.{lt_of_mul-lt-mul_right}
use Rattle.std.proofs.lemmas.List.{append_assoc, get_or_at, length-append, length_push, set_at}
use Rattle.std.proofs.lemmas.List.Elements.{All-head, All-tail}
use Rattle.std.proofs.lemmas.List.Sums.{sum_by-cons}
use Rattle.column_fits.specs.Fits.{fit_of, high_of, parts, parts_of, raised}
use Rattle.column_fits.specs.declared.fit.ColumnFit.{ColumnFit}

-- ---- numbers

div_mul : (a b : ℕ) → 0 < b → a / b * b ≤ a
div_mul a b some = omega arith

cancel : (a b total : ℕ) → a * total ≤ b * total → 0 < total → a ≤ b
cancel a b total le some = let h : a < b + 1 = lt_of_mul-lt-mul_right total (grind arith) in omega arith

shared : (lack weight rest : ℕ) → lack * (weight + rest) ≡ lack * weight + lack * rest
shared lack weight rest = grind arith

-- a part is no more than is left
pub part_least : (lack weight rest left total : ℕ) → 0 < total → lack * (weight + rest) ≤ left * total →
    lack * weight / total ≤ left
part_least lack weight rest left total some le =
    let a = div_mul (lack * weight) total some in
    let b = shared lack weight rest in
    cancel (lack * weight / total) left total (omega arith) some

less_times : (left part total : ℕ) → part ≤ left → (left - part) * total + part * total ≡ left * total
less_times left part total le =
    let e : left - part + part ≡ left = omega arith in
    (by (left - part) part total) ∙ ap (λ (n : ℕ). n * total) e
  where
    by : (a b t : ℕ) → a * t + b * t ≡ (a + b) * t
    by a b t = grind arith

-- and what is then left is enough for the rest
pub part_rest : (lack weight rest left total : ℕ) → 0 < total → lack * (weight + rest) ≤ left * total →
    lack * rest ≤ (left - lack * weight / total) * total
part_rest lack weight rest left total some le =
    let a = div_mul (lack * weight) total some in
    let b = shared lack weight rest in
    let d = less_times left (lack * weight / total) total (part_least lack weight rest left total some le) in
    omega arith

-- ---- all parts come to what is lacking

pub length-parts_of : (lack total left : ℕ) (ws : List ℕ) → length (parts_of lack total left ws) ≡ length ws
unfolding parts_of
length-parts_of lack total left [] = refl
length-parts_of lack total left (w ∷ []) = refl
length-parts_of lack total left (w ∷ v ∷ ws) =
    let r = length-parts_of lack total (left - lack * w / total) (v ∷ ws) in omega arith

pub sum-parts_of : (lack total left : ℕ) (ws : List ℕ) → 0 < total → 0 < length ws → lack * sum ws ≤ left * total →
    sum (parts_of lack total left ws) ≡ left
unfolding parts_of
sum-parts_of lack total left [] some more le = absurd (omega arith)
sum-parts_of lack total left (w ∷ []) some more le = omega (arith, sum_by-cons (λ (x : ℕ). x) left [])
sum-parts_of lack total left (w ∷ v ∷ ws) some more le =
    let s = sum_by-cons (λ (x : ℕ). x) w (v ∷ ws) in
    let enough : lack * (w + sum (v ∷ ws)) ≤ left * total = subst (λ (n : ℕ). lack * n ≤ left * total) s le in
    let here = part_least lack w (sum (v ∷ ws)) left total some enough in
    let rest = sum-parts_of lack total (left - lack * w / total) (v ∷ ws) some (omega arith)
    (part_rest lack w (sum (v ∷ ws)) left total some enough) in
    let e = sum_by-cons (λ (x : ℕ). x) (lack * w / total) (parts_of lack total (left - lack * w / total) (v ∷ ws)) in
    omega arith

pub sum-parts : (lack : ℕ) (ws : List ℕ) → 0 < sum ws → 0 < length ws → sum (parts lack ws) ≡ lack
sum-parts lack ws some more = sum-parts_of lack (sum ws) lack ws some more (omega arith)

-- ---- one column after another

-- Columns are raised from the first on. Those in front have their parts, and what is left is for the rest.
pub record IsRaising (start now : List ColumnFit) (low high total i low_left high_left : ℕ) : Type 0 where
  pub front : List ColumnFit
  pub rest : List ColumnFit
  pub is : now ≡ front ++ rest
  pub at : length front ≡ i
  pub whole : front ++ raised rest (parts_of low total low_left (map high_of rest))
      (parts_of high total high_left (map high_of rest))
      ≡ raised start (parts_of low total low (map high_of start)) (parts_of high total high (map high_of start))
  pub weights : sum_by high_of rest ≤ total
  pub low_enough : low * sum_by high_of rest ≤ low_left * total
  pub high_enough : high * sum_by high_of rest ≤ high_left * total
  pub low_less : low_left ≤ low
  pub high_less : high_left ≤ high
  pub lows : All (λ f. 0 < low → f.low + low < 2 ^ 64) rest
  pub highs : All (λ f. 0 < high → f.high + high < 2 ^ 64) rest

pub raising_first : (start : List ColumnFit) (low high total : ℕ) → total ≡ sum_by high_of start →
    All (λ f. 0 < low → f.low + low < 2 ^ 64) start → All (λ f. 0 < high → f.high + high < 2 ^ 64) start →
    IsRaising start start low high total 0 low high
raising_first start low high total e lows highs = record {
  front = [];
  rest = start;
  is = refl;
  at = refl;
  whole = refl;
  weights = omega arith;
  low_enough = let s = ap (λ (n : ℕ). low * n) e in omega arith;
  high_enough = let s = ap (λ (n : ℕ). high * n) e in omega arith;
  low_less = omega arith;
  high_less = omega arith;
  lows = lows;
  highs = highs;
}

have_room : (taken lack left : ℕ) → left ≤ lack → (0 < lack → taken + lack < 2 ^ 64) → taken < 2 ^ 64 →
    taken + left < 2 ^ 64
have_room taken zero left le h small = omega arith
have_room taken (suc lack) left le h small = let room = h (omega arith) in omega arith

-- what holds of the next column
pub record IsNext (f : ColumnFit) (low high total low_left high_left : ℕ) : Type 0 where
  pub weight : f.high ≤ total
  pub low_part : low * f.high / total ≤ low_left
  pub high_part : high * f.high / total ≤ high_left
  pub low_fits : f.low < 2 ^ 64 → f.low + low_left < 2 ^ 64
  pub high_fits : f.high < 2 ^ 64 → f.high + high_left < 2 ^ 64

pub raising_next : (start now : List ColumnFit) (low high total i low_left high_left : ℕ) (d : ColumnFit) → 0 < total →
    IsRaising start now low high total i low_left high_left → i < length now →
    IsNext (get_or now i d) low high total low_left high_left
raising_next start now low high total i low_left high_left d some h lt =
    subst (λ (fs : List ColumnFit). IsNext (get_or fs i d) low high total low_left high_left) (sym h.is)
    (by h.rest h.is h.weights h.low_enough h.high_enough h.lows h.highs)
  where
    by : (rest : List ColumnFit) → now ≡ h.front ++ rest → sum_by high_of rest ≤ total →
        low * sum_by high_of rest ≤ low_left * total → high * sum_by high_of rest ≤ high_left * total →
        All (λ f. 0 < low → f.low + low < 2 ^ 64) rest → All (λ f. 0 < high → f.high + high < 2 ^ 64) rest →
        IsNext (get_or (h.front ++ rest) i d) low high total low_left high_left
    by [] is weights le more lows highs =
        let at = h.at in let n = ap (λ (fs : List ColumnFit). length fs) is in let m = length-append h.front [] in
        absurd (omega arith)
    by (f ∷ fs) is weights le more lows highs =
        let s = sum_by-cons high_of f fs in
        let low_le : low * (f.high + sum_by high_of fs) ≤ low_left * total =
        subst (λ (n : ℕ). low * n ≤ low_left * total) s le in
        let high_le : high * (f.high + sum_by high_of fs) ≤ high_left * total =
        subst (λ (n : ℕ). high * n ≤ high_left * total) s more in
        let a = All-head (λ f. 0 < low → f.low + low < 2 ^ 64) f fs lows in
        let b = All-head (λ f. 0 < high → f.high + high < 2 ^ 64) f fs highs in
        let less = h.low_less in let high_less = h.high_less in
        subst (λ (g : ColumnFit). IsNext g low high total low_left high_left) (sym (get_or_at h.front f fs d i h.at))
        (record {
          weight = omega arith;
          low_part = part_least low f.high (sum_by high_of fs) low_left total some low_le;
          high_part = part_least high f.high (sum_by high_of fs) high_left total some high_le;
          low_fits = have_room f.low low low_left h.low_less a;
          high_fits = have_room f.high high high_left h.high_less b;
        })

-- a column with its parts
abbrev pub with_parts : (low high total : ℕ) → ColumnFit → ColumnFit
with_parts low high total f = fit_of (f.low + low * f.high / total) (f.high + high * f.high / total)

pub raising_more : (start now : List ColumnFit) (low high total i low_left high_left : ℕ) (d : ColumnFit) → 0 < total →
    IsRaising start now low high total i low_left high_left → i + 1 < length now →
    IsRaising start (set now i (with_parts low high total (get_or now i d))) low high total (i + 1)
    (low_left - low * (get_or now i d).high / total) (high_left - high * (get_or now i d).high / total)
unfolding parts_of raised
raising_more start now low high total i low_left high_left d some h lt =
    subst (λ (fs : List ColumnFit). IsRaising start (set fs i (with_parts low high total (get_or fs i d))) low high
    total (i + 1) (low_left - low * (get_or fs i d).high / total) (high_left - high * (get_or fs i d).high / total))
    (sym h.is)
    (by h.rest h.is h.whole h.weights h.low_enough h.high_enough h.lows h.highs)
  where
    by : (rest : List ColumnFit) → now ≡ h.front ++ rest →
        h.front ++ raised rest (parts_of low total low_left (map high_of rest))
        (parts_of high total high_left (map high_of rest))
        ≡ raised start (parts_of low total low (map high_of start)) (parts_of high total high (map high_of start)) →
        sum_by high_of rest ≤ total →
        low * sum_by high_of rest ≤ low_left * total → high * sum_by high_of rest ≤ high_left * total →
        All (λ f. 0 < low → f.low + low < 2 ^ 64) rest → All (λ f. 0 < high → f.high + high < 2 ^ 64) rest →
        IsRaising start (set (h.front ++ rest) i (with_parts low high total (get_or (h.front ++ rest) i d))) low high
        total (i + 1) (low_left - low * (get_or (h.front ++ rest) i d).high / total)
        (high_left - high * (get_or (h.front ++ rest) i d).high / total)
    by [] is whole weights le more lows highs =
        let at = h.at in let n = ap (λ (fs : List ColumnFit). length fs) is in let m = length-append h.front [] in
        absurd (omega arith)
    by (f ∷ []) is whole weights le more lows highs =
        let at = h.at in let n = ap (λ (fs : List ColumnFit). length fs) is in
        let m = length-append h.front (f ∷ []) in
        absurd (omega arith)
    by (f ∷ g ∷ fs) is whole weights le more lows highs =
        let s = sum_by-cons high_of f (g ∷ fs) in
        let low_le : low * (f.high + sum_by high_of (g ∷ fs)) ≤ low_left * total =
        subst (λ (n : ℕ). low * n ≤ low_left * total) s le in
        let high_le : high * (f.high + sum_by high_of (g ∷ fs)) ≤ high_left * total =
        subst (λ (n : ℕ). high * n ≤ high_left * total) s more in
        let less = h.low_less in let high_less = h.high_less in
        let at = h.at in
        subst (λ (v : ColumnFit). IsRaising start (set (h.front ++ f ∷ g ∷ fs) i (with_parts low high total v)) low high
        total (i + 1) (low_left - low * v.high / total) (high_left - high * v.high / total))
        (sym (get_or_at h.front f (g ∷ fs) d i h.at))
        (record {
          front = h.front ++ with_parts low high total f ∷ [];
          rest = g ∷ fs;
          is = set_at h.front f (g ∷ fs) (with_parts low high total f) i h.at
              ∙ sym (append_assoc h.front (with_parts low high total f ∷ []) (g ∷ fs));
          at = let n = length_push h.front (with_parts low high total f) in omega arith;
          whole = append_assoc h.front (with_parts low high total f ∷ [])
              (raised (g ∷ fs)
              (parts_of low total (low_left - low * f.high / total) (map high_of (g ∷ fs)))
              (parts_of high total (high_left - high * f.high / total) (map high_of (g ∷ fs)))) ∙ whole;
          weights = omega arith;
          low_enough = part_rest low f.high (sum_by high_of (g ∷ fs)) low_left total some low_le;
          high_enough = part_rest high f.high (sum_by high_of (g ∷ fs)) high_left total some high_le;
          low_less = omega arith;
          high_less = omega arith;
          lows = All-tail (λ f. 0 < low → f.low + low < 2 ^ 64) f (g ∷ fs) lows;
          highs = All-tail (λ f. 0 < high → f.high + high < 2 ^ 64) f (g ∷ fs) highs;
        })

pub some_columns : (fs : List ColumnFit) (total : ℕ) → 0 < total → total ≡ sum_by high_of fs → 0 < length fs
some_columns [] total some e = absurd (omega arith)
some_columns (f ∷ fs) total some e = omega arith

raised_last : (start now : List ColumnFit) (low high total i low_left high_left : ℕ) (d : ColumnFit) →
    IsRaising start now low high total i low_left high_left → i + 1 ≡ length now →
    set now i (fit_of ((get_or now i d).low + low_left) ((get_or now i d).high + high_left))
    ≡ raised start (parts_of low total low (map high_of start)) (parts_of high total high (map high_of start))
unfolding parts_of raised
raised_last start now low high total i low_left high_left d h e =
    ap (λ (fs : List ColumnFit). set fs i (fit_of ((get_or fs i d).low + low_left) ((get_or fs i d).high + high_left)))
    h.is ∙ by h.rest h.is h.whole
  where
    by : (rest : List ColumnFit) → now ≡ h.front ++ rest →
        h.front ++ raised rest (parts_of low total low_left (map high_of rest))
        (parts_of high total high_left (map high_of rest))
        ≡ raised start (parts_of low total low (map high_of start)) (parts_of high total high (map high_of start)) →
        set (h.front ++ rest) i
        (fit_of ((get_or (h.front ++ rest) i d).low + low_left) ((get_or (h.front ++ rest) i d).high + high_left))
        ≡ raised start (parts_of low total low (map high_of start)) (parts_of high total high (map high_of start))
    by [] is whole =
        let at = h.at in let n = ap (λ (fs : List ColumnFit). length fs) is in let m = length-append h.front [] in
        absurd (omega arith)
    by (f ∷ []) is whole =
        ap (λ (v : ColumnFit). set (h.front ++ f ∷ []) i (fit_of (v.low + low_left) (v.high + high_left)))
        (get_or_at h.front f [] d i h.at)
        ∙ set_at h.front f [] (fit_of (f.low + low_left) (f.high + high_left)) i h.at ∙ whole
    by (f ∷ g ∷ fs) is whole =
        let at = h.at in let n = ap (λ (fs : List ColumnFit). length fs) is in
        let m = length-append h.front (f ∷ g ∷ fs) in
        absurd (omega arith)

-- the last column has what is left
pub raising_last : (start now : List ColumnFit) (low high total i j low_left high_left : ℕ) (d : ColumnFit) → i ≡ j →
    IsRaising start now low high total i low_left high_left → j + 1 ≡ length now →
    set now j (fit_of ((get_or now j d).low + low_left) ((get_or now j d).high + high_left))
    ≡ raised start (parts_of low total low (map high_of start)) (parts_of high total high (map high_of start))
raising_last start now low high total i j low_left high_left d same h e =
    subst (λ (n : ℕ). set now n (fit_of ((get_or now n d).low + low_left) ((get_or now n d).high + high_left))
    ≡ raised start (parts_of low total low (map high_of start)) (parts_of high total high (map high_of start))) same
    (raised_last start now low high total i low_left high_left d h (omega arith))
