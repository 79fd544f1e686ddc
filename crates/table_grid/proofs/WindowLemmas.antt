-- Windows made smaller, and cells put into them.
use Rattle.std.proofs.Common.{◌≡◌, ◌+◌, ◌-◌, ◌*◌, ◌<◌, ◌≤◌, [], ◌∷◌, All, Bool, List, arith, cond, false, filter}
use Rattle.std.proofs.Common.{get_or, length, map, max, refl, subst, take_all, true, ℕ}
use Rattle.std.proofs.lemmas.Bool.Decides.{nat_tests}
use Rattle.std.proofs.lemmas.List.FromFn.{fill_by_all}
use Rattle.std.proofs.lemmas.List.Elements.{All-more, All-head, All-tail, All-cons}
use Rattle.table_grid.specs.declared.part.Part.{Part}
use Rattle.table_grid.specs.Columns.{covers, value_of, greatest, greatest_at, greatest_parts_of, AreWithin}
use Rattle.table_grid.specs.Windows.{IsWidened, AreBelow, IsSpread, IsPut}

abbrev pub no_part : Part
no_part = record { first = 0; last = 0; value = 0 }

-- smaller windows, none of which holds a new cell yet
pub split_spread : (parts : List Part) (small width : ℕ) (old new : List ℕ) → 0 < small → small < width →
    width ≤ 2 * small → IsSpread parts width width 0 old →
    IsWidened (width - small) old new → IsSpread parts small width 0 new
split_spread parts small width old new some less close h w = record {
  sound = λ i bound lt all. sound i bound (let s = w.same in omega arith) all;
  wide = λ column bound in_range below. h.wide column bound (let s = w.same in omega arith)
      (λ i lt from to. held column bound (let s = w.same in omega arith) below i lt from to);
  narrow = λ column bound in_range below k d lt. absurd (omega arith);
}
  where
    raised_below : (i bound : ℕ) → i < length old → get_or old i 0 ≤ bound →
        (width - small ≤ i → get_or old (i - (width - small)) 0 ≤ bound) → get_or new i 0 ≤ bound
    raised_below i bound lt here before = grind (arith, w.near i, w.far i, before)

    sound : (i bound : ℕ) → i < length old → All (λ p. p.first ≤ i → i + small ≤ p.last → p.value ≤ bound) parts →
        get_or new i 0 ≤ bound
    sound i bound lt all =
        let here = h.sound i bound lt (λ k d k_lt from to. all k d k_lt from (omega arith)) in
        let before : width - small ≤ i → get_or old (i - (width - small)) 0 ≤ bound =
        λ far. h.sound (i - (width - small)) bound (omega arith)
        (λ k d k_lt from to. all k d k_lt (omega arith) (omega arith)) in
        raised_below i bound lt here before

    held : (column bound : ℕ) → column < length old → AreBelow new small column bound → (i : ℕ) → i < length old →
        i ≤ column → column < i + width → get_or old i 0 ≤ bound
    held column bound in_range below i lt from to =
        grind (arith, w.same, w.near i, w.far i, w.far (i + (width - small)), below i, below (i + (width - small)))

pub put_more : (parts : List Part) (small width done : ℕ) (old new : List ℕ) → width ≤ 2 * small →
    AreWithin parts (length old) → done < length parts → 0 < small →
    IsSpread parts small width done old → IsPut (get_or parts done no_part) small width old new →
    IsSpread parts small width (done + 1) new
put_more parts small width done old new close within lt some h p = record {
  sound = λ i bound i_lt all. p.sound i bound (h.sound i bound (let s = p.same in omega arith) all)
      (all done no_part lt);
  wide = λ column bound in_range below. h.wide column bound (let s = p.same in omega arith)
      (old_below column bound below);
  narrow = λ column bound in_range below. All-more
      (λ p. small ≤ p.last - p.first → p.first ≤ column → column < p.last → p.value ≤ bound) parts done no_part lt
      (h.narrow column bound (let s = p.same in omega arith) (old_below column bound below))
      (here column bound (let s = p.same in omega arith) below);
}
  where
    old_below : (column bound : ℕ) → AreBelow new small column bound → AreBelow old small column bound
    old_below column bound below i i_lt from to = let a = below i (let s = p.same in omega arith) from to in let b =
        p.rises i in omega arith

    here : (column bound : ℕ) → column < length old → AreBelow new small column bound →
        small ≤ (get_or parts done no_part).last - (get_or parts done no_part).first →
        (get_or parts done no_part).first ≤ column → column < (get_or parts done no_part).last →
        (get_or parts done no_part).value ≤ bound
    here column bound in_range below span from to =
        let wide = h.wide column bound in_range (old_below column bound below) done no_part lt in
        let some_part = within.some done no_part lt in
        let last = within.within done no_part lt in
        grind (
          arith,
          p.same,
          wide,
          p.first span,
          p.last span,
          below (get_or parts done no_part).first,
          below
              ((get_or parts done no_part).last - small),
        )

-- the greatest of some numbers is at most what they all are at most
pub greatest_most : (parts : List Part) (column bound : ℕ) →
    All (λ p. p.first ≤ column → column < p.last → p.value ≤ bound) parts → greatest_at parts column ≤ bound
unfolding greatest_at greatest
greatest_most [] column bound all = omega arith
greatest_most (p ∷ parts) column bound all =
    by (covers column p) refl
    (greatest_most parts column bound
    (All-tail (λ p. p.first ≤ column → column < p.last → p.value ≤ bound) p parts all))
  where
    by : (b : Bool) → covers column p ≡ b → greatest (map value_of (filter (covers column) parts)) ≤ bound →
        greatest (map value_of (cond b (p ∷ filter (covers column) parts) (filter (covers column) parts))) ≤ bound
    by true e rest =
        let here : p.value ≤ bound = All-head (λ p. p.first ≤ column → column < p.last → p.value ≤ bound) p parts all
        (grind (arith, nat_tests)) (grind (arith, nat_tests)) in
        omega arith
    by false e rest = rest

pub most_greatest : (parts : List Part) (column bound : ℕ) → greatest_at parts column ≤ bound →
    All (λ p. p.first ≤ column → column < p.last → p.value ≤ bound) parts
unfolding greatest_at greatest
most_greatest [] column bound le = λ k d lt. absurd (omega arith)
most_greatest (p ∷ parts) column bound le = by (covers column p) refl le (λ l. most_greatest parts column bound l)
  where
    by : (b : Bool) → covers column p ≡ b →
        greatest (map value_of (cond b (p ∷ filter (covers column) parts) (filter (covers column) parts))) ≤ bound →
        (greatest (map value_of (filter (covers column) parts)) ≤ bound →
        All (λ p. p.first ≤ column → column < p.last → p.value ≤ bound) parts) →
        All (λ p. p.first ≤ column → column < p.last → p.value ≤ bound) (p ∷ parts)
    by true e le rest = All-cons (λ p. p.first ≤ column → column < p.last → p.value ≤ bound) p parts
        (λ from to. omega arith) (rest (omega arith))
    by false e le rest = All-cons (λ p. p.first ≤ column → column < p.last → p.value ≤ bound) p parts
        (λ from to. absurd (grind (arith, nat_tests))) (rest le)

-- the windows from `at` on are raised
pub record IsWidening (step at : ℕ) (old new : List ℕ) : Type 0 where
  pub same : length new ≡ length old
  pub within : at ≤ length old
  pub stops : at < step → at ≡ length old
  pub far : (i : ℕ) → at ≤ i → step ≤ i → i < length old →
      get_or new i 0 ≡ max (get_or old i 0) (get_or old (i - step) 0)
  pub near : (i : ℕ) → i < at → i < length old → get_or new i 0 ≡ get_or old i 0

-- all cells are in: the next windows may be smaller
pub spread_all : (parts : List Part) (small width : ℕ) (windows : List ℕ) →
    IsSpread parts small width (length parts) windows → IsSpread parts small small 0 windows
spread_all parts small width windows h = record {
  sound = h.sound;
  wide = λ column bound in_range below. subst
      (All (λ p. small ≤ p.last - p.first → p.first ≤ column → column < p.last → p.value ≤ bound))
      (take_all (length parts) parts (omega arith))
      (h.narrow column bound in_range below);
  narrow = λ column bound in_range below k d lt. absurd (omega arith);
}

-- windows of one column hold the greatest of each column
pub spread_end : (parts : List Part) (count : ℕ) (windows : List ℕ) → AreWithin parts count → length windows ≡ count →
    IsSpread parts 1 1 0 windows →
    windows ≡ greatest_parts_of parts count
spread_end parts count windows within same h = fill_by_all (greatest_at parts) windows count 0 same (λ k lt. at k lt)
  where
    at : (k : ℕ) → k < count → get_or windows k 0 ≡ greatest_at parts k
    at k lt =
        let low : get_or windows k 0 ≤ greatest_at parts k = h.sound k (greatest_at parts k) (omega arith)
        (λ j d j_lt from to. most_greatest parts k (greatest_at parts k) (omega arith) j d j_lt from (omega arith)) in
        let high : greatest_at parts k ≤ get_or windows k 0 = greatest_most parts k (get_or windows k 0)
        (λ j d j_lt from to. h.wide k (get_or windows k 0) (omega arith) (λ i i_lt le gt. at_only i k le gt) j d j_lt
        (omega arith) from to) in
        omega arith
      where
        at_only : (i k : ℕ) → i ≤ k → k < i + 1 → get_or windows i 0 ≤ get_or windows k 0
        at_only i k le gt = let e : i ≡ k = omega arith in rw e (omega arith)
