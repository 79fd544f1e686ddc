-- Windows: numbers that stand for some columns each, from their place on.
use Rattle.std.specs.Prelude.{◌≡◌, ℕ, ◌+◌, ◌-◌, ◌<◌, ◌≤◌, max, List, length, get_or, take, All}
use Rattle.table_grid.specs.declared.part.Part.{Part}

-- each window raised to the one `step` before it
pub record IsWidened (step : ℕ) (old new : List ℕ) : Type 0 where
  pub same : length new ≡ length old
  pub far : (i : ℕ) → step ≤ i → i < length old → get_or new i 0 ≡ max (get_or old i 0) (get_or old (i - step) 0)
  pub near : (i : ℕ) → i < step → i < length old → get_or new i 0 ≡ get_or old i 0

-- one window raised to a value
pub record IsRaised (at value : ℕ) (old new : List ℕ) : Type 0 where
  pub same : length new ≡ length old
  pub here : get_or new at 0 ≡ max (get_or old at 0) value
  pub others : (i : ℕ) → (i ≡ at → ⊥) → get_or new i 0 ≡ get_or old i 0

-- no window that holds the column passes the bound
abbrev pub AreBelow : List ℕ → ℕ → ℕ → ℕ → Type 0
AreBelow windows small column bound = (i : ℕ) → i < length windows → i ≤ column → column < i + small →
    get_or windows i 0 ≤ bound

-- windows of `small` columns with all cells of at least `width` columns, and of the first `done` cells those of at
-- least `small`
pub record IsSpread (parts : List Part) (small width done : ℕ) (windows : List ℕ) : Type 0 where
  pub sound : (i bound : ℕ) → i < length windows → All (λ p. p.first ≤ i → i + small ≤ p.last → p.value ≤ bound) parts →
      get_or windows i 0 ≤ bound
  pub wide : (column bound : ℕ) → column < length windows → AreBelow windows small column bound →
      All (λ p. width ≤ p.last - p.first → p.first ≤ column → column < p.last → p.value ≤ bound) parts
  pub narrow : (column bound : ℕ) → column < length windows → AreBelow windows small column bound →
      All (λ p. small ≤ p.last - p.first → p.first ≤ column → column < p.last → p.value ≤ bound) (take done parts)

-- a cell put into windows
pub record IsPut (part : Part) (small width : ℕ) (old new : List ℕ) : Type 0 where
  pub same : length new ≡ length old
  pub rises : (i : ℕ) → get_or old i 0 ≤ get_or new i 0
  pub sound : (i bound : ℕ) → get_or old i 0 ≤ bound → (part.first ≤ i → i + small ≤ part.last → part.value ≤ bound) →
      get_or new i 0 ≤ bound
  pub first : small ≤ part.last - part.first → part.last - part.first < width → part.value ≤ get_or new part.first 0
  pub last : small ≤ part.last - part.first → part.last - part.first < width →
      part.value ≤ get_or new (part.last - small) 0
