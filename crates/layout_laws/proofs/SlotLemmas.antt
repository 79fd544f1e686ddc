-- Slots of a row: the columns of text at which they begin and that they take, and cells from above that stand in them.
use Rattle.std.proofs.Common.{◌≡◌, ◌+◌, ◌-◌, ◌^◌, ◌<◌, ◌≤◌, ◌⊎◌, [], ◌∷◌, ◌++◌, ◌∙◌, Bool, List, ap, arith, cond, drop}
use Rattle.std.proofs.Common.{false, filter, inl, inr, length, map, max, nat_lt, refl, subst, sum, sym, take, take-add}
use Rattle.std.proofs.Common.{take_all, true, ℕ}
use Rattle.std.specs.Prelude.{if◌then◌else◌, ◌&&◌, ◌||◌}
use Rattle.std.specs.List.{AllByRecursion, list_any}
use Rattle.std.proofs.lemmas.Bool.Decides.{nat_tests}
use Rattle.std.proofs.lemmas.List.{length-take, length-drop}
use Rattle.std.proofs.lemmas.List.Sums.{sum_by-append}
use Rattle.text_borders.specs.AcrossLaws.{Seat}
use Rattle.table_widths.specs.RowLaws.{IsWhole, StandFrom}
use Rattle.table_widths.specs.Slots.{across, covered, covered_after, goes_on, has_columns, is_shown, merged}
use Rattle.table_widths.specs.declared.slot.Slot.{Slot}
use Rattle.layout_tables.specs.Tables.{separated}
use Rattle.layout_laws.proofs.MergedLemmas.{IsMerged, each_merged, merging, one, other, over}

-- ---- columns of text

-- where a column begins, each one before it with a separator after it
abbrev pub start_of : List ℕ → ℕ → ℕ
start_of widths n = sum (take n widths) + n

-- the columns of text that a slot takes
abbrev pub width_in : List ℕ → Slot → ℕ
width_in widths s = separated (take (s.last - s.first) (drop s.first widths))

-- with separators between them they are a number of 64 bits
abbrev pub AreShort : List ℕ → Type 0
AreShort widths = sum widths + (length widths - 1) < 2 ^ 64

sum_split : (widths : List ℕ) (a n : ℕ)
    → sum (take (a + n) widths) ≡ sum (take a widths) + sum (take n (drop a widths))
sum_split widths a n = ap (λ (ws : List ℕ). sum ws) (take-add a n widths)
    ∙ sum_by-append (λ (k : ℕ). k) (take a widths) (take n (drop a widths))

pub start_rises : (widths : List ℕ) (a b : ℕ) → a ≤ b → start_of widths a ≤ start_of widths b
start_rises widths a b le =
    let n : a + (b - a) ≡ b = omega (arith, le) in
    omega (arith, le, sum_split widths a (b - a), ap (λ (k : ℕ). sum (take k widths)) n)

start_end : (widths : List ℕ) → start_of widths (length widths) ≡ sum widths + length widths
start_end widths = ap (λ (ws : List ℕ). sum ws + length widths) (take_all (length widths) widths (omega arith))

pub start_within : (widths : List ℕ) (n : ℕ) → n ≤ length widths → start_of widths n ≤ sum widths + length widths
start_within widths n le = omega (arith, start_rises widths n (length widths) le, start_end widths)

-- A slot takes the columns of text up to the separator before the column after it.
pub slot_spans : (widths : List ℕ) (s : Slot) → AreShort widths → s.first < s.last → s.last ≤ length widths
    → start_of widths s.first + width_in widths s + 1 ≡ start_of widths s.last
slot_spans widths s short some within =
    let n : s.first + (s.last - s.first) ≡ s.last = omega (arith, some) in
    omega (
      arith,
      some,
      within,
      short,
      sum_split widths s.first (s.last - s.first),
      ap (λ (k : ℕ). sum (take k widths)) n,
      start_within widths s.last within,
      length-take (s.last - s.first) (drop s.first widths),
      length-drop s.first widths,
    )

-- ---- slots with columns

abbrev pub live : List Slot → List Slot
live slots = filter has_columns slots

-- they take columns side by side from one on
abbrev pub StandBy : (from : ℕ) → List Slot → Type 0
StandBy from [] = Unit {0}
StandBy from (s ∷ slots) = (s.first ≡ from) × ((s.first < s.last) × StandBy s.last slots)

pub live_stand : (from : ℕ) (slots : List Slot) → StandFrom from slots → StandBy from (live slots)
live_stand from [] h = tt
live_stand from (s ∷ slots) h = by (has_columns s) refl (live_stand s.last slots h.1.1)
  where
    by : (b : Bool) → has_columns s ≡ b → StandBy s.last (live slots)
        → StandBy from (cond b (s ∷ live slots) (live slots))
    by true e rest = (h.0, (grind (arith, nat_tests), rest))
    by false e rest =
        let le : s.first ≤ s.last = h.1.0 in
        let not_less : s.last ≤ s.first = grind (arith, nat_tests) in
        subst (λ (n : ℕ). StandBy n (live slots)) (omega (arith, le, not_less, h.0)) rest

pub live_each : (P : Slot → Type 0) (slots : List Slot) → AllByRecursion P slots → AllByRecursion P (live slots)
live_each P [] h = tt
live_each P (s ∷ slots) h = by (has_columns s) (live_each P slots h.1)
  where
    by : (b : Bool) → AllByRecursion P (live slots) → AllByRecursion P (cond b (s ∷ live slots) (live slots))
    by true rest = (h.0, rest)
    by false rest = rest

pub live_covered : (slots : List Slot) → covered_after (live slots) ≡ covered_after slots
live_covered [] = refl
live_covered (s ∷ slots) = by (has_columns s) refl (live_covered slots)
  where
    by : (b : Bool) → has_columns s ≡ b → covered_after (live slots) ≡ covered_after slots
        → covered_after (cond b (s ∷ live slots) (live slots)) ≡ covered_after (s ∷ slots)
    by true e rest = further (goes_on s) rest
      where
        further : (g : Bool) → covered_after (live slots) ≡ covered_after slots
            → map covered (cond g (s ∷ filter goes_on (live slots)) (filter goes_on (live slots)))
            ≡ map covered (cond g (s ∷ filter goes_on slots) (filter goes_on slots))
        further true rest = ap (λ (ss : List Slot). covered s ∷ ss) rest
        further false rest = rest
    by false e rest =
        let stays : goes_on s ≡ false = grind (arith, nat_tests) in
        rest ∙ ap (λ (g : Bool). map covered (cond g (s ∷ filter goes_on slots) (filter goes_on slots))) (sym stays)

-- ---- cells from above

-- the cell goes on in that slot, in no more rows than are left to it
abbrev pub IsSeatOf : List ℕ → Slot → Seat → Type 0
IsSeatOf widths s h = (s.first < s.last)
    × ((h.place ≡ start_of widths s.first) × ((h.width ≡ width_in widths s) × (h.rows ≤ s.rows)))

-- Each cell that goes on does so in one of the slots, in order.
abbrev pub AreDue : List ℕ → List Slot → List Seat → Type 0
AreDue widths slots [] = Unit {0}
AreDue widths [] (h ∷ seats) = ⊥
AreDue widths (s ∷ slots) (h ∷ seats) =
    (IsSeatOf widths s h × AreDue widths slots seats) ⊎ AreDue widths slots (h ∷ seats)

pub due_more : (widths : List ℕ) (s : Slot) (slots : List Slot) (seats : List Seat) → AreDue widths slots seats
    → AreDue widths (s ∷ slots) seats
due_more widths s slots [] due = tt
due_more widths s slots (h ∷ seats) due = inr due

due_merged : {own above whole : List Slot} (widths : List ℕ) → IsMerged own above whole → (seats : List Seat)
    → AreDue widths above seats → AreDue widths whole seats
due_merged widths over seats due = due
due_merged widths (one {s} {slots} {others} {rest} first m) seats due =
    due_more widths s rest seats (due_merged widths m seats due)
due_merged widths (other {s} {t} {slots} {others} {rest} first m) [] due = tt
due_merged widths (other {s} {t} {slots} {others} {rest} first m) (h ∷ seats) (inl due) =
    inl (due.0, due_merged widths m seats due.1)
due_merged widths (other {s} {t} {slots} {others} {rest} first m) (h ∷ seats) (inr due) =
    inr (due_merged widths m (h ∷ seats) due)

due_live : (widths : List ℕ) (slots : List Slot) (seats : List Seat) → AreDue widths slots seats
    → AreDue widths (live slots) seats
due_live widths slots [] due = none (live slots)
  where
    none : (slots : List Slot) → AreDue widths slots []
    none slots = tt
due_live widths [] (h ∷ seats) due = absurd due
due_live widths (s ∷ slots) (h ∷ seats) due = by (has_columns s) refl due
    (λ seats due. due_live widths slots seats due)
  where
    by : (b : Bool) → has_columns s ≡ b
        → (IsSeatOf widths s h × AreDue widths slots seats) ⊎ AreDue widths slots (h ∷ seats)
        → ((seats : List Seat) → AreDue widths slots seats → AreDue widths (live slots) seats)
        → AreDue widths (cond b (s ∷ live slots) (live slots)) (h ∷ seats)
    by true e (inl d) rest = inl (d.0, rest seats d.1)
    by true e (inr d) rest = inr (rest (h ∷ seats) d)
    by false e (inl d) rest =
        let some : s.first < s.last = d.0.0 in
        absurd (grind (arith, nat_tests))
    by false e (inr d) rest = rest (h ∷ seats) d

-- none stands before the column from which on the slots stand
pub due_after : (widths : List ℕ) (from : ℕ) (slots : List Slot) (h : Seat) (seats : List Seat) → StandBy from slots
    → AreDue widths slots (h ∷ seats) → start_of widths from ≤ h.place
due_after widths from [] h seats stand due = absurd due
due_after widths from (s ∷ slots) h seats stand (inl due) =
    omega (arith, due.0.1.0, ap (λ (n : ℕ). start_of widths n) stand.0)
due_after widths from (s ∷ slots) h seats stand (inr due) = omega (
  arith,
  due_after widths s.last slots h seats stand.1.1 due,
  start_rises widths from s.last (omega (arith, stand.0, stand.1.0)),
)

-- the seat of a cell after its row, where it goes on
abbrev pub seat_after : (place width rows : ℕ) → List Seat
seat_after place width rows =
    if nat_lt 1 rows then (record { place = place; width = width; rows = rows - 1 }) ∷ [] else []

-- A cell that goes on does so in the place of its slot, one row further down.
pub due_further : (widths : List ℕ) (s : Slot) (slots : List Slot) (place width rows : ℕ) (seats : List Seat)
    → place ≡ start_of widths s.first → width ≡ width_in widths s → rows ≤ max 1 s.rows → s.first < s.last
    → AreDue widths (covered_after slots) seats
    → AreDue widths (covered_after (s ∷ slots)) (seat_after place width rows ++ seats)
due_further widths s slots place width rows seats at is few some due =
    by (nat_lt 1 rows) refl (goes_on s) refl
  where
    by : (b : Bool) → nat_lt 1 rows ≡ b → (g : Bool) → goes_on s ≡ g
        → AreDue widths (map covered (cond g (s ∷ filter goes_on slots) (filter goes_on slots)))
        ((if b then (record { place = place; width = width; rows = rows - 1 }) ∷ [] else []) ++ seats)
    by true e true f = inl ((some, (at, (is, omega (arith, few, more e)))), due)
      where
        more : nat_lt 1 rows ≡ true → 1 < rows
        more e = grind (arith, nat_tests)
    by true e false f = absurd (grind (arith, nat_tests, some, few))
    by false e true f = due_more widths (covered s) (covered_after slots) seats due
    by false e false f = due

-- ---- rows

-- a slot that is no cell has columns
abbrev pub IsFull : Slot → Type 0
IsFull s = (s.is_cell ≡ true) ⊎ (s.first < s.last)

-- The slots of a row take columns side by side, and those that are no cells take some.
pub record IsSoundRow (count : ℕ) (slots : List Slot) : Type 0 where
  pub whole : IsWhole count slots
  pub full : AllByRecursion IsFull slots

-- Rows that are to come keep these widths, with cells that go on from above: in each that is shown these are awaited.
abbrev pub RowsFit : List ℕ → List (List Slot) → List Seat → Type 0
RowsFit widths [] seats = Unit {0}
RowsFit widths (row ∷ rows) seats = (is_shown row ≡ true → IsSoundRow (length widths) row
    × (AreDue widths (live row) seats
    × ((further : List Seat) → AreDue widths (covered_after row) further → RowsFit widths rows further)))
    × (is_shown row ≡ false → RowsFit widths rows seats)

any_merged : {own above whole : List Slot} (test : Slot → Bool) → IsMerged own above whole → list_any test own ≡ true
    → list_any test whole ≡ true
any_merged test over e = absurd cc
any_merged test (one {s} {slots} {others} {rest} first m) e = by (test s) e (λ f. any_merged test m f)
  where
    by : (b : Bool) → (b || list_any test slots) ≡ true → (list_any test slots ≡ true → list_any test rest ≡ true)
        → (b || list_any test rest) ≡ true
    by true e further = refl
    by false e further = further e
any_merged test (other {s} {t} {slots} {others} {rest} first m) e = by (test t) (any_merged test m e)
  where
    by : (b : Bool) → list_any test rest ≡ true → (b || list_any test rest) ≡ true
    by true e = refl
    by false e = e

covered_full : (slots : List Slot) → AllByRecursion IsFull (covered_after slots)
covered_full [] = tt
covered_full (s ∷ slots) = by (goes_on s) refl (covered_full slots)
  where
    by : (b : Bool) → goes_on s ≡ b → AllByRecursion IsFull (covered_after slots)
        → AllByRecursion IsFull (map covered (cond b (s ∷ filter goes_on slots) (filter goes_on slots)))
    by true e rest = (inr (grind (arith, nat_tests)), rest)
    by false e rest = rest

pub rows_fit : (widths : List ℕ) (rows : List (List Slot)) (above : List Slot) (seats : List Seat)
    → AllByRecursion (λ row. AllByRecursion IsFull row) rows → AllByRecursion IsFull above
    → AllByRecursion (λ row. is_shown row ≡ true → IsWhole (length widths) row) (across above rows)
    → AreDue widths above seats → RowsFit widths (across above rows) seats
rows_fit widths [] above seats own from whole due = tt
rows_fit widths (row ∷ rows) above seats own from whole due = by (is_shown row) refl whole
    (λ above seats from whole due. rows_fit widths rows above seats own.1 from whole due)
  where
    all : List Slot
    all = merged row above

    both : (b : Bool) → b ≡ true → b ≡ false → ⊥
    both b e f = cc

    by : (b : Bool) → is_shown row ≡ b
        → AllByRecursion (λ row. is_shown row ≡ true → IsWhole (length widths) row)
        (if b then all ∷ across (covered_after all) rows else row ∷ across above rows)
        → ((above : List Slot) (seats : List Seat) → AllByRecursion IsFull above
        → AllByRecursion (λ row. is_shown row ≡ true → IsWhole (length widths) row) (across above rows)
        → AreDue widths above seats → RowsFit widths (across above rows) seats)
        → RowsFit widths (if b then all ∷ across (covered_after all) rows else row ∷ across above rows) seats
    by true e whole rest = (
      (λ shown. (
        record { whole = whole.0 shown; full = each_merged IsFull (merging row above) own.0 from },
        (
          due_live widths all seats (due_merged widths (merging row above) seats due),
          (λ further due. rest (covered_after all) further (covered_full all) whole.1 due),
        ),
      )),
      (λ hidden. absurd (both (is_shown all)
          (any_merged (λ s. s.is_cell && has_columns s) (merging row above) e) hidden)),
    )
    by false e whole rest = (
      (λ shown. absurd (both (is_shown row) shown e)),
      (λ hidden. rest above seats from whole.1 due),
    )
