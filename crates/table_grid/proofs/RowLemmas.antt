-- A row, cell by cell.
use Rattle.std.proofs.Common.{◌≡◌, ◌+◌, ◌-◌, ◌^◌, ◌<◌, ◌≤◌, [], ◌∷◌, ◌++◌, ◌∙◌, All, List, ap, arith, get_or, length}
use Rattle.std.proofs.Common.{length-append, max, refl, subst, sym, take, take_all, ℕ}
use Rattle.std.proofs.lemmas.List.{take_more, get_or_append_left, get_or_push, take-append-le, map-append}
use Rattle.std.proofs.lemmas.List.Elements.{All-push}
use borrow.Author.Count.{below_more}
use Rattle.table_grid.specs.declared.cell.Cell.{Cell}
use Rattle.table_grid.specs.declared.covers.Cover.{Cover}
use Rattle.table_grid.specs.declared.cell.PlacedCell.{PlacedCell}
use Rattle.table_grid.specs.Places.{cell_of, right_of, bottom_of, IsFree, IsPlace, ArePlaced}
use Rattle.table_grid.specs.Covers.{AllMiss, AreApart, AreOrdered, ArePassed, CellMisses, EndBefore, IsAfterRow}
use Rattle.table_grid.specs.Covers.{IsBetweenRows, IsFirstFree, Misses, MissesOne, cover_at, cover_of, farthest}
use Rattle.table_grid.proofs.WalkLemmas.{none}
use Rattle.table_grid.proofs.MergeLemmas.{end_weaker}

abbrev pub placed_here : Cell → ℕ → PlacedCell
placed_here cell left = record { cell = cell; left = left }

all_pushed : {X : Type 0} (P : X → Type 0) → (xs : List X) (x : X) → All P (xs ++ x ∷ []) → All P xs × P x
all_pushed P xs x h =
    let n = length-append xs (x ∷ []) in (
      λ k d lt. subst P (get_or_append_left xs (x ∷ []) d k lt) (h k d (omega arith)),
      subst P
          (get_or_push xs x x (length xs) refl) (h (length xs) x (omega arith)),
    )

abbrev StandsAt : List PlacedCell → ℕ → Type 0
StandsAt placed k = (d : PlacedCell) → IsPlace (take k placed) (get_or placed k d).cell (get_or placed k d).left

old_stays : (placed : List PlacedCell) (x : PlacedCell) (k : ℕ) → k < length placed → StandsAt placed k →
    StandsAt (placed ++ x ∷ []) k
old_stays placed x k lt h d =
    let e : get_or (placed ++ x ∷ []) k d ≡ get_or placed k d = get_or_append_left placed (x ∷ []) d k lt in
    let t : take k (placed ++ x ∷ []) ≡ take k placed = take-append-le k placed (x ∷ []) (omega arith) in
    subst (λ (xs : List PlacedCell). IsPlace xs (get_or (placed ++ x ∷ []) k d).cell
    (get_or (placed ++ x ∷ []) k d).left) (sym t)
    (subst (λ (p : PlacedCell). IsPlace (take k placed) p.cell p.left) (sym e) (h d))

new_stands : (placed : List PlacedCell) (x : PlacedCell) → IsPlace placed x.cell x.left →
    StandsAt (placed ++ x ∷ []) (length placed)
new_stands placed x h d =
    let e : get_or (placed ++ x ∷ []) (length placed) d ≡ x = get_or_push placed x d (length placed) refl in
    let t : take (length placed) (placed ++ x ∷ []) ≡ placed =
    take-append-le (length placed) placed (x ∷ []) (omega arith) ∙ take_all (length placed) placed (omega arith) in
    subst (λ (xs : List PlacedCell). IsPlace xs (get_or (placed ++ x ∷ []) (length placed) d).cell
    (get_or (placed ++ x ∷ []) (length placed) d).left) (sym t)
    (subst (λ (p : PlacedCell). IsPlace placed p.cell p.left) (sym e) h)

-- one more cell in its place
pub placed_more : (cells : List Cell) (placed : List PlacedCell) (cell : Cell) (left : ℕ) → ArePlaced cells placed →
    IsPlace placed cell left →
    ArePlaced (cells ++ cell ∷ []) (placed ++ placed_here cell left ∷ [])
placed_more cells placed cell left h place = record {
  same = map-append cell_of placed (placed_here cell left ∷ []) ∙ ap (λ (xs : List Cell). xs ++ cell ∷ []) h.same;
  each = λ k d lt. below_more (StandsAt (placed ++ placed_here cell left ∷ [])) (length placed)
      (λ j j_lt. old_stays placed (placed_here cell left) j j_lt (λ e. h.each j e j_lt))
      (new_stands placed (placed_here cell left) place)
      k (let n = length-append placed (placed_here cell left ∷ []) in omega arith) d;
}

-- what holds while a row is placed
pub record IsInRow (cells : List Cell) (row : ℕ) (covers own : List Cover) (placed : List PlacedCell)
    (passed trailing : ℕ) : Type 0 where
  pub within : length placed ≤ length cells
  pub so_far : ArePlaced (take (length placed) cells) placed
  pub upper : All (λ p. p.cell.row ≤ row) placed
  pub bounded : All (λ p. right_of p ≤ farthest (length placed)) placed
  pub after_all : All (λ p. p.cell.row ≡ row → right_of p ≤ trailing) placed
  pub after_least : (start : ℕ) → All (λ p. p.cell.row ≡ row → right_of p ≤ start) placed → trailing ≤ start
  pub free : (column : ℕ) → Misses covers column → IsFree placed row column
  pub taken : (column : ℕ) → IsFree placed row column → Misses covers column
  pub is_passed : ArePassed covers passed trailing
  pub covers_end : EndBefore covers (farthest (length placed))
  pub near : trailing ≤ farthest (length placed)
  pub ordered : AreOrdered own
  pub ends : EndBefore own trailing
  pub apart : All (λ c. All (AreApart c) own) covers
  pub fewer : (column : ℕ) → AllMiss placed row column → Misses covers column × Misses own column
  pub more : (column : ℕ) → Misses covers column → Misses own column → AllMiss placed row column

no_misses : (column : ℕ) → Misses [] column
no_misses column = record { misses = λ k d lt. absurd (omega arith) }

pub row_first : (cells : List Cell) (row : ℕ) (covers : List Cover) (placed : List PlacedCell) →
    IsBetweenRows cells row covers placed →
    IsInRow cells row covers [] placed 0 0
row_first cells row covers placed h = record {
  within = h.within;
  so_far = h.so_far;
  upper = λ k d lt. let a = h.above k d lt in omega arith;
  bounded = h.bounded;
  after_all = λ k d lt e. let a = h.above k d lt in absurd (omega arith);
  after_least = λ start a. omega arith;
  free =
      λ column a. record { free = λ k d lt above reach. (h.more column a).all k d lt reach };
  taken = λ column a. h.fewer column
      (record { all = λ k d lt reach. a.free k d lt (h.above k d lt) reach });
  is_passed = record { within = omega arith; passed = λ k lt. absurd (omega arith) };
  covers_end = h.ends;
  near = omega arith;
  ordered = record { held = λ k d lt. absurd (omega arith); rising = λ j k lt k_lt. absurd (omega arith) };
  ends = record { within = λ k d lt. absurd (omega arith) };
  apart = λ k d lt j e j_lt. absurd (omega arith);
  fewer = λ column a. (h.fewer column a, no_misses column);
  more = λ column a b. h.more column a;
}

pub place_within : (covers : List Cover) (trailing span start limit : ℕ) → EndBefore covers limit →
    IsFirstFree covers trailing span start → start ≤ max trailing limit
place_within covers trailing span start limit small h =
    h.first (max trailing limit) (omega arith)
    (record { clear = λ k d lt column from to left right. let s = small.within k d lt in absurd (omega arith) })

-- the first free columns among the covers are the place that is meant
pub is_place : (cells : List Cell) (row : ℕ) (covers own : List Cover) (placed : List PlacedCell)
    (passed trailing : ℕ) (cell : Cell) (left : ℕ) → AreOrdered covers →
    IsInRow cells row covers own placed passed trailing → cell.row ≡ row →
    IsFirstFree covers trailing cell.colspan left → IsPlace placed cell left
is_place cells row covers own placed passed trailing cell left whole h same first = record {
  fits = record {
    trailing = λ k d lt e. let a = h.after_all k d lt (e ∙ same) in let b = first.after in omega arith;
    free = λ column from to. subst (λ (n : ℕ). IsFree placed n column) (sym same)
        (h.free column (record { misses = λ k d lt. first.clear.clear k d lt column from to }));
  };
  first = λ earlier fits. first.first earlier (h.after_least earlier (λ k d lt e. fits.trailing k d lt (e ∙ sym same)))
      (record {
        clear =
            λ k d lt column from to.
            (h.taken column (subst (λ (n : ℕ). IsFree placed n column) same (fits.free column from to))).misses k d lt;
      });
}

abbrev pub no_place : Cell
no_place = record { row = 0; colspan = 0; rowspan = 0; size = 0; least = 0 }

covered : (own : List Cover) (bound : ℕ) (next : Cover) → AreOrdered own → EndBefore own next.left →
    next.left < next.right → AreOrdered (own ++ next ∷ [])
covered own bound next h ends some = record {
  held = All-push (λ c. c.left < c.right) own next h.held some;
  rising = λ j k lt k_lt. below_more (λ (k : ℕ). (j : ℕ) → j < k →
      (cover_at (own ++ next ∷ []) j).right ≤ (cover_at (own ++ next ∷ []) k).left) (length own)
      (λ k in_k j in_j. rw
      (get_or_append_left own (next ∷ []) none k in_k, get_or_append_left own (next ∷ []) none j (omega arith))
      (h.rising j k in_j in_k))
      (λ j in_j. rw (get_or_push own next none (length own) refl, get_or_append_left own (next ∷ []) none j in_j)
      (ends.within j none in_j))
      k (let n = length-append own (next ∷ []) in omega arith) j lt;
}

pub row_more : (cells : List Cell) (row : ℕ) (covers own : List Cover) (placed : List PlacedCell)
    (passed trailing next : ℕ) (cell : Cell) (left : ℕ) → AreOrdered covers →
    IsInRow cells row covers own placed passed trailing → length placed < length cells →
    cell ≡ get_or cells (length placed) no_place → cell.row ≡ row → 0 < cell.colspan → cell.colspan < 2 ^ 64 →
    0 < cell.rowspan →
    IsFirstFree covers trailing cell.colspan left → ArePassed covers next left →
    IsInRow cells row covers (own ++ cover_of (placed_here cell left) ∷ [])
    (placed ++ placed_here cell left ∷ []) next (left + cell.colspan)
row_more cells row covers own placed passed trailing next cell left whole h lt at same some small tall first
    is_passed = record {
      within = let n = len in omega arith;
      so_far = subst (λ (xs : List Cell). ArePlaced xs (placed ++ placed_here cell left ∷ []))
          (ap (λ (x : Cell). take (length placed) cells ++ x ∷ []) at
          ∙ sym (take_more cells (length placed) no_place lt)
          ∙ ap (λ (n : ℕ). take n cells) (sym len))
          (placed_more (take (length placed) cells) placed cell left h.so_far
          (is_place cells row covers own placed passed trailing cell left whole h same first));
      upper = All-push (λ p. p.cell.row ≤ row) placed (placed_here cell left) h.upper (omega arith);
      bounded = All-push (λ p. right_of p ≤ farthest (length (placed ++ placed_here cell left ∷ []))) placed
          (placed_here cell left)
          (λ k d k_lt. let a = h.bounded k d k_lt in let n = len in omega arith)
          (let n = len in let w = place_within covers trailing cell.colspan left (farthest (length placed)) h.covers_end
          first in let b = h.near in omega arith);
      after_all = All-push (λ p. p.cell.row ≡ row → right_of p ≤ left + cell.colspan) placed (placed_here cell left)
          (λ k d k_lt e. let a = h.after_all k d k_lt e in let b = first.after in omega arith) (λ _. omega arith);
      after_least =
          λ start a. (all_pushed (λ p. p.cell.row ≡ row → right_of p ≤ start) placed (placed_here cell left) a).1
          same;
      free =
          λ column a. record {
            free = All-push (λ p. p.cell.row < row → row < bottom_of p → p.left ≤ column → column < right_of p → ⊥)
                placed
                (placed_here cell left) ((h.free column a).free) (λ above. absurd (omega arith));
          };
      taken =
          λ column a. h.taken column
          (record {
            free =
                (all_pushed (λ p. p.cell.row < row → row < bottom_of p → p.left ≤ column → column < right_of p → ⊥)
                placed
                (placed_here cell left) a.free).0;
          });
      is_passed = record {
        within = is_passed.within;
        passed = λ k k_lt. let a = is_passed.passed k k_lt in
            omega arith;
      };
      covers_end = end_weaker covers (farthest (length placed))
          (farthest (length (placed ++ placed_here cell left ∷ [])))
          (let n = len in omega arith) h.covers_end;
      near = let n = len in let w = place_within covers trailing cell.colspan left (farthest (length placed)) h.covers_end
          first in let b = h.near in omega arith;
      ordered = covered own trailing (cover_of (placed_here cell left)) h.ordered
          (end_weaker own trailing left first.after h.ends) (omega arith);
      ends =
          record {
            within = All-push (λ c. c.right ≤ left + cell.colspan) own (cover_of (placed_here cell left))
                (λ k d k_lt. let a = h.ends.within k d k_lt in let b = first.after in omega arith) (omega arith);
          };
      apart = λ k d k_lt. All-push (AreApart (get_or covers k d)) own (cover_of (placed_here cell left))
          (h.apart k d k_lt)
          (record { apart = λ column from to left right. first.clear.clear k d k_lt column left right from to });
      fewer = λ column a.
          let parts = all_pushed (CellMisses row column) placed (placed_here cell left) a.all in
          let old = h.fewer column (record { all = parts.0 }) in (
            old.0,
            record {
              misses = All-push (λ c. MissesOne c column) own (cover_of (placed_here cell left))
                  old.1.misses (parts.1 (omega arith));
            },
          );
      more = λ column a b.
          let parts = all_pushed (λ c. MissesOne c column) own (cover_of (placed_here cell left)) b.misses in
          record {
            all = All-push (CellMisses row column) placed (placed_here cell left)
                (h.more column a (record { misses = parts.0 })).all (λ _. parts.1);
          };
    }
  where
    taken_more : take (length (placed ++ placed_here cell left ∷ [])) cells ≡ take (length placed) cells ++ cell ∷ []
    taken_more =
        let n : length (placed ++ placed_here cell left ∷ []) ≡ length placed + 1 =
        length-append placed (placed_here cell left ∷ []) in
        let m : take (length placed + 1) cells ≡ take (length placed) cells ++ get_or cells (length placed) no_place ∷
        [] = take_more cells (length placed) no_place lt in
        rw (n, m, at) refl

    len : length (placed ++ placed_here cell left ∷ []) ≡ length placed + 1
    len = length-append placed (placed_here cell left ∷ [])

pub left_fits : (cells : List Cell) (row : ℕ) (covers own : List Cover) (placed : List PlacedCell)
    (passed trailing span left : ℕ) → IsInRow cells row covers own placed passed trailing →
    span < 2 ^ 64 → length placed < 2 ^ 64 - 1 → IsFirstFree covers trailing span left → left + span < 2 ^ 128
left_fits cells row covers own placed passed trailing span left h span_fits few first =
    let w = place_within covers trailing span left (farthest (length placed)) h.covers_end first in let b = h.near in
    omega arith

pub fresh_more : (old placed : List PlacedCell) (row : ℕ) (cell : Cell) (left : ℕ) → cell.row ≡ row →
    length old ≤ length placed →
    ((k : ℕ) (d : PlacedCell) → length old ≤ k → k < length placed → (get_or placed k d).cell.row ≡ row) →
    (k : ℕ) (d : PlacedCell) → length old ≤ k → k < length (placed ++ placed_here cell left ∷ []) →
    (get_or (placed ++ placed_here cell left ∷ []) k d).cell.row ≡ row
fresh_more old placed row cell left same le fresh k d from lt =
    below_more (λ (k : ℕ). length old ≤ k → (get_or (placed ++ placed_here cell left ∷ []) k d).cell.row ≡ row)
    (length placed)
    (λ j j_lt j_from. rw (get_or_append_left placed (placed_here cell left ∷ []) d j j_lt) (fresh j d j_from j_lt))
    (λ _. rw (get_or_push placed (placed_here cell left) d (length placed) refl) same)
    k (let n = length-append placed (placed_here cell left ∷ []) in omega arith) from

pub stays_more : (old placed : List PlacedCell) (x : PlacedCell) → length old ≤ length placed →
    take (length old) placed ≡ old → take (length old) (placed ++ x ∷ []) ≡ old
stays_more old placed x le stays = take-append-le (length old) placed (x ∷ []) le ∙ stays

pub row_end : (cells : List Cell) (row : ℕ) (covers own : List Cover) (old placed : List PlacedCell)
    (passed trailing : ℕ) → length old ≤ length placed → take (length old) placed ≡ old →
    ((k : ℕ) (d : PlacedCell) → length old ≤ k → k < length placed → (get_or placed k d).cell.row ≡ row) →
    IsInRow cells row covers own placed passed trailing →
    ((d : Cell) → length placed < length cells → (get_or cells (length placed) d).row ≡ row → ⊥) →
    IsAfterRow cells row covers own old placed
row_end cells row covers own old placed passed trailing le stays fresh h over = record {
  within = h.within;
  so_far = h.so_far;
  upper = h.upper;
  bounded = h.bounded;
  over = over;
  farther = le;
  stays = stays;
  fresh = fresh;
  free = h.free;
  taken = h.taken;
  ordered = h.ordered;
  ends = end_weaker own trailing (farthest (length placed)) h.near h.ends;
  apart = h.apart;
  fewer = h.fewer;
  more = h.more;
}
