-- What columns take at a level rises with the level, and at the level of the room they take up the room.
use Rattle.std.proofs.Common.{◌≡◌, ◌+◌, ◌-◌, ◌<◌, ◌≤◌, [], ◌∷◌, All, Bool, List, ap, arith, cond, false, get_or, length}
use Rattle.std.proofs.Common.{refl, suc, sum_by, true, zero, ℕ}
use Rattle.std.proofs.lemmas.List.Sums.{sum_by-cons}
use Rattle.std.proofs.lemmas.List.Elements.{All-head, All-tail}
use Rattle.table_widths.specs.declared.column.ColumnShare.{ColumnShare}
use Rattle.table_widths.specs.Widths.{slack_of, part_at, filled, is_wider, wider, least_of, share_of}

module _ {X : Type 0} (f g : X → ℕ) where
  pub sum_by_rises : ((x : X) → f x ≤ g x) → (xs : List X) → sum_by f xs ≤ sum_by g xs
  sum_by_rises le [] = omega arith
  sum_by_rises le (x ∷ xs) =
      let one = le x in let rest = sum_by_rises le xs in let a = sum_by-cons f x xs in let b = sum_by-cons g x xs in
      omega arith

pub filled_rises : (low high : ℕ) (cs : List ColumnShare) → low ≤ high → filled low cs ≤ filled high cs
unfolding filled
filled_rises low high cs le = sum_by_rises (part_at low) (part_at high) (λ c. omega arith) cs

pub filled-room : (room : ℕ) (cs : List ColumnShare) → room ≤ sum_by slack_of cs → room ≤ filled room cs
unfolding filled
filled-room room [] le = omega arith
filled-room room (c ∷ cs) le =
    let a = sum_by-cons slack_of c cs in let b = sum_by-cons (part_at room) c cs in
    let short : room - slack_of c ≤ sum_by slack_of cs = omega arith in
    let rest = filled-room (room - slack_of c) cs short in
    let more : sum_by (part_at (room - slack_of c)) cs ≤ sum_by (part_at room) cs =
    sum_by_rises (part_at (room - slack_of c)) (part_at room) (λ d. omega arith) cs in
    omega arith

-- a test that is met more often
implied : (a b : Bool) → (a ≡ true → b ≡ true) → cond a 1 0 ≤ cond b 1 0
implied false b h = omega arith
implied true true h = omega arith
implied true false h = let e : false ≡ true = h refl in cc

wider_one : (level low high : ℕ) (c : ColumnShare) → low ≤ high → is_wider level high c ≡ true →
    is_wider level low c ≡ true
wider_one level low high c le h = grind arith

pub wider_falls : (level low high : ℕ) (cs : List ColumnShare) → low ≤ high → wider level high cs ≤ wider level low cs
unfolding wider
wider_falls level low high cs le =
    sum_by_rises (λ c. cond (is_wider level high c) 1 0) (λ c. cond (is_wider level low c) 1 0)
    (λ c. implied (is_wider level high c) (is_wider level low c) (wider_one level low high c le)) cs

pub level_past : (room middle lower : ℕ) (cs : List ColumnShare) → filled middle cs < room → room ≤ filled lower cs →
    middle + 1 ≤ lower
level_past room middle lower cs under reaches = grind (arith, filled_rises lower middle cs)

pub edge_past : (level less middle lower : ℕ) (cs : List ColumnShare) → less < wider level middle cs →
    wider level lower cs ≤ less → middle + 1 ≤ lower
edge_past level less middle lower cs over within = grind (arith, wider_falls level lower middle cs)

not_wider : (level most : ℕ) (c : ColumnShare) → c.least ≤ most → is_wider level most c ≡ false
not_wider level most c le = grind arith

pub wider-none : (level most : ℕ) (cs : List ColumnShare) →
    ((i : ℕ) (d : ColumnShare) → i < length cs → (get_or cs i d).least ≤ most) → wider level most cs ≡ 0
unfolding wider
wider-none level most [] h = omega arith
wider-none level most (c ∷ cs) h =
    let first : c.least ≤ most = h zero c (omega arith) in
    let e = sum_by-cons (λ x. cond (is_wider level most x) 1 0) c cs in
    let no : cond {A = ℕ} (is_wider level most c) 1 0 ≡ 0 =
    ap (λ (b : Bool). cond {A = ℕ} b 1 0) (not_wider level most c first) in
    let rest = wider-none level most cs (λ i d lt. h (suc i) d (omega arith)) in
    omega arith

-- leasts and slacks make the shares
pub least_and_slack : (cs : List ColumnShare) → All (λ c. c.least ≤ c.share) cs →
    sum_by least_of cs + sum_by slack_of cs ≡ sum_by share_of cs
least_and_slack [] h = omega arith
least_and_slack (c ∷ cs) h =
    let one : c.least ≤ c.share = All-head (λ (x : ColumnShare). x.least ≤ x.share) c cs h in
    let rest = least_and_slack cs (All-tail (λ (x : ColumnShare). x.least ≤ x.share) c cs h) in
    let a = sum_by-cons least_of c cs in let b = sum_by-cons slack_of c cs in let w = sum_by-cons share_of c cs in
    omega arith
