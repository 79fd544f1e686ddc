-- Which columns lose one.
use Rattle.std.proofs.Common.{◌≡◌, ◌+◌, ◌-◌, ◌<◌, ◌≤◌, [], ◌∷◌, ◌&&◌, ◌||◌, ◌∙◌, if◌then◌else◌, Bool, List, ap, arith}
use Rattle.std.proofs.Common.{cond, false, get_or, length, nat_eq, nat_le, nat_lt, refl, sym, take, true, ℕ}
use Rattle.std.proofs.lemmas.Bool.Decides.{nat_tests}
use Rattle.std.proofs.lemmas.List.Sums.{sum_by-cons, sum_by_more, sum_by-take-le}
use Rattle.table_widths.specs.declared.column.ColumnShare.{ColumnShare}
use Rattle.table_widths.specs.Widths.{slack_of, is_wider, is_equal, wider, equal, part_at, width_at, column_at}
use Rattle.table_widths.specs.Edges.{IsEdge}

-- the equally wide ones and the wider ones are among the wider ones of a lesser least
one_of_both : (level low high : ℕ) (c : ColumnShare) → low < high →
    cond (is_wider level high c) 1 0 + cond (is_equal level high c) 1 0 ≤ cond (is_wider level low c) 1 0
one_of_both level low high c lt = grind (arith, nat_tests)

pub both : (level low high : ℕ) (cs : List ColumnShare) → low < high →
    wider level high cs + equal level high cs ≤ wider level low cs
unfolding wider equal
both level low high [] lt = omega arith
both level low high (c ∷ cs) lt =
    let a = sum_by-cons (λ x. cond (is_wider level high x) 1 0) c cs in
    let b = sum_by-cons (λ x. cond (is_equal level high x) 1 0) c cs in
    let w = sum_by-cons (λ x. cond (is_wider level low x) 1 0) c cs in
    let one = one_of_both level low high c lt in
    let rest = both level low high cs lt in
    omega arith

-- a column at the level is one of those as wide as itself
is_itself : (level : ℕ) (c : ColumnShare) → nat_le level (slack_of c) ≡ true → is_equal level c.least c ≡ true
is_itself level c e = grind arith

pub equal_more : (level least i : ℕ) (cs : List ColumnShare) (d : ColumnShare) → i < length cs →
    equal level least (take (i + 1) cs) ≡ equal level least (take i cs)
    + cond (is_equal level least (get_or cs i d)) 1 0
unfolding equal
equal_more level least i cs d lt = sum_by_more (λ x. cond (is_equal level least x) 1 0) cs i d lt

pub equal_take : (level least i : ℕ) (cs : List ColumnShare) → equal level least (take i cs) ≤ equal level least cs
unfolding equal
equal_take level least i cs = sum_by-take-le (λ x. cond (is_equal level least x) 1 0) cs i

-- one that is wider than the edge loses
pub wide_loses : (level less edge i : ℕ) (cs : List ColumnShare) (d : ColumnShare) → IsEdge cs level less edge →
    i < length cs →
    nat_le level (slack_of (get_or cs i d)) ≡ true → edge < (get_or cs i d).least →
    wider level (get_or cs i d).least cs + equal level (get_or cs i d).least (take i cs) < less
wide_loses level less edge i cs d h lt high over =
    let c = get_or cs i d in
    let a = both level edge c.least cs over in
    let b = equal_more level c.least i cs d lt in
    let one : cond {A = ℕ} (is_equal level c.least c) 1 0 ≡ 1 =
    ap (λ (b : Bool). cond {A = ℕ} b 1 0) (is_itself level c high) in
    let t = equal_take level c.least (i + 1) cs in
    let w = h.within in
    omega arith

-- one that is less wide doesn't
pub narrow_stays : (level less edge least : ℕ) (cs before : List ColumnShare) → IsEdge cs level less edge →
    least < edge →
    less ≤ wider level least cs + equal level least before
narrow_stays level less edge least cs before h lt = grind (arith, h.least least)

by_order : (edge least rank less w e : ℕ) → (edge < least → rank < less) → (least < edge → less ≤ rank) →
    (edge ≡ least → rank ≡ w + e) →
    (nat_lt edge least || (nat_eq edge least && nat_lt 0 (less - w - e))) ≡ nat_lt rank less
by_order edge least rank less w e over under same = grind (arith, nat_tests)

if_high : (high a b : Bool) → (high ≡ true → a ≡ b) → (high && a) ≡ (high && b)
if_high false a b h = refl
if_high true a b h = h refl

pub decides : (level less edge i : ℕ) (cs : List ColumnShare) (d : ColumnShare) → IsEdge cs level less edge →
    i < length cs →
    (nat_le level (slack_of (get_or cs i d)) &&
    (nat_lt edge (get_or cs i d).least ||
    (nat_eq edge (get_or cs i d).least && nat_lt 0
    (less - wider level edge cs - equal level edge (take i cs))))) ≡
    (nat_le level (slack_of (get_or cs i d)) && nat_lt
    (wider level (get_or cs i d).least cs + equal level (get_or cs i d).least (take i cs)) less)
decides level less edge i cs d h lt =
    let c = get_or cs i d in
    if_high (nat_le level (slack_of c)) _ _ (λ high.
    by_order edge c.least (wider level c.least cs + equal level c.least (take i cs)) less (wider level edge cs)
    (equal level edge (take i cs))
    (λ over. wide_loses level less edge i cs d h lt high over)
    (λ under. narrow_stays level less edge c.least cs (take i cs) h under)
    (λ e. ap (λ (n : ℕ). wider level n cs + equal level n (take i cs)) (sym e)))

pub width_here : (level less edge i left w : ℕ) (loses : Bool) (cs : List ColumnShare) → IsEdge cs level less edge →
    i < length cs →
    left ≡ less - wider level edge cs - equal level edge (take i cs) →
    loses
    ≡ (nat_le level (slack_of (column_at cs i)) &&
    (nat_lt edge (column_at cs i).least || (nat_eq edge (column_at cs i).least && nat_lt 0 left))) →
    w ≡ (column_at cs i).least + part_at level (column_at cs i) - (if loses then 1 else 0) →
    w ≡ width_at level less cs (take i cs) (column_at cs i)
unfolding width_at
width_here level less edge i left w loses cs h lt left-is loses-is w-is =
    let d : ColumnShare = record { least = 0; share = 0 } in
    let c = column_at cs i in
    let e = rw left-is at loses-is in
    w-is ∙ ap (λ (b : Bool). c.least + part_at level c - (if b then 1 else 0)) (e ∙ decides level less edge i cs d h lt)

pub left_here : (level less edge i left new : ℕ) (cs : List ColumnShare) → i < length cs →
    left ≡ less - wider level edge cs - equal level edge (take i cs) →
    new ≡ left - cond (is_equal level edge (column_at cs i)) 1 0 →
    new ≡ less - wider level edge cs - equal level edge (take (i + 1) cs)
left_here level less edge i left new cs lt left-is new-is =
    let e = equal_more level edge i cs (record { least = 0; share = 0 }) lt in omega arith
