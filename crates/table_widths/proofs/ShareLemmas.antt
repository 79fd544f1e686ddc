-- Shares in a width, and what a table asks for.
use Rattle.std.proofs.Common.{◌≡◌, ◌+◌, ◌-◌, ◌*◌, ◌/◌, ◌<◌, ◌≤◌, [], ◌∷◌, All, List, arith, length, map, refl, subst}
use Rattle.std.proofs.Common.{sum, sum_by, sym, ℕ}
use Rattle.std.proofs.Math.Nat.{lt_of_mul-lt-mul_right}
use Rattle.std.proofs.lemmas.List.Sums.{sum_by-cons}
use Rattle.std.proofs.lemmas.List.Elements.{All-head, All-tail}
use Rattle.table_grid.specs.declared.columns.Column.{Column}
use Rattle.table_widths.specs.Shares.{AreSized, least_of, least_width, share_of, shares_of, size_of, table_asks}
use Rattle.table_widths.specs.Shares.{total_of}
use Rattle.table_widths.proofs.FitLemmas.{total_some, no_column, least_share}

leasts_less : (cs : List Column) → All (λ c. c.least ≤ c.size) cs → sum_by least_of cs ≤ sum_by size_of cs
leasts_less [] h = omega arith
leasts_less (c ∷ cs) h =
    let here = All-head (λ c. c.least ≤ c.size) c cs h in let rest =
    leasts_less cs (All-tail (λ c. c.least ≤ c.size) c cs h) in
    let a = sum_by-cons least_of c cs in let b = sum_by-cons size_of c cs in omega arith

pub table_within : (columns : List Column) → All (λ c. c.least ≤ c.size) columns →
    (table_asks columns).least ≤ (table_asks columns).size
table_within columns h = let a = leasts_less columns h in omega arith

pub share_between : (columns : List Column) (width : ℕ) (c : Column) → c.least ≤ c.size →
    (c.least ≤ share_of width (total_of columns) c) × (share_of width (total_of columns) c ≤ c.size)
share_between columns width c le = (least_share c width (total_of columns) le, omega arith)

-- the shares pass the width by at most the width
div_mul : (a b : ℕ) → 0 < b → a / b * b ≤ a
div_mul a b some = omega arith

both : (x s y t total width : ℕ) → x * total ≤ y * width → s * total ≤ t * width → (x + s) * total ≤ (y + t) * width
both x s y t total width p q = grind arith

parts : (total width : ℕ) (cs : List Column) → 0 < total →
    sum_by (λ c. c.size * width / total) cs * total ≤ sum_by size_of cs * width
parts total width [] some = omega arith
parts total width (c ∷ cs) some =
    rw (sum_by-cons (λ c. c.size * width / total) c cs, sum_by-cons size_of c cs)
    (both (c.size * width / total) (sum_by (λ c. c.size * width / total) cs) c.size (sum_by size_of cs) total width
    (div_mul (c.size * width) total some) (parts total width cs some))

cancel : (a total width : ℕ) → 0 < total → a * total ≤ total * width → a ≤ width
cancel a total width some le = let h : a < width + 1 = lt_of_mul-lt-mul_right total (grind arith) in omega arith

shares_less : (total width : ℕ) (cs : List Column) → sum_by (share_of width total) cs
    ≤ sum_by (λ c. c.size * width / total) cs + sum_by least_of cs
shares_less total width [] = omega arith
shares_less total width (c ∷ cs) =
    let rest = shares_less total width cs in
    let a = sum_by-cons (share_of width total) c cs in
    let b = sum_by-cons (λ c. c.size * width / total) c cs in
    let d = sum_by-cons least_of c cs in
    omega arith

pub shares_law : (cs : List Column) (width total : ℕ) → 0 < total → total ≡ sum_by size_of cs → least_width cs ≤ width →
    sum_by (share_of width total) cs + (length cs - 1) ≤ width + width
shares_law cs width total some e fit =
    let less = shares_less total width cs in
    let part = cancel (sum_by (λ c. c.size * width / total) cs) total width some
    (subst (λ (n : ℕ). sum_by (λ c. c.size * width / total) cs * total ≤ n * width) (sym e)
    (parts total width cs some)) in
    omega arith

sum_map : (f : Column → ℕ) (cs : List Column) → sum (map f cs) ≡ sum_by f cs
sum_map f [] = omega arith
sum_map f (c ∷ cs) = let rest = sum_map f cs in let a = sum_by-cons (λ (x : ℕ). x) (f c) (map f cs) in let b =
    sum_by-cons f c cs in omega arith

pub shares_bounded : (cs : List Column) (width : ℕ) → 0 < length cs → AreSized cs → least_width cs ≤ width →
    sum (shares_of cs width) + (length cs - 1) ≤ width + width
shares_bounded cs width some h fit =
    let total = total_some cs 0 no_column h some in
    let law = shares_law cs width (total_of cs) total refl fit in
    let same = sum_map (share_of width (total_of cs)) cs in
    omega arith
