-- What lowered columns add up to.
use Rattle.std.proofs.Common.{◌≡◌, ◌+◌, ◌-◌, ◌<◌, ◌≤◌, [], ◌∷◌, ◌&&◌, ◌||◌, ◌∙◌, All, Bool, List, add-one, ap, arith}
use Rattle.std.proofs.Common.{cond, false, get_or, length, map, min, nat_eq, nat_le, nat_lt, refl, subst, suc, sum}
use Rattle.std.proofs.Common.{sum_by, take, take_all, true, zero, ℕ}
use Rattle.std.proofs.lemmas.Bool.Decides.{nat_tests}
use Rattle.std.proofs.lemmas.List.Sums.{sum_by-cons, sum_by_more, get_or-le-sum_by}
use Rattle.std.proofs.lemmas.List.{get_or-map}
use Rattle.table_widths.specs.declared.column.ColumnShare.{ColumnShare}
use Rattle.table_widths.specs.Widths.{IsColumnWidths, IsLevel, IsLowered, column_at, equal, filled, is_equal, is_wider}
use Rattle.table_widths.specs.Widths.{least_of, part_at, room_of, separators, share_of, slack_of, wider, width_at}
use Rattle.table_widths.specs.Edges.{IsEdge}
use Rattle.table_widths.proofs.LevelLemmas.{wider-none, edge_past}
use Rattle.table_widths.proofs.RankLemmas.{decides, equal_more}

abbrev pub full_at : ℕ → ColumnShare → ℕ
full_at level c = c.least + part_at level c

is_high : ℕ → ColumnShare → ℕ
is_high level c = cond (nat_le level (slack_of c)) 1 0

wider_more : (level least i : ℕ) (cs : List ColumnShare) → i < length cs →
    wider level least (take (i + 1) cs) ≡ wider level least (take i cs)
    + cond (is_wider level least (column_at cs i)) 1 0
unfolding wider
wider_more level least i cs lt = sum_by_more (λ x. cond (is_wider level least x) 1 0) cs i
    (record { least = 0; share = 0 }) lt

-- one column more: it loses one where it is wider than the edge, or on the edge and some are left
one_more : (high : Bool) (edge least left e : ℕ) →
    cond (high && nat_lt edge least) 1 0 + min left (e + cond (high && nat_eq edge least) 1 0) ≡
    min left e + cond (high && (nat_lt edge least || (nat_eq edge least && nat_lt 0 (left - e)))) 1 0
one_more false edge least left e = omega arith
one_more true edge least left e = grind (arith, nat_tests)

taken : (full b : ℕ) (w : ℕ) → w ≡ full - b → b ≤ full → w + b ≡ full
taken full b w e le = omega arith

-- who loses one has one
has_one : (level less least slack rank : ℕ) → (0 < less → 0 < level) →
    cond (nat_le level slack && nat_lt rank less) 1 0 ≤ least + min slack level
has_one level less least slack rank pos = grind (arith, nat_tests)

abbrev pub loses_at : ℕ → ℕ → List ColumnShare → ℕ → Bool
loses_at level less cs i = nat_le level (slack_of (column_at cs i)) && nat_lt
    (wider level (column_at cs i).least cs + equal level (column_at cs i).least (take i cs)) less

pub width_is : (level less i w : ℕ) (cs : List ColumnShare) → w ≡ width_at level less cs (take i cs) (column_at cs i) →
    w ≡ full_at level (column_at cs i) - cond (loses_at level less cs i) 1 0
unfolding width_at
width_is level less i w cs e = e

-- the first widths, with what they lost
abbrev IsSoFar : ℕ → ℕ → ℕ → List ColumnShare → List ℕ → ℕ → Type 0
IsSoFar level less edge cs ws i =
    sum (take i ws) + wider level edge (take i cs) + min (less - wider level edge cs) (equal level edge (take i cs))
    ≡ sum_by (full_at level) (take i cs)

step : (level less edge : ℕ) (cs : List ColumnShare) (ws : List ℕ) → IsEdge cs level less edge →
    IsLowered cs level less ws → (0 < less → 0 < level) →
    (i : ℕ) → i < length cs → IsSoFar level less edge cs ws i → IsSoFar level less edge cs ws (i + 1)
step level less edge cs ws h low pos i lt so_far =
    let d : ColumnShare = record { least = 0; share = 0 } in
    let c = column_at cs i in
    let same = low.same in
    let s = sum_by_more (λ (x : ℕ). x) ws i 0 (omega arith) in
    let f = sum_by_more (full_at level) cs i d lt in
    let w = wider_more level edge i cs lt in
    let e = equal_more level edge i cs d lt in
    let one = one_more (nat_le level (slack_of c)) edge c.least (less - wider level edge cs)
    (equal level edge (take i cs)) in
    let alike : cond {A = ℕ}
    (nat_le level (slack_of c) &&
    (nat_lt edge c.least ||
    (nat_eq edge c.least && nat_lt 0 (less - wider level edge cs - equal level edge (take i cs))))) 1 0
    ≡ cond {A = ℕ} (loses_at level less cs i) 1 0 =
    ap (λ (b : Bool). cond {A = ℕ} b 1 0) (decides level less edge i cs d h lt) in
    let has = has_one level less c.least (slack_of c) (wider level c.least cs + equal level c.least (take i cs)) pos in
    let width = width_is level less i (get_or ws i 0) cs (low.each i lt) in
    let lost = taken (full_at level c) (cond {A = ℕ} (loses_at level less cs i) 1 0) (get_or ws i 0) width has in
    omega arith

none_yet : (level less edge : ℕ) (cs : List ColumnShare) (ws : List ℕ) → IsSoFar level less edge cs ws 0
unfolding wider equal
none_yet level less edge cs ws = omega arith

pub sum_so_far : (level less edge : ℕ) (cs : List ColumnShare) (ws : List ℕ) → IsEdge cs level less edge →
    IsLowered cs level less ws → (0 < less → 0 < level) →
    (i : ℕ) → i ≤ length cs → IsSoFar level less edge cs ws i
sum_so_far level less edge cs ws h low pos zero le = none_yet level less edge cs ws
sum_so_far level less edge cs ws h low pos (suc i) le =
    subst (λ (n : ℕ). IsSoFar level less edge cs ws n) (add-one i)
    (step level less edge cs ws h low pos i (omega arith)
    (sum_so_far level less edge cs ws h low pos i (omega arith)))

high_count : ℕ → List ColumnShare → ℕ
high_count level cs = sum_by (is_high level) cs

module _ (f g h : ColumnShare → ℕ) where
  sum_of_two : ((c : ColumnShare) → f c ≤ g c + h c) → (cs : List ColumnShare) → sum_by f cs ≤ sum_by g cs + sum_by h cs
  sum_of_two le [] = omega arith
  sum_of_two le (c ∷ cs) =
      let one = le c in let rest = sum_of_two le cs in let a = sum_by-cons f c cs in let b = sum_by-cons g c cs in
      let d = sum_by-cons h c cs in omega arith

split_one : (high : Bool) (edge least : ℕ) → cond (high && nat_lt edge least) 1 0
    ≤ cond (high && nat_lt (edge + 1) least) 1 0 + cond (high && nat_eq (edge + 1) least) 1 0
split_one false edge least = omega arith
split_one true edge least = grind (arith, nat_tests)

wider_split : (level edge : ℕ) (cs : List ColumnShare) →
    wider level edge cs ≤ wider level (edge + 1) cs + equal level (edge + 1) cs
unfolding wider equal
wider_split level edge cs =
    sum_of_two (λ c. cond (is_wider level edge c) 1 0) (λ c. cond (is_wider level (edge + 1) c) 1 0)
    (λ c. cond (is_equal level (edge + 1) c) 1 0)
    (λ c. split_one (nat_le level (slack_of c)) edge c.least) cs

high_one : (high : Bool) (least : ℕ) → cond high 1 0 ≤ cond (high && nat_lt 0 least) 1 0
    + cond (high && nat_eq 0 least) 1 0
high_one false least = omega arith
high_one true least = grind (arith, nat_tests)

high_split : (level : ℕ) (cs : List ColumnShare) → high_count level cs ≤ wider level 0 cs + equal level 0 cs
unfolding wider equal high_count is_high
high_split level cs =
    sum_of_two (is_high level) (λ c. cond (is_wider level 0 c) 1 0) (λ c. cond (is_equal level 0 c) 1 0)
    (λ c. high_one (nat_le level (slack_of c)) c.least) cs

level_one : (level slack : ℕ) → min slack (level + 1) ≤ min slack level + cond (nat_le (level + 1) slack) 1 0
level_one level slack = grind (arith, nat_tests)

filled_step : (level : ℕ) (cs : List ColumnShare) → filled (level + 1) cs ≤ filled level cs + high_count (level + 1) cs
unfolding filled high_count is_high
filled_step level cs = sum_of_two (part_at (level + 1)) (part_at level) (is_high (level + 1))
    (λ c. level_one level (slack_of c)) cs

filled-zero : (cs : List ColumnShare) → filled 0 cs ≡ 0
unfolding filled
filled-zero [] = omega arith
filled-zero (c ∷ cs) = let a = sum_by-cons (part_at 0) c cs in let r = filled-zero cs in let m : part_at 0 c ≡ 0 =
    omega arith in omega arith

-- at least as many columns stand at the level as there is to take
enough_high : (level room : ℕ) (cs : List ColumnShare) → IsLevel cs room level →
    filled level cs - room ≤ high_count level cs
enough_high zero room cs h = let z = filled-zero cs in omega arith
enough_high (suc level) room cs h =
    let s = subst (λ (n : ℕ). filled n cs ≤ filled level cs + high_count n cs) (add-one level) (filled_step level cs) in
    let l = h.least level in grind arith

enough : (level room edge : ℕ) (cs : List ColumnShare) → IsLevel cs room level →
    IsEdge cs level (filled level cs - room) edge →
    filled level cs - room ≤ wider level edge cs + equal level edge cs
enough level room zero cs h e = let a = enough_high level room cs h in let b = high_split level cs in omega arith
enough level room (suc edge) cs h e =
    let s = subst (λ (n : ℕ). wider level edge cs ≤ wider level n cs + equal level n cs) (add-one edge)
    (wider_split level edge cs) in
    let l = e.least edge in grind arith

pub pos_level : (level room : ℕ) (cs : List ColumnShare) → 0 < filled level cs - room → 0 < level
pos_level zero room cs lt = let z = filled-zero cs in absurd (omega arith)
pos_level (suc level) room cs lt = omega arith

full_sum : (level : ℕ) (cs : List ColumnShare) → sum_by (full_at level) cs ≡ sum_by least_of cs + filled level cs
unfolding filled
full_sum level [] = omega arith
full_sum level (c ∷ cs) =
    let a = sum_by-cons (full_at level) c cs in let b = sum_by-cons least_of c cs in let d =
    sum_by-cons (part_at level) c cs in let r = full_sum level cs in omega arith

-- lowered columns fill the room
pub sum_lowered : (level room edge : ℕ) (cs : List ColumnShare) (ws : List ℕ) → IsLevel cs room level →
    IsEdge cs level (filled level cs - room) edge →
    IsLowered cs level (filled level cs - room) ws → sum ws ≡ sum_by least_of cs + room
sum_lowered level room edge cs ws h e low =
    let all = sum_so_far level (filled level cs - room) edge cs ws e low (pos_level level room cs) (length cs)
    (omega arith) in
    let same = low.same in
    let cs-all : take (length cs) cs ≡ cs = take_all (length cs) cs (omega arith) in
    let ws-all : take (length cs) ws ≡ ws = take_all (length cs) ws (omega arith) in
    let less = filled level cs - room in
    let over_cs : sum (take (length cs) ws) + wider level edge cs
    + min (less - wider level edge cs) (equal level edge cs) ≡ sum_by (full_at level) cs =
    subst (λ (xs : List ColumnShare). sum (take (length cs) ws) + wider level edge xs
    + min (less - wider level edge cs) (equal level edge xs) ≡ sum_by (full_at level) xs) cs-all all in
    let whole : sum ws + wider level edge cs + min (less - wider level edge cs) (equal level edge cs)
    ≡ sum_by (full_at level) cs =
    subst (λ (xs : List ℕ). sum xs + wider level edge cs + min (less - wider level edge cs) (equal level edge cs)
    ≡ sum_by (full_at level) cs) ws-all over_cs in
    let f = full_sum level cs in
    let many = enough level room edge cs h e in
    let within = e.within in
    let reaches = h.reaches in
    omega arith

-- there is an edge
record HasEdge (cs : List ColumnShare) (level less : ℕ) : Type 0 where
  edge : ℕ
  is_edge : IsEdge cs level less edge

search_down : (level less : ℕ) (cs : List ColumnShare) (n : ℕ) → wider level n cs ≤ less → HasEdge cs level less
search_down level less cs zero le =
    record { edge = zero; is_edge = record { within = le; least = λ lower _. omega arith } }
search_down level less cs (suc n) le = by (nat_le (wider level n cs) less) refl (search_down level less cs n)
  where
    by : (b : Bool) → nat_le (wider level n cs) less ≡ b → (wider level n cs ≤ less → HasEdge cs level less) →
        HasEdge cs level less
    by true e further = further (grind (arith, nat_tests))
    by false e further = record {
      edge = suc n;
      is_edge = record {
        within = le;
        least = λ lower h. let over : less < wider level n cs =
            grind (arith, nat_tests) in let past = edge_past level less n lower cs over h in omega arith;
      };
    }

has_edge : (level less : ℕ) (cs : List ColumnShare) → HasEdge cs level less
has_edge level less cs =
    search_down level less cs (sum_by least_of cs)
    (let none = wider-none level (sum_by least_of cs) cs (λ i d lt. get_or-le-sum_by least_of cs i d lt) in omega arith)

-- widths of columns that don't fit fill the width exactly
pub sum_law : (cs : List ColumnShare) (width : ℕ) (ws : List ℕ) → sum_by least_of cs + separators cs ≤ width →
    IsColumnWidths cs width ws →
    width < sum_by share_of cs + separators cs → sum ws + separators cs ≡ width
sum_law cs width ws fit h over =
    let cut = h.cut over in
    let has = has_edge cut.level (filled cut.level cs - room_of cs width) cs in
    let s = sum_lowered cut.level (room_of cs width) has.edge cs ws cut.is_level has.is_edge cut.is_lowered in
    omega arith

pub has_part : (level less slack rank : ℕ) → (0 < less → 0 < level) →
    cond (nat_le level slack && nat_lt rank less) 1 0 ≤ min slack level
has_part level less slack rank pos = grind (arith, nat_tests)

between : (c : ColumnShare) (level b w : ℕ) → c.least ≤ c.share → w ≡ full_at level c - b → b ≤ part_at level c →
    (c.least ≤ w) × (w ≤ c.share)
between c level b w le e part = (omega arith, omega arith)

-- each width is at least its least and at most its share
pub bounds_law : (cs : List ColumnShare) (width : ℕ) (ws : List ℕ) → All (λ c. c.least ≤ c.share) cs →
    IsColumnWidths cs width ws →
    (i : ℕ) → i < length cs → ((column_at cs i).least ≤ get_or ws i 0) × (get_or ws i 0 ≤ (column_at cs i).share)
bounds_law cs width ws within h i lt = by (nat_le (sum_by share_of cs + separators cs) width) refl
  where
    d : ColumnShare
    d = record { least = 0; share = 0 }

    one : (column_at cs i).least ≤ (column_at cs i).share
    one = within i d lt

    by : (b : Bool) → nat_le (sum_by share_of cs + separators cs) width ≡ b →
        ((column_at cs i).least ≤ get_or ws i 0) × (get_or ws i 0 ≤ (column_at cs i).share)
    by true e =
        let fits : sum_by share_of cs + separators cs ≤ width = grind (arith, nat_tests) in
        let w : get_or ws i 0 ≡ (column_at cs i).share = ap (λ (xs : List ℕ). get_or xs i 0) (h.fit fits)
        ∙ get_or-map share_of cs i d 0 lt in
        let o = one in (omega arith, omega arith)
    by false e =
        let over : width < sum_by share_of cs + separators cs = grind (arith, nat_tests) in
        let cut = h.cut over in
        let less = filled cut.level cs - room_of cs width in
        between (column_at cs i) cut.level (cond {A = ℕ} (loses_at cut.level less cs i) 1 0) (get_or ws i 0) one
        (width_is cut.level less i (get_or ws i 0) cs (cut.is_lowered.each i lt))
        (has_part cut.level less (slack_of (column_at cs i))
        (wider cut.level (column_at cs i).least cs + equal cut.level (column_at cs i).least (take i cs))
        (pos_level cut.level (room_of cs width) cs))

pub sum_map : (cs : List ColumnShare) → sum (map share_of cs) ≡ sum_by share_of cs
sum_map [] = omega arith
sum_map (c ∷ cs) =
    let rest = sum_map cs in let a = sum_by-cons (λ (x : ℕ). x) c.share (map share_of cs) in
    let b = sum_by-cons share_of c cs in omega arith

-- widths fit the width
pub fit_law : (cs : List ColumnShare) (width : ℕ) (ws : List ℕ) → sum_by least_of cs + separators cs ≤ width →
    IsColumnWidths cs width ws → sum ws + separators cs ≤ width
fit_law cs width ws fit h = by (nat_le (sum_by share_of cs + separators cs) width) refl
  where
    by : (b : Bool) → nat_le (sum_by share_of cs + separators cs) width ≡ b → sum ws + separators cs ≤ width
    by true e =
        let fits : sum_by share_of cs + separators cs ≤ width = grind (arith, nat_tests) in
        let same : sum ws ≡ sum (map share_of cs) = ap (λ (xs : List ℕ). sum xs) (h.fit fits) in
        let all = sum_map cs in omega arith
    by false e =
        let over : width < sum_by share_of cs + separators cs = grind (arith, nat_tests) in
        let whole = sum_law cs width ws fit h over in omega arith
