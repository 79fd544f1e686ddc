-- Rows and cells among nodes, in one pass.
use Rattle.std.proofs.Common.{◌≡◌, ◌+◌, ◌≤◌, if◌then◌else◌, [], ◌∷◌, ◌++◌, ◌∙◌, Bool, List, ap, append-nil}
use Rattle.std.proofs.Common.{append_assoc, arith, cond, drop, false, filter, get_or, length, length-drop, map, max}
use Rattle.std.proofs.Common.{nat_lt, refl, subst, suc, sym, true, ℕ}
use Rattle.std.proofs.lemmas.List.{map-append}
use Rattle.render_values.specs.Arena.{IsFlat, trailing, first, values_of}
use Rattle.render_values.specs.Values.{Values, joined, none, value}
use Rattle.render_values.specs.declared.info.RenderInfo.{RenderInfo}
use Rattle.render_values.specs.declared.info.RenderInfo.TheVariants as infos
use Rattle.render_values.specs.declared.node.RenderNode.{RenderNode}
use Rattle.render_values.proofs.ArenaLemmas.{below_fits, flat_drop, flat_rest, next_values}
use Rattle.render_sizes.specs.Extents.{Measure, cells_by, extent_by, extent_of, extents, in_rows, lowered, measured}
use Rattle.render_sizes.specs.Extents.{number, rows_by}
use Rattle.render_sizes.specs.RowCells.{cells_emitted, rows_emitted, skipped}
use Rattle.render_sizes.specs.Sound.{AreTableCells}
use Rattle.render_sizes.specs.declared.extent.Extent.{Extent}
use Rattle.render_sizes.proofs.ExtentLemmas.{left_after, left_is, next_extents, rest_values}
use Rattle.table_grid.specs.declared.cell.Cell.{Cell}

-- the cells that stand in rows, where so many rows came before
abbrev pub counted : ℕ → List Cell → List Cell
counted n cells = filter (λ c. nat_lt 0 c.row) (map (lowered n) cells)

from_first : (n : ℕ) → 0 + n ≡ n
from_first n = omega arith

none_on : (n : ℕ) → n ≡ n + 0
none_on n = omega arith

on : (a b c : ℕ) → a + (b + c) ≡ a + b + c
on a b c = omega arith

lowered_none : (cells : List Cell) → map (lowered 0) cells ≡ cells
lowered_none [] = refl
lowered_none (c ∷ cells) =
    ap (λ r. record { row = r; colspan = c.colspan; rowspan = c.rowspan; size = c.size; least = c.least }
    ∷ map (lowered 0) cells) (from_first c.row)
    ∙ ap (λ l. c ∷ l) (lowered_none cells)

lowered_twice : (a b : ℕ) (cells : List Cell) → map (lowered a) (map (lowered b) cells) ≡ map (lowered (a + b)) cells
lowered_twice a b [] = refl
lowered_twice a b (c ∷ cells) =
    ap (λ r. record { row = r; colspan = c.colspan; rowspan = c.rowspan; size = c.size; least = c.least }
    ∷ map (lowered a) (map (lowered b) cells)) (on a b c.row)
    ∙ ap (λ l. lowered (a + b) c ∷ l) (lowered_twice a b cells)

-- cells, and those of values side by side after them
then_cells : (a b w all : List Cell) (n r : ℕ) → all ≡ b ++ map (lowered r) w
    → a ++ map (lowered n) all ≡ (a ++ map (lowered n) b) ++ map (lowered (n + r)) w
then_cells a b w all n r e =
    ap (λ l. a ++ map (lowered n) l) e
    ∙ (ap (λ l. a ++ l) (map-append (lowered n) b (map (lowered r) w)
    ∙ ap (λ l. map (lowered n) b ++ l) (lowered_twice n r w))
    ∙ sym (append_assoc a (map (lowered n) b) (map (lowered (n + r)) w)))

rows_joined : (m : Measure) (vs ws : Values)
    → (measured m (joined vs ws)).rows ≡ (measured m vs).rows + (measured m ws).rows
rows_joined m none ws = sym (from_first (measured m ws).rows)
rows_joined m (value head inside rest) ws =
    let here = rows_by head.info (measured m inside) in
    ap (λ n. here + n) (rows_joined m rest ws) ∙ on here (measured m rest).rows (measured m ws).rows

cells_joined : (m : Measure) (vs ws : Values)
    → (measured m (joined vs ws)).cells
    ≡ (measured m vs).cells ++ map (lowered (measured m vs).rows) (measured m ws).cells
cells_joined m none ws = sym (lowered_none (measured m ws).cells)
cells_joined m (value head inside rest) ws =
    then_cells (cells_by head.info (measured m inside)) (measured m rest).cells (measured m ws).cells
    (measured m (joined rest ws)).cells (rows_by head.info (measured m inside)) (measured m rest).rows
    (cells_joined m rest ws)

-- ---- a value is passed

-- what comes next
abbrev pub later : RenderInfo → (inside rest : Values) → Values
later infos.TableGroup inside rest = joined inside rest
later infos.TableRow inside rest = joined inside rest
later _ inside rest = rest

rows_on : (m : Measure) (info : RenderInfo) (inside rest : Values) (n : ℕ)
    → n + (rows_by info (measured m inside) + (measured m rest).rows)
    ≡ (n + rows_emitted info) + (measured m (later info inside rest)).rows
rows_on m infos.TableGroup inside rest n = let e = rows_joined m inside rest in omega arith
rows_on m infos.TableRow inside rest n = let e = rows_joined m inside rest in omega arith
rows_on m _ inside rest n = on n 0 (measured m rest).rows

one_cell : (b : Bool) (c : Cell) (cells : List Cell)
    → cond b (c ∷ cells) cells ≡ (if b then c ∷ [] else []) ++ cells
one_cell true c cells = refl
one_cell false c cells = refl

next_row : (i : ℕ) → suc i ≡ 1 + i
next_row i = omega arith

cells_on : (m : Measure) (info : RenderInfo) (inside rest : Values) (n : ℕ)
    → counted n (cells_by info (measured m inside)
    ++ map (lowered (rows_by info (measured m inside))) (measured m rest).cells)
    ≡ cells_emitted info (extent_by m info (measured m inside) (number inside)) (n + rows_emitted info)
    ++ counted (n + rows_emitted info) (measured m (later info inside rest)).cells
cells_on m infos.TableGroup inside rest n =
    let whole = (measured m (joined inside rest)).cells in
    ap (counted n) (sym (cells_joined m inside rest)) ∙ ap (λ k. counted k whole) (none_on n)
cells_on m infos.TableRow inside rest n =
    let i = (measured m inside).cells in
    let r = (measured m rest).cells in
    let whole = (measured m (joined inside rest)).cells in
    ap (λ k. counted n (map (lowered 1) i ++ map (lowered k) r)) (next_row (measured m inside).rows)
    ∙ (ap (counted n) (sym (then_cells [] i r whole 1 (measured m inside).rows (cells_joined m inside rest)))
    ∙ ap (filter (λ (c : Cell). nat_lt 0 c.row)) (lowered_twice n 1 whole))
cells_on m (infos.TableCell columns taken) inside rest n =
    let here : Cell = record {
      row = n + 0;
      colspan = max columns 1;
      rowspan = max taken 1;
      size = (measured m inside).extent.size;
      least = (measured m inside).extent.least;
    } in
    ap (λ l. filter (λ (c : Cell). nat_lt 0 c.row) (here ∷ l)) (lowered_twice n 0 (measured m rest).cells)
    ∙ one_cell (nat_lt 0 (n + 0)) here (counted (n + 0) (measured m rest).cells)
cells_on m _ inside rest n =
    ap (filter (λ (c : Cell). nat_lt 0 c.row)) (lowered_twice n 0 (measured m rest).cells)

-- ---- nodes

pub skipped_fits : (info : RenderInfo) (n : ℕ) → skipped info n ≤ n
skipped_fits infos.TableGroup n = omega arith
skipped_fits infos.TableRow n = omega arith
skipped_fits _ n = omega arith

rows_few : (info : RenderInfo) → rows_emitted info ≤ 1
rows_few infos.TableRow = omega arith
rows_few _ = omega arith

later_values : (x : RenderNode) (xs : List RenderNode) → IsFlat (x ∷ xs)
    → values_of (drop (skipped x.head.info x.below) xs)
    ≡ later x.head.info (first x.below (values_of xs)) (trailing x.below (values_of xs))
later_values x xs h = by x.head.info
  where
    by : (info : RenderInfo) → values_of (drop (skipped info x.below) xs)
        ≡ later info (first x.below (values_of xs)) (trailing x.below (values_of xs))
    by infos.TableGroup = sym (rest_values x xs h)
    by infos.TableRow = sym (rest_values x xs h)
    by _ = next_values x xs h

later_extents : (m : Measure) (x : RenderNode) (xs : List RenderNode) (es : List Extent) → IsFlat (x ∷ xs)
    → es ≡ extents m (values_of xs)
    → drop (skipped x.head.info x.below) es ≡ extents m (values_of (drop (skipped x.head.info x.below) xs))
later_extents m x xs es h same = by x.head.info
  where
    by : (info : RenderInfo) → drop (skipped info x.below) es
        ≡ extents m (values_of (drop (skipped info x.below) xs))
    by infos.TableGroup = same
    by infos.TableRow = same
    by _ = next_extents m x xs es h same

-- ---- the pass

-- What was emitted of the nodes before, and what the rest still emits.
pub record IsEmitted (m : Measure) (nodes rest : List RenderNode) (left : List Extent) (cells : List Cell) (rows : ℕ)
    : Type 0 where
  pub sized : left ≡ extents m (values_of rest)
  pub emitted : cells ++ counted rows (measured m (values_of rest)).cells ≡ in_rows (measured m (values_of nodes))
  pub begun : rows + (measured m (values_of rest)).rows ≡ (measured m (values_of nodes)).rows

pub emitted_first : (m : Measure) (nodes : List RenderNode) (es : List Extent) → es ≡ extents m (values_of nodes)
    → IsEmitted m nodes nodes es [] 0
emitted_first m nodes es same = record {
  sized = same;
  emitted = ap (filter (λ (c : Cell). nat_lt 0 c.row)) (lowered_none (measured m (values_of nodes)).cells);
  begun = from_first (measured m (values_of nodes)).rows;
}

pub emitted_on : (m : Measure) (nodes rest : List RenderNode) (x : RenderNode) (xs : List RenderNode)
    (left : List Extent) (d : Extent) (cells more : List Cell) (rows new begun : ℕ) (later_nodes : List RenderNode)
    (later_left : List Extent) → rest ≡ x ∷ xs → IsFlat rest → begun ≡ rows_emitted x.head.info → new ≡ rows + begun
    → more ≡ cells ++ cells_emitted x.head.info (get_or left 0 d) new
    → later_nodes ≡ drop (skipped x.head.info x.below) xs
    → later_left ≡ drop (skipped x.head.info x.below) (drop 1 left)
    → IsEmitted m nodes rest left cells rows → IsEmitted m nodes later_nodes later_left more new
emitted_on m nodes rest x xs left d cells more rows new begun later_nodes later_left e h emitted_rows is pushed nodes_are
    left_is_now was =
    let info = x.head.info in
    let inside = first x.below (values_of xs) in
    let others = trailing x.below (values_of xs) in
    let flat_here : IsFlat (x ∷ xs) = subst IsFlat e h in
    let new_is : new ≡ rows + rows_emitted info = is ∙ ap (λ b. rows + b) emitted_rows in
    let here : get_or left 0 d ≡ extent_of m x.head inside =
    ap (λ l. get_or l 0 d) (left_is m rest x xs left e h was.sized) in
    let values_are : values_of later_nodes ≡ later info inside others =
    ap values_of nodes_are ∙ later_values x xs flat_here in
    record {
      sized = left_is_now ∙ (later_extents m x xs (drop 1 left) flat_here (left_after m rest x xs left e h was.sized)
          ∙ ap (λ l. extents m (values_of l)) (sym nodes_are));
      emitted = ap (λ v. more ++ counted new (measured m v).cells) values_are
          ∙ (ap (λ l. l ++ counted new (measured m (later info inside others)).cells)
          (pushed ∙ ap (λ o. cells ++ cells_emitted info o new) here)
          ∙ (ap (λ k. (cells ++ cells_emitted info (extent_of m x.head inside) k)
          ++ counted k (measured m (later info inside others)).cells) new_is
          ∙ (append_assoc cells (cells_emitted info (extent_of m x.head inside) (rows + rows_emitted info))
          (counted (rows + rows_emitted info) (measured m (later info inside others)).cells)
          ∙ (ap (λ l. cells ++ l) (sym (cells_on m info inside others rows))
          ∙ (ap (λ l. cells ++ counted rows (measured m (values_of l)).cells) (sym e) ∙ was.emitted)))));
      begun = ap (λ v. new + (measured m v).rows) values_are
          ∙ (ap (λ k. k + (measured m (later info inside others)).rows) new_is
          ∙ (sym (rows_on m info inside others rows)
          ∙ (ap (λ l. rows + (measured m (values_of l)).rows) (sym e) ∙ was.begun)));
    }

pub emitted_last : (m : Measure) (nodes rest : List RenderNode) (left : List Extent) (cells : List Cell) (rows : ℕ)
    → length rest ≡ 0 → IsEmitted m nodes rest left cells rows
    → (cells ≡ in_rows (measured m (values_of nodes))) × (rows ≡ (measured m (values_of nodes)).rows)
emitted_last m nodes [] left cells rows alone was = (sym (append-nil cells) ∙ was.emitted, none_on rows ∙ was.begun)
emitted_last m nodes (x ∷ xs) left cells rows alone was = absurd (omega arith)

-- there is room for what begins later
pub room_after : (rest : List RenderNode) (x : RenderNode) (xs : List RenderNode) (rows new begun most n : ℕ)
    (later_nodes : List RenderNode) → rest ≡ x ∷ xs → begun ≡ rows_emitted x.head.info → new ≡ rows + begun
    → later_nodes ≡ drop n xs → rows + length rest ≤ most → new + length later_nodes ≤ most
room_after rest x xs rows new begun most n later_nodes e emitted is nodes_are room =
    let a = ap length e in
    let b = rows_few x.head.info in
    let c = ap length nodes_are ∙ length-drop n xs in
    omega arith

pub skip_fits : (rest : List RenderNode) (x : RenderNode) (xs : List RenderNode) (n : ℕ) → rest ≡ x ∷ xs
    → IsFlat rest → n ≡ skipped x.head.info x.below → n ≤ length xs
skip_fits rest x xs n e h is =
    let a = skipped_fits x.head.info x.below in
    let b = below_fits x xs (subst IsFlat e h) in
    omega arith

pub left_fits : (rest : List RenderNode) (x : RenderNode) (xs : List RenderNode) (left next : List Extent) (n : ℕ)
    → rest ≡ x ∷ xs → IsFlat rest → n ≡ skipped x.head.info x.below → length left ≡ length rest
    → next ≡ drop 1 left → n ≤ length next
left_fits rest x xs left next n e h is size next_is =
    let a = skip_fits rest x xs n e h is in
    let b = ap length next_is ∙ length-drop 1 left in
    let c = ap length e in
    omega arith

pub sizes_after : (rest : List RenderNode) (x : RenderNode) (xs : List RenderNode) (left next later_left : List Extent)
    (n : ℕ) (later_nodes : List RenderNode) → rest ≡ x ∷ xs → length left ≡ length rest → next ≡ drop 1 left
    → later_left ≡ drop n next → later_nodes ≡ drop n xs → length later_left ≡ length later_nodes
sizes_after rest x xs left next later_left n later_nodes e size next_is left_is_now nodes_are =
    let a = ap length next_is ∙ length-drop 1 left in
    let b = ap length left_is_now ∙ length-drop n next in
    let c = ap length nodes_are ∙ length-drop n xs in
    let d = ap length e in
    omega arith

pub flat_after : (rest : List RenderNode) (x : RenderNode) (xs : List RenderNode) (n : ℕ)
    (later_nodes : List RenderNode) → rest ≡ x ∷ xs → IsFlat rest → later_nodes ≡ drop n xs → IsFlat later_nodes
flat_after rest x xs n later_nodes e h nodes_are =
    subst IsFlat (sym nodes_are) (flat_drop n xs (flat_rest x xs (subst IsFlat e h)))

-- the cells that were emitted are what a grid asks for
pub emitted_cells : (m : Measure) (vs : Values) (cells shown : List Cell) → shown ≡ cells → cells ≡ in_rows (measured m vs)
    → AreTableCells (in_rows (measured m vs)) (measured m vs).rows → AreTableCells shown (measured m vs).rows
emitted_cells m vs cells shown is emitted h =
    subst (λ l. AreTableCells l (measured m vs).rows) (sym (is ∙ emitted)) h
