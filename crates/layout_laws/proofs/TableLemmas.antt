-- Tables among values are sound.
use Rattle.std.proofs.Common.{◌≡◌, ℕ, inl, inr, Bool, true, false, cond, List, [], ◌∷◌, filter, map, refl, arith}
use Rattle.std.specs.List.{AllByRecursion, range_with_len, zip}
use Rattle.std.proofs.lemmas.Bool.Decides.{nat_tests}
use Rattle.table_grid.specs.TheGrid.{TheGrid, grid}
use Rattle.table_grid.specs.declared.grid.GridCell.{GridCell}
use Rattle.table_grid.specs.declared.grid.GridGap.{GridGap}
use Rattle.table_grid.specs.declared.cell.Cell.{Cell}
use Rattle.table_widths.specs.RowLaws.{AreWholeRows}
use Rattle.table_widths.specs.Slots.{cell_slot, gap_slot, is_cell_of, is_gap_of, no_table, slots_of}
use Rattle.render_sizes.specs.Extents.{Measure, in_rows, measured, table_in}
use Rattle.render_values.specs.Values.{Values}
use Rattle.render_values.specs.declared.info.RenderInfo.{RenderInfo}
use Rattle.render_values.specs.declared.info.RenderInfo.TheVariants as infos
use Rattle.layout_values.specs.Lay.{table_of}
use Rattle.layout_laws.proofs.MergedLemmas.{each_merged, merging}
use Rattle.layout_laws.proofs.SlotLemmas.{IsFull}
use Rattle.layout_laws.proofs.TableStates.{IsSoundTable}

cells_full : (cells : List (Cell × GridCell)) → AllByRecursion IsFull (map cell_slot cells)
cells_full [] = tt
cells_full (c ∷ cells) = (inl refl, cells_full cells)

gaps_full : (row : ℕ) (gaps : List GridGap) → AllByRecursion IsFull (map gap_slot (filter (is_gap_of row) gaps))
gaps_full row [] = tt
gaps_full row (g ∷ gaps) = by (is_gap_of row g) refl (gaps_full row gaps)
  where
    by : (b : Bool) → is_gap_of row g ≡ b → AllByRecursion IsFull (map gap_slot (filter (is_gap_of row) gaps))
        → AllByRecursion IsFull (map gap_slot (cond b (g ∷ filter (is_gap_of row) gaps) (filter (is_gap_of row) gaps)))
    by true e rest = (inr (grind (arith, nat_tests)), rest)
    by false e rest = rest

rows_full : (cells : List Cell) (g : TheGrid) (numbers : List ℕ)
    → AllByRecursion (λ row. AllByRecursion IsFull row) (map (slots_of cells g) numbers)
rows_full cells g [] = tt
rows_full cells g (row ∷ numbers) = (
  each_merged IsFull
      (merging (map cell_slot (filter (is_cell_of row) (zip cells g.cells)))
      (map gap_slot (filter (is_gap_of row) g.gaps)))
      (cells_full (filter (is_cell_of row) (zip cells g.cells))) (gaps_full row g.gaps),
  rows_full cells g numbers,
)

no_rows : IsSoundTable no_table
no_rows = record { whole = λ k d lt. absurd (omega arith); full = tt }

-- by the law of tables
pub table_sound : (w : Measure) → ((w : Measure) (values : Values) → AreWholeRows (table_in w values))
    → (info : RenderInfo) (inside : Values) → IsSoundTable (table_of w info inside)
table_sound w whole infos.Nothing inside = no_rows
table_sound w whole (infos.Text cs) inside = no_rows
table_sound w whole (infos.Image source title) inside = no_rows
table_sound w whole infos.Break inside = no_rows
table_sound w whole infos.Rule inside = no_rows
table_sound w whole infos.Container inside = no_rows
table_sound w whole (infos.Link target) inside = no_rows
table_sound w whole infos.Emphasis inside = no_rows
table_sound w whole infos.Strong inside = no_rows
table_sound w whole infos.Strikeout inside = no_rows
table_sound w whole infos.Code inside = no_rows
table_sound w whole infos.Superscript inside = no_rows
table_sound w whole infos.Block inside = no_rows
table_sound w whole infos.Division inside = no_rows
table_sound w whole (infos.Heading level) inside = no_rows
table_sound w whole infos.Quote inside = no_rows
table_sound w whole infos.Preformatted inside = no_rows
table_sound w whole infos.Bullets inside = no_rows
table_sound w whole (infos.Numbers first) inside = no_rows
table_sound w whole infos.Descriptions inside = no_rows
table_sound w whole infos.Details inside = no_rows
table_sound w whole infos.Term inside = no_rows
table_sound w whole infos.Table inside = record {
  whole = whole w inside;
  full = rows_full (in_rows (measured w inside)) (grid (in_rows (measured w inside)))
      (range_with_len 1 (measured w inside).rows);
}
table_sound w whole infos.TableGroup inside = no_rows
table_sound w whole infos.TableRow inside = no_rows
table_sound w whole (infos.TableCell columns taken) inside = no_rows
