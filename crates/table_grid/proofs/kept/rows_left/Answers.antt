use Rattle.std.proofs.Common.{◌∙◌, List, ap, arith, eqb, filter, map, take_all}
use Rattle.std.specs.List.{dedup}
use Rattle.std.proofs.lemmas.List.Filters.{dedup_is}
use Rattle.table_grid.specs.declared.edges.SpannedCell.{SpannedCell}
use Rattle.table_grid.specs.Grid.{row_of, has_column}
use Rattle.table_grid.proofs.kept.rows_left.Goals as goal

pub returns : goal.returns
returns c =
    dedup_is eqb c.loop-s.rows.items c.dedup.new.self.items c.dedup.ensures.filtered
    ∙ ap (dedup eqb) (c.loop-s.invariant ∙
    ap (λ (xs : List SpannedCell). map row_of (filter has_column xs))
    (take_all c.loop-s.s-index c.args.cells.now (omega arith)))
