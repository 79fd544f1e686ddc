use Rattle.std.proofs.Common.{◌++◌, ◌∙◌, List, ap, arith, eqb, map, subst, sym, take_all}
use Rattle.std.proofs.lemmas.List.Filters.{dedup_is}
use Rattle.table_grid.specs.declared.cell.PlacedCell.{PlacedCell}
use Rattle.table_grid.specs.Places.{left_of, right_of}
use Rattle.table_grid.specs.Grid.{AreEdges}
use Rattle.table_grid.proofs.RankLemmas.{edges_are}
use Rattle.table_grid.proofs.edges.edges_of.Goals as goal

pub returns : goal.returns
returns c =
    subst (AreEdges c.args.placed.now)
    (sym (dedup_is eqb c.sort_unstable.new.self.items c.dedup.new.self.items c.dedup.ensures.filtered))
    (edges_are c.args.placed.now c.loop-p-2.edges.items c.sort_unstable.new.self.items
    (c.loop-p-2.invariant ∙ ap (λ (xs : List PlacedCell). map left_of c.args.placed.now ++ map right_of xs)
    (take_all c.loop-p-2.p-index c.args.placed.now (omega arith)))
    c.sort_unstable.ensures.permutation c.sort_unstable.ensures.sorted)
