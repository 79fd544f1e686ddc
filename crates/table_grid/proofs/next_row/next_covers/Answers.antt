use Rattle.std.proofs.Common.{◌<◌, List, [], All, subst, sym}
use Rattle.table_grid.specs.declared.covers.Cover.{Cover}
use Rattle.table_grid.specs.Without.{IsWithout}
use Rattle.table_grid.proofs.RowLemmas.{no_place}
use Rattle.table_grid.proofs.StateLemmas.{is_placed, ended_some, now_above, between, wide_so_far}
use Rattle.table_grid.proofs.next_row.next_covers.Goals as goal

pub ended_above-requires-clause-placed : goal.ended_above-requires-clause-placed
ended_above-requires-clause-placed c =
    is_placed c.args.cells.now c.args.ends.now c.args.over c.args.over c.args.row c.args.covers.now c.args.own.now [] []
    [] c.args.placed.now c.requires.rows c.requires.tall c.requires.left (c.requires.row no_place) c.requires.ends
    c.requires.state

pub covers_without-requires-clause-some : goal.covers_without-requires-clause-some
covers_without-requires-clause-some c =
    subst (λ (xs : List Cover). All (λ c. c.left < c.right) xs) (sym c.as_slice-2.ensures.value)
    (ended_some c.args.cells.now c.args.ends.now c.args.over c.in_ok-ended.passed c.args.row c.args.covers.now
    c.args.own.now [] c.in_ok-ended.ended.items [] c.args.placed.now c.requires.rows c.requires.tall c.requires.left
    (c.requires.row no_place) c.requires.ends c.requires.state c.in_ok-ended.ensures
    (wide_so_far c.args.cells.now c.args.placed.now c.requires.state.so_far c.requires.some))

pub returns : goal.returns
returns c =
    let kept : IsWithout c.in_ok-taken.taken.items c.in_ok-ended.ended.items c.in_ok-above.above.items =
    subst (λ (xs : List Cover). IsWithout xs c.in_ok-ended.ended.items c.in_ok-above.above.items)
    c.as_slice.ensures.value
    (subst (λ (xs : List Cover). IsWithout c.as_slice.result.now xs c.in_ok-above.above.items)
    c.as_slice-2.ensures.value c.in_ok-above.ensures) in
    record {
      between = between c.args.cells.now c.args.ends.now c.args.over c.in_ok-ended.passed c.args.row c.args.covers.now
          c.args.own.now c.in_ok-taken.taken.items c.in_ok-ended.ended.items c.in_ok-above.above.items c.args.placed.now
          c.requires.rows c.requires.tall c.requires.left (c.requires.row no_place) c.requires.ends c.requires.state
          c.in_ok-ended.ensures c.in_ok-taken.ensures kept;
      above = now_above c.args.cells.now c.args.ends.now c.args.over c.in_ok-ended.passed c.args.row c.args.covers.now
          c.args.own.now [] c.in_ok-ended.ended.items [] c.args.placed.now c.requires.rows c.requires.tall
          c.requires.left (c.requires.row no_place) c.requires.ends c.requires.state c.in_ok-ended.ensures;
    }
