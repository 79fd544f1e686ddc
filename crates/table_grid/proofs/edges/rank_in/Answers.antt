use Rattle.std.proofs.Common.{◌≡◌, ℕ, ◌<◌, ◌≤◌, arith, subst, sym, length, get_or}
use Rattle.std.proofs.lemmas.List.Sorted.{searched}
use Rattle.table_grid.specs.Grid.{rank}
use Rattle.table_grid.proofs.RankLemmas.{rank_at, rank_is, never_falls}
use Rattle.table_grid.proofs.edges.rank_in.Goals as goal

pub returns-in-Ok : goal.returns-in-Ok
returns-in-Ok c =
    let found : (c.in-Ok.at < length c.args.numbers.now) × (get_or c.args.numbers.now c.in-Ok.at 0 ≡ c.args.number) =
    rw c.in-Ok.is at (searched c.args.numbers.now c.args.number c.binary_search.result c.binary_search.ensures.position
    (never_falls c.args.numbers.now c.requires.rising)) in
    sym (subst (λ (n : ℕ). rank c.args.numbers.now n ≡ c.in-Ok.at) found.1
    (rank_at c.args.numbers.now c.in-Ok.at c.requires.rising found.0))

pub returns-in-Err : goal.returns-in-Err
returns-in-Err c =
    let found : (c.in-Err.at ≤ length c.args.numbers.now)
    × ((k : ℕ) → k < c.in-Err.at → get_or c.args.numbers.now k 0 < c.args.number) ×
    ((k : ℕ) → c.in-Err.at ≤ k → k < length c.args.numbers.now → c.args.number < get_or c.args.numbers.now k 0) =
    rw c.in-Err.is at
    (searched c.args.numbers.now c.args.number c.binary_search.result c.binary_search.ensures.position
    (never_falls c.args.numbers.now c.requires.rising)) in
    sym (rank_is c.args.numbers.now c.args.number c.in-Err.at found.0 found.1
    (λ j from lt. let a = found.2 j from lt in omega arith))
