use Rattle.std.proofs.Common.{◌≡◌, ◌+◌, ◌-◌, ◌^◌, ◌≤◌, drop, sum}
use Rattle.render_sizes.specs.Extents.{capped}
use Rattle.layout_tables.specs.Tables.{separated}
use Rattle.layout_tables.proofs.slots.separated.Given as goal

abbrev pub invariant-widths : goal.invariant-widths
invariant-widths l = record {
  so_far : capped (l.columns + sum (drop l.width-index l.widths)) ≡ separated l.widths;
  small : l.columns ≤ 2 ^ 64 - 1;
}
