use Rattle.std.proofs.Common.{◌+◌, ◌-◌, ◌*◌, length}
use Rattle.table_fits.specs.Walk.{IsWalking}
use Rattle.table_fits.proofs.pass.walk.Given as goal

abbrev pub invariant-values : goal.invariant-values
invariant-values g l = record {
  walking : IsWalking l.options g.w l.nodes l.sizes l.place l.waiting.items l.reading;
}

abbrev pub decreases-values : goal.decreases-values
decreases-values g l = 2 * (length l.nodes - l.place.at) + length l.waiting.items

abbrev pub ghost-enter : goal.ghost-enter
ghost-enter g a = g.w

abbrev pub ghost-leave : goal.ghost-leave
ghost-leave g a = g.w
