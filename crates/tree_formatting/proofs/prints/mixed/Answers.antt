use Rattle.std.proofs.Common.{◌*◌, ◌+◌, ◌^◌, ◌%◌, ap, ◌∙◌}
use Rattle.tree_formatting.specs.Prints.{mixed}
use Rattle.tree_formatting.proofs.prints.mixed.Goals as goal

pub returns : goal.returns
unfolding mixed
returns c = ap (λ n. ((c.args.print * 1099511628211) % 2 ^ 64 + n) % 2 ^ 64) (c.from-2.ensures ∙ c.from.ensures)
