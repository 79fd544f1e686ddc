use Rattle.std.proofs.Common.{arith, ◌∙◌}
use Rattle.std.proofs.lemmas.Bool.Decides.{nat_tests}
use Rattle.tree_names.proofs.CountLemmas.{counts_one, has_count}
use Rattle.tree_names.proofs.counts.OpenCounts.has_none_named.Goals as goal

pub offset_bounds-self-inside-place_of : goal.offset_bounds-self-inside-place_of
offset_bounds-self-inside-place_of c = omega (arith, c.place_of.ensures, has_count c.args.name.now)

pub bounds-self-inside-place_of : goal.bounds-self-inside-place_of
bounds-self-inside-place_of c = omega (arith, c.place_of.ensures, has_count c.args.name.now)

pub returns : goal.returns
returns c front back are =
    let some = counts_one front back c.args.name.now c.place_of.result c.self.inside.counts c.place_of.ensures
    (c.self.view_is ∙ are) in
    grind (arith, nat_tests, some)
