use Rattle.std.proofs.Common.{arith, ◌∙◌}
use Rattle.tree_names.proofs.CountLemmas.{counts_one, has_count, taken_out}
use Rattle.tree_names.proofs.counts.OpenCounts.remove.Goals as goal

pub offset_bounds-self-inside-place : goal.offset_bounds-self-inside-place
offset_bounds-self-inside-place c = omega (arith, c.place_of-place.ensures, has_count c.args.name.now)

pub bounds-self-inside-place : goal.bounds-self-inside-place
bounds-self-inside-place c = omega (arith, c.place_of-place.ensures, has_count c.args.name.now)

pub overflow_sub-self : goal.overflow_sub-self
overflow_sub-self c = counts_one c.requires.0 c.requires.1 c.args.name.now c.place_of-place.result
    c.self.inside.counts c.place_of-place.ensures (c.self.view_is ∙ c.requires.2)

pub bounds-self-inside-place-2 : goal.bounds-self-inside-place-2
bounds-self-inside-place-2 c = omega (arith, c.place_of-place.ensures, has_count c.args.name.now)

pub returns : goal.returns
returns c front back are = taken_out front back c.args.name.now c.place_of-place.result c.self.inside.counts
    c.place_of-place.ensures (c.self.view_is ∙ are)
