use Rattle.std.proofs.Common.{arith, slice_index_or, ap, ◌∙◌}
use Rattle.tree_names.proofs.CountLemmas.{added, at_most, has_count}
use Rattle.tree_names.proofs.counts.OpenCounts.add.Goals as goal

pub offset_bounds-self-inside-place : goal.offset_bounds-self-inside-place
offset_bounds-self-inside-place c = omega (arith, c.place_of-place.ensures, has_count c.args.name.now)

pub bounds-self-inside-place : goal.bounds-self-inside-place
bounds-self-inside-place c = omega (arith, c.place_of-place.ensures, has_count c.args.name.now)

pub prove-unreachable-requires : goal.prove-unreachable-requires
prove-unreachable-requires c =
    let counts = ap (λ l. slice_index_or l c.place_of-place.result 0) (c.self.view_is ∙ c.requires.1.0) in
    omega (arith, counts, at_most c.requires.0 c.place_of-place.result, c.requires.1.1, c.if-prove.true)

pub offset_bounds-self-inside-place-2 : goal.offset_bounds-self-inside-place-2
offset_bounds-self-inside-place-2 c = omega (arith, c.place_of-place.ensures, has_count c.args.name.now)

pub bounds-self-inside-place-2 : goal.bounds-self-inside-place-2
bounds-self-inside-place-2 c = omega (arith, c.place_of-place.ensures, has_count c.args.name.now)

pub overflow_add-self : goal.overflow_add-self
overflow_add-self c =
    let counts = ap (λ l. slice_index_or l c.place_of-place.result 0) (c.self.view_is ∙ c.requires.1.0) in
    omega (arith, counts, at_most c.requires.0 c.place_of-place.result, c.requires.1.1, c.ranges.size.fits)

pub bounds-self-inside-place-3 : goal.bounds-self-inside-place-3
bounds-self-inside-place-3 c = omega (arith, c.place_of-place.ensures, has_count c.args.name.now)

pub returns : goal.returns
returns c front back are = added front back c.args.name.now c.place_of-place.result c.self.inside.counts
    c.place_of-place.ensures
    (c.self.view_is ∙ are)
