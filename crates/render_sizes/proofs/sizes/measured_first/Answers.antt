use Rattle.std.proofs.Common.{◌∙◌, ap, sym, subst}
use Rattle.render_values.specs.Arena.{IsFlat, values_of}
use Rattle.render_sizes.specs.Extents.{extents, measure_of}
use Rattle.render_values.proofs.ArenaLemmas.{below_fits}
use Rattle.render_sizes.proofs.ExtentLemmas.{after_fits, first_by, inner_extents, inner_flat, measured_after}
use Rattle.render_sizes.proofs.sizes.measured_first.Goals as goal

pub first_nodes-inner-requires : goal.first_nodes-inner-requires
first_nodes-inner-requires g c =
    below_fits c.in-Some.first.now c.in-Some.others.now (subst IsFlat c.in-Some.ensures.cases.0 c.requires.flat)

pub first_extents-sizes-requires : goal.first_extents-sizes-requires
first_extents-sizes-requires g c =
    let m = measure_of c.args.min_wrap (g.P.Prefixes.columns c.args.prefixes.now) in
    after_fits m c.in-Some.first.now c.in-Some.others.now c.args.measured.now
    (subst IsFlat c.in-Some.ensures.cases.0 c.requires.flat)
    (measured_after m c.args.nodes.now c.in-Some.first.now c.in-Some.others.now c.args.measured.now
    c.in-Some.ensures.cases.0 c.requires.same)

pub together-inside-requires-clause-flat : goal.together-inside-requires-clause-flat
together-inside-requires-clause-flat g c =
    subst IsFlat (sym c.first_nodes-inner.ensures)
    (inner_flat c.in-Some.first.now c.in-Some.others.now (subst IsFlat c.in-Some.ensures.cases.0 c.requires.flat))

pub together-inside-requires-clause-same : goal.together-inside-requires-clause-same
together-inside-requires-clause-same g c =
    let m = measure_of c.args.min_wrap (g.P.Prefixes.columns c.args.prefixes.now) in
    c.first_extents-sizes.ensures
    ∙ (inner_extents m c.in-Some.first.now c.in-Some.others.now c.args.measured.now
    (subst IsFlat c.in-Some.ensures.cases.0 c.requires.flat)
    (measured_after m c.args.nodes.now c.in-Some.first.now c.in-Some.others.now c.args.measured.now
    c.in-Some.ensures.cases.0 c.requires.same)
    ∙ ap (λ l. extents m (values_of l)) (sym c.first_nodes-inner.ensures))

pub extent_by-requires-clause-flat : goal.extent_by-requires-clause-flat
extent_by-requires-clause-flat g c =
    subst IsFlat (sym c.first_nodes-inner.ensures)
    (inner_flat c.in-Some.first.now c.in-Some.others.now (subst IsFlat c.in-Some.ensures.cases.0 c.requires.flat))

pub extent_by-requires-clause-same : goal.extent_by-requires-clause-same
extent_by-requires-clause-same g c =
    let m = measure_of c.args.min_wrap (g.P.Prefixes.columns c.args.prefixes.now) in
    c.first_extents-sizes.ensures
    ∙ (inner_extents m c.in-Some.first.now c.in-Some.others.now c.args.measured.now
    (subst IsFlat c.in-Some.ensures.cases.0 c.requires.flat)
    (measured_after m c.args.nodes.now c.in-Some.first.now c.in-Some.others.now c.args.measured.now
    c.in-Some.ensures.cases.0 c.requires.same)
    ∙ ap (λ l. extents m (values_of l)) (sym c.first_nodes-inner.ensures))

pub extent_by-requires-clause-sum : goal.extent_by-requires-clause-sum
extent_by-requires-clause-sum g c = c.together-inside.ensures

pub returns-in-Some : goal.returns-in-Some
returns-in-Some g c =
    let m = measure_of c.args.min_wrap (g.P.Prefixes.columns c.args.prefixes.now) in
    first_by c.extent_by.result m c.args.nodes.now c.in-Some.first.now c.in-Some.others.now
    c.first_nodes-inner.result.now c.in-Some.ensures.cases.0 c.requires.flat c.first_nodes-inner.ensures
    c.extent_by.ensures
