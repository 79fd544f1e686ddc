use Rattle.std.proofs.Common.{◌≤◌, ◌-◌, ◌^◌, ◌∙◌, ap, sym, subst, refl, get_or, arith}
use Rattle.render_values.specs.Arena.{IsFlat, values_of}
use Rattle.render_sizes.specs.Extents.{beside, extent, extents, measure_of, nothing_wide}
use Rattle.render_sizes.specs.declared.extent.Extent.{Extent}
use Rattle.render_values.proofs.ArenaLemmas.{below_fits, next_flat}
use Rattle.render_sizes.proofs.ExtentLemmas.{after_fits, first_beside, left_next, left_some, next_extents, sum_done}
use Rattle.render_sizes.proofs.ExtentLemmas.{sum_fits, sum_on}
use Rattle.render_sizes.proofs.sizes.together.Goals as goal

pub values-init : goal.values-init
values-init g c =
    let m = measure_of c.args.min_wrap (g.P.Prefixes.columns c.args.prefixes.now) in
    record {
      flat = c.requires.flat;
      same = c.requires.same;
      sum = ap (λ s. beside s (extent m (values_of c.args.nodes.now))) c.nothing_wide-sum.ensures
          ∙ first_beside m (values_of c.args.nodes.now);
      fits = subst (λ (e : Extent). e.size ≤ 2 ^ 64 - 1) (sym c.nothing_wide-sum.ensures) (omega arith);
    }

pub bounds-left-0 : goal.bounds-left-0
bounds-left-0 g c =
    let m = measure_of c.args.min_wrap (g.P.Prefixes.columns c.args.prefixes.now) in
    left_some m c.values.rest.now c.in-Some.first.now c.in-Some.others.now c.values.left.now
    c.in-Some.ensures.cases.0 c.values.invariant.flat c.values.invariant.same

pub extents_after-requires : goal.extents_after-requires
extents_after-requires g c =
    let m = measure_of c.args.min_wrap (g.P.Prefixes.columns c.args.prefixes.now) in
    left_some m c.values.rest.now c.in-Some.first.now c.in-Some.others.now c.values.left.now
    c.in-Some.ensures.cases.0 c.values.invariant.flat c.values.invariant.same

pub extents_after-left-requires : goal.extents_after-left-requires
extents_after-left-requires g c =
    let m = measure_of c.args.min_wrap (g.P.Prefixes.columns c.args.prefixes.now) in
    after_fits m c.in-Some.first.now c.in-Some.others.now c.extents_after.result.now
    (subst IsFlat c.in-Some.ensures.cases.0 c.values.invariant.flat)
    (left_next m c.values.rest.now c.in-Some.first.now c.in-Some.others.now c.values.left.now
    c.extents_after.result.now c.in-Some.ensures.cases.0 c.values.invariant.flat c.values.invariant.same
    c.extents_after.ensures)

pub nodes_after-rest-requires : goal.nodes_after-rest-requires
nodes_after-rest-requires g c =
    below_fits c.in-Some.first.now c.in-Some.others.now
    (subst IsFlat c.in-Some.ensures.cases.0 c.values.invariant.flat)

pub values-preserved : goal.values-preserved
values-preserved g c =
    let m = measure_of c.args.min_wrap (g.P.Prefixes.columns c.args.prefixes.now) in
    record {
      flat = subst IsFlat (sym c.nodes_after-rest.ensures)
          (next_flat c.in-Some.first.now c.in-Some.others.now
          (subst IsFlat c.in-Some.ensures.cases.0 c.values.invariant.flat));
      same = c.extents_after-left.ensures
          ∙ (next_extents m c.in-Some.first.now c.in-Some.others.now c.extents_after.result.now
          (subst IsFlat c.in-Some.ensures.cases.0 c.values.invariant.flat)
          (left_next m c.values.rest.now c.in-Some.first.now c.in-Some.others.now c.values.left.now
          c.extents_after.result.now c.in-Some.ensures.cases.0 c.values.invariant.flat c.values.invariant.same
          c.extents_after.ensures)
          ∙ ap (λ l. extents m (values_of l)) (sym c.nodes_after-rest.ensures));
      sum = ap (λ l. beside c.beside-sum.result (extent m (values_of l))) c.nodes_after-rest.ensures
          ∙ sum_on m c.values.rest.now c.in-Some.first.now c.in-Some.others.now c.values.left.now
          nothing_wide (get_or c.values.left.now 0 nothing_wide) c.values.sum c.beside-sum.result _
          c.in-Some.ensures.cases.0 c.values.invariant.flat c.values.invariant.same refl c.beside-sum.ensures
          c.values.invariant.sum;
      fits = sum_fits c.values.sum (get_or c.values.left.now 0 nothing_wide) c.beside-sum.result c.beside-sum.ensures;
    }

pub returns : goal.returns
returns g c =
    let m = measure_of c.args.min_wrap (g.P.Prefixes.columns c.args.prefixes.now) in
    sum_done m c.values.rest.now c.values.sum _ c.in_default.ensures.cases c.values.invariant.fits
    c.values.invariant.sum
