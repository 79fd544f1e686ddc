use Rattle.std.proofs.Common.{length, refl, subst, sym}
use Rattle.render_values.specs.Arena.{IsFlat}
use Rattle.render_values.proofs.ArenaLemmas.{below_fits, next_flat}
use Rattle.render_sizes.proofs.ExtentLemmas.{number_below, number_done, number_next}
use Rattle.render_sizes.proofs.sizes.number.Goals as goal

pub one_more-count-requires : goal.one_more-count-requires
one_more-count-requires c =
    number_below c.args.nodes.now c.values.rest.now c.in-Some.first.now c.in-Some.others.now c.values.count
    (length c.args.nodes.now) c.in-Some.ensures.cases.0 c.requires refl c.values.invariant.all

pub nodes_after-rest-requires : goal.nodes_after-rest-requires
nodes_after-rest-requires c =
    below_fits c.in-Some.first.now c.in-Some.others.now
    (subst IsFlat c.in-Some.ensures.cases.0 c.values.invariant.flat)

pub values-preserved : goal.values-preserved
values-preserved c = record {
  flat = subst IsFlat (sym c.nodes_after-rest.ensures)
      (next_flat c.in-Some.first.now c.in-Some.others.now
      (subst IsFlat c.in-Some.ensures.cases.0 c.values.invariant.flat));
  all = number_next c.values.rest.now c.in-Some.first.now c.in-Some.others.now c.nodes_after-rest.result.now
      c.values.count c.one_more-count.result _ c.in-Some.ensures.cases.0 c.values.invariant.flat
      c.nodes_after-rest.ensures c.one_more-count.ensures c.values.invariant.all;
}

pub returns : goal.returns
returns c = number_done c.values.rest.now c.values.count _ c.in_default.ensures.cases c.values.invariant.all
