use Rattle.std.proofs.Common.{◌+◌, ◌-◌, ◌∙◌, ap, sym, subst, drop, arith}
use Rattle.std.proofs.Math.ListN.{length-set}
use Rattle.render_values.specs.Arena.{IsFlat}
use Rattle.render_values.proofs.ArenaLemmas.{flat_drop}
use Rattle.render_sizes.specs.Extents.{measure_of}
use Rattle.render_sizes.proofs.ExtentLemmas.{after_measured, measured_on, next_down}
use Rattle.render_sizes.proofs.sizes.all_extents.Goals as goal

pub measured_first-requires-clause-flat : goal.measured_first-requires-clause-flat
measured_first-requires-clause-flat g c =
    subst IsFlat (sym c.nodes_after.ensures) (flat_drop (c.nodes.at - 1) c.args.nodes.now c.requires)

pub measured_first-requires-clause-same : goal.measured_first-requires-clause-same
measured_first-requires-clause-same g c =
    let m = measure_of c.args.min_wrap (g.P.Prefixes.columns c.args.prefixes.now) in
    after_measured m c.nodes.at (c.nodes.at - 1) c.args.nodes.now c.nodes_after.result.now
    c.nodes.all.items c.extents_after.result.now (omega arith) c.nodes_after.ensures
    (c.extents_after.ensures ∙ (ap (drop (c.nodes.at - 1 + 1)) c.as_slice.ensures.value
    ∙ ap (λ n. drop n c.nodes.all.items) (next_down c.nodes.at c.nodes-test.true)))
    c.nodes.invariant.same

pub nodes-preserved : goal.nodes-preserved
nodes-preserved g c =
    let m = measure_of c.args.min_wrap (g.P.Prefixes.columns c.args.prefixes.now) in
    record {
      same = measured_on m c.nodes.at (c.nodes.at - 1) c.args.nodes.now c.nodes_after.result.now
          c.nodes.all.items c.in_ok-one.one (omega arith) (omega arith) c.nodes.invariant.size c.requires
          c.nodes_after.ensures c.in_ok-one.ensures c.nodes.invariant.same;
      size = length-set c.nodes.all.items (c.nodes.at - 1) c.in_ok-one.one ∙ c.nodes.invariant.size;
      within = omega arith;
    }
