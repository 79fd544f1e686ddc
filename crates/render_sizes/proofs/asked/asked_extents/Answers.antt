use Rattle.std.proofs.Common.{◌≡◌, IfOk, subst, sym}
use Rattle.render_values.specs.Arena.{IsFlat}
use Rattle.render_values.proofs.ArenaLemmas.{flat_is}
use Rattle.render_sizes.specs.Extents.{measure_of}
use Rattle.render_sizes.proofs.AskedLemmas.{of_tree}
use Rattle.render_sizes.proofs.asked.asked_extents.Goals as goal

pub asked_of_nodes-requires : goal.asked_of_nodes-requires
asked_of_nodes-requires g c = subst IsFlat (sym c.nodes.ensures) (flat_is c.args.tree.now)

pub returns : goal.returns
returns g c =
    let m = measure_of c.args.min_wrap (g.P.Prefixes.columns c.args.prefixes.now) in
    subst (λ l. IfOk c.asked_of_nodes.result (λ all. all.items ≡ l))
    (of_tree m c.args.tree.now c.nodes.result.now c.nodes.ensures) c.asked_of_nodes.ensures
