use Rattle.std.proofs.Common.{◌≡◌, IfOk, subst, sym}
use Rattle.render_values.specs.Arena.{IsFlat}
use Rattle.render_values.proofs.ArenaLemmas.{flat_is}
use Rattle.render_sizes.specs.Extents.{measure_of}
use Rattle.render_sizes.proofs.ExtentLemmas.{of_tree}
use Rattle.render_sizes.proofs.sizes.measured.Goals as goal

pub all_extents-requires : goal.all_extents-requires
all_extents-requires g c = subst IsFlat (sym c.nodes.ensures) (flat_is c.args.tree.now)

pub returns : goal.returns
returns g c =
    let m = measure_of c.args.min_wrap (g.P.Prefixes.columns c.args.prefixes.now) in
    subst (λ l. IfOk c.all_extents.result (λ all. all.items ≡ l))
    (of_tree m c.args.tree.now c.nodes.result.now c.nodes.ensures) c.all_extents.ensures
