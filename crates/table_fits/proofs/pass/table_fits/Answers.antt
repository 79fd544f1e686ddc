use Rattle.std.proofs.Common.{◌≡◌, ◌∙◌, ap, subst, sym}
use Rattle.std.specs.Prelude.{IfOk}
use Rattle.render_sizes.proofs.ExtentLemmas.{of_tree}
use Rattle.render_values.proofs.ArenaLemmas.{flat_by}
use Rattle.render_values.specs.Arena.{values_of}
use Rattle.render_values.specs.Reading.{read_back}
use Rattle.table_fits.specs.Flowing.{fitting}
use Rattle.table_fits.specs.Seen.{fits_seen}
use Rattle.table_fits.specs.TableFits.{table_fits}
use Rattle.text_pieces.specs.declared.white_space.WhiteSpace.TheVariants.{Normal}
use Rattle.table_fits.proofs.pass.table_fits.Goals as goal

pub walk-requires : goal.walk-requires
walk-requires g c κs within = (
  within,
  (
    flat_by c.nodes.result.now c.args.tree.now c.nodes.ensures,
    (
      c.requires.1.0,
      c.requires.1.1 ∙ sym (of_tree g.w c.args.tree.now c.nodes.result.now c.nodes.ensures),
    ),
  ),
)

pub returns : goal.returns
returns g c = subst (λ v. IfOk c.walk.result (λ fits. fits_seen fits.items
    ≡ table_fits (fitting c.args.options.now g.w) Normal v))
    (ap values_of c.nodes.ensures ∙ read_back c.args.tree.now)
    c.walk.ensures
