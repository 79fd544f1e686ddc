use Rattle.std.proofs.Common.{◌≡◌, Err, ap, subst, sym, ◌∙◌}
use Rattle.std.proofs.lemmas.Result.{err_from_is_err_and}
use Rattle.text_pieces.specs.declared.fault.BlockError.TheVariants.{TooNarrow}
use Rattle.block_renderer.specs.Seen.{marking}
use Rattle.render_sizes.specs.Asked.{AreMeasured}
use Rattle.render_values.proofs.ArenaLemmas.{flat_by}
use Rattle.render_values.specs.Arena.{values_of}
use Rattle.render_values.specs.Reading.{read_back}
use Rattle.text_block_renderer.specs.SeenParts.{parts_of}
use Rattle.layout_values.specs.Sizing.{all_fits, in_mode}
use Rattle.layout_tables.specs.Seen.{all_fits_seen}
use Rattle.text_pieces.specs.declared.white_space.WhiteSpace.TheVariants.{Normal}
use Rattle.layout_walk.proofs.WalkLemmas.{laid_by, never_laid, none_below}
use Rattle.layout_walk.proofs.walk.lay_tree.Goals as goal

pub walk-requires : goal.walk-requires
walk-requires g c = λ lives k. (
  k.0,
  (
    k.1,
    (
      (
        c.requires.1.1.0.0,
        (
          c.requires.1.1.0.1,
          none_below _ c.requires.1.1.1.0,
        ),
      ),
      (
        flat_by c.nodes.result.now c.args.tree.now c.nodes.ensures,
        (
          subst (λ v. AreMeasured g.w.measure v c.args.sizes.now)
              (sym (ap values_of c.nodes.ensures ∙ read_back c.args.tree.now)) c.requires.1.1.1.1.0,
          subst (λ v. all_fits_seen c.args.fits.now ≡ all_fits (in_mode g.w Normal) v)
              (sym (ap values_of c.nodes.ensures ∙ read_back c.args.tree.now)) c.requires.1.1.1.1.1,
        ),
      ),
    ),
  ),
)

pub returns-in_err-walk-clause-narrow : goal.returns-in_err-walk-clause-narrow
returns-in_err-walk-clause-narrow g c = λ e. λ tag p.
    let q = err_from_is_err_and c.from_residual.result c.from_residual.ensures.1 in
    let same : c.in_err-walk.field-0.0 ≡ TooNarrow = cc (q.1, q.2, e) in
    never_laid (marking g.D.TextDecorator.view tag) (in_mode g.w Normal) (values_of c.nodes.result.now) c.args.tree.now
    (parts_of g.D.Annotation.EqualCopy.seen g.D.TextDecorator.view.held c.args.text) (ap values_of c.nodes.ensures ∙
    read_back c.args.tree.now)
    (c.in_err-walk.ensures.narrow (ap Err same) tag p)

pub returns-clause-laid : goal.returns-clause-laid
returns-clause-laid g c = λ tag p.
    laid_by (marking g.D.TextDecorator.view tag) (in_mode g.w Normal) (values_of c.nodes.result.now) c.args.tree.now
    (parts_of g.D.Annotation.EqualCopy.seen g.D.TextDecorator.view.held c.args.text) _ (ap values_of c.nodes.ensures ∙
    read_back c.args.tree.now)
    (c.in_ok-walk.ensures.done tag p)
