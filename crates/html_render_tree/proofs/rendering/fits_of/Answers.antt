use Rattle.std.proofs.Common.{◌≡◌, Some, ap, false, rules, true, ◌∙◌}
use Rattle.html_render_tree.proofs.SizingLemmas.{fitted, unfitted}
use Rattle.html_render_tree.proofs.rendering.fits_of.Goals as goal

pub returns-then-not-options : goal.returns-then-not-options
returns-then-not-options g c =
    let off : c.args.options.now.fit_columns ≡ false = search rules in
    unfitted c.args.options.now g.w c.args.tree.now off

pub returns : goal.returns
returns g c =
    let on : c.args.options.now.fit_columns ≡ true = search rules in
    ap Some c.in_ok-fits.ensures ∙ fitted c.args.options.now g.w c.args.tree.now on
