use Rattle.std.proofs.Common.{◌≡◌, [], Err, ap, rules, subst, sym, ◌∙◌}
use Rattle.block_renderer.specs.Seen.{marking}
use Rattle.render_conversion.specs.declared.error.RenderError.TheVariants.{TooNarrow}
use Rattle.render_sizes.specs.Asked.{AreMeasured}
use Rattle.render_sizes.specs.Extents.{Measure, extents, measure_of}
use Rattle.layout_values.specs.Sizing.{Sizing, all_fits, in_mode}
use Rattle.text_pieces.specs.declared.white_space.WhiteSpace.TheVariants.{Normal}
use Rattle.layout_values.specs.Lay.{laid_parts}
use Rattle.block_trait.specs.Renderers.{new_sub}
use Rattle.text_block_renderer.specs.Parts.{depth_of, whole_page}
use Rattle.html_render_tree.specs.PageLines.{begun_as, prefix_columns}
use Rattle.html_render_tree.proofs.rendering.laid.Goals as goal

pub fits_of-requires : goal.fits_of-requires
fits_of-requires g c = λ lives k.
    let same : measure_of c.args.min_wrap_width (prefix_columns (g.D.TextDecorator.view.text
    (g.D.TextDecorator.view.held c.new-prefixes.result.decorator))) ≡ g.w.measure =
    ap (λ d. measure_of c.args.min_wrap_width (prefix_columns (g.D.TextDecorator.view.text
    (g.D.TextDecorator.view.held d)))) c.new-prefixes.ensures ∙ ap (λ (v : Sizing). v.measure) (sym c.requires.1.1) in (
      first_of (search rules, search (rules, k.0, k.1)),
      (
        sym (ap (λ (v : Measure). v.prefixes) same),
        λ on. c.as_slice.ensures.value
            ∙ (c.in_ok-sizes.ensures.whole on ∙ ap (λ v. extents v c.args.tree.now) same),
      ),
    )

pub lay_tree-requires : goal.lay_tree-requires
lay_tree-requires g c = λ lives k.
    let same : measure_of c.args.min_wrap_width (prefix_columns (g.D.TextDecorator.view.text
    (g.D.TextDecorator.view.held c.new-prefixes.result.decorator))) ≡ g.w.measure =
    ap (λ d. measure_of c.args.min_wrap_width (prefix_columns (g.D.TextDecorator.view.text
    (g.D.TextDecorator.view.held d)))) c.new-prefixes.ensures ∙ ap (λ (v : Sizing). v.measure) (sym c.requires.1.1) in (
      k.0,
      (
        k.1,
        (
          (c.new-text.ensures.works, c.new-text.ensures.current ∙ c.begun-sub.ensures.works),
          (
            ap depth_of c.new-text.ensures.parts,
            (
              subst (AreMeasured g.w.measure c.args.tree.now) (sym c.as_slice-2.ensures.value)
                  (subst (λ v. AreMeasured v c.args.tree.now c.in_ok-sizes.sizes.items) same
                  c.in_ok-sizes.ensures.measured),
              c.in_ok-fits.ensures ∙ ap (λ (v : Sizing). all_fits (record {
                measure = g.w.measure;
                fitted = v.fitted;
                mode = Normal;
              }) c.args.tree.now) (sym c.requires.1.1),
            ),
          ),
        ),
      ),
    )

pub returns-in-Ok-clause-laid : goal.returns-in-Ok-clause-laid
returns-in-Ok-clause-laid g c = λ tag p.
    ap (λ v. laid_parts (marking g.D.TextDecorator.view tag) (in_mode v Normal) c.args.tree.now
    (whole_page (begun_as c.args.keeps (new_sub c.args.width c.args.options (g.D.TextDecorator.view.held
    c.args.decorator) [])))) (sym
    c.requires.1.1)
    ∙ (ap (laid_parts (marking g.D.TextDecorator.view tag) (in_mode g.w Normal) c.args.tree.now)
    (sym (c.new-text.ensures.parts ∙ ap
    whole_page
    (c.begun-sub.ensures.sub
    ∙ ap (λ d. begun_as c.args.keeps (new_sub c.args.width c.args.options (g.D.TextDecorator.view.held d) []))
    (c.into_decorator.ensures ∙ c.new-prefixes.ensures))))
    ∙ c.in-Ok.ensures.laid tag p)

pub returns-clause-narrow : goal.returns-clause-narrow
returns-clause-narrow g c = λ e. λ tag p.
    let narrow : c.refusal.result ≡ TooNarrow = cc e in
    ap (λ v. laid_parts (marking g.D.TextDecorator.view tag) (in_mode v Normal) c.args.tree.now
    (whole_page (begun_as c.args.keeps (new_sub c.args.width c.args.options (g.D.TextDecorator.view.held
    c.args.decorator) [])))) (sym
    c.requires.1.1)
    ∙ (ap (laid_parts (marking g.D.TextDecorator.view tag) (in_mode g.w Normal) c.args.tree.now)
    (sym (c.new-text.ensures.parts ∙ ap
    whole_page
    (c.begun-sub.ensures.sub
    ∙ ap (λ d. begun_as c.args.keeps (new_sub c.args.width c.args.options (g.D.TextDecorator.view.held d) []))
    (c.into_decorator.ensures ∙ c.new-prefixes.ensures))))
    ∙ c.in-Err.ensures.narrow (ap Err (c.refusal.ensures.narrow narrow)) tag p)
