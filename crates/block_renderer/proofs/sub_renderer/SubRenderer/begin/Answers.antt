use Rattle.std.proofs.Common.{chars, sym, ap, ◌∙◌}
use Rattle.std.proofs.lemmas.Result.{on_ok_weaker}
use Rattle.block_trait.specs.Renderers.{add_inline}
use Rattle.block_renderer.specs.Seen.{marking}
use Rattle.block_renderer.proofs.sub_renderer.SubRenderer.begin.Goals as goal

pub returns-clause-done : goal.returns-clause-done
returns-clause-done g c =
    let d = g.D.TextDecorator in
    on_ok_weaker c.add_inline-result.result (λ h. λ tag p.
    ap (λ s. add_inline (marking d.view tag) (chars c.args.text.now) s)
    (sym c.in_default.ensures.pushed)
    ∙ h tag p)
    c.add_inline-result.ensures.done

pub returns-clause-narrow : goal.returns-clause-narrow
returns-clause-narrow g c = λ e. λ tag p.
    let d = g.D.TextDecorator in
    ap (λ s. add_inline (marking d.view tag) (chars c.args.text.now) s)
    (sym c.in_default.ensures.pushed)
    ∙ c.add_inline-result.ensures.narrow e tag p
