use Rattle.std.proofs.Common.{[], ap, sym, ◌∙◌}
use Rattle.std.proofs.lemmas.Result.{on_ok_weaker}
use Rattle.std.proofs.lemmas.Str.{chars-nil}
use Rattle.block_trait.specs.Renderers.{append_sub}
use Rattle.block_renderer.specs.Seen.{sub_of}
use Rattle.block_renderer.proofs.sub_renderer.SubRenderer.add_one_below.Goals as goal

pub returns-clause-done : goal.returns-clause-done
returns-clause-done g c =
    let s = sub_of g.D.Annotation.EqualCopy.seen g.D.TextDecorator.view.held in
    on_ok_weaker c.append_sub.result (λ h.
    ap (λ r. append_sub (s c.args.cell) [] [] r) (sym c.in_ok-add_slashes.ensures.done)
    ∙ ap (λ cs. append_sub (s c.args.cell) cs cs (s c.add_slashes.new.self)) (sym chars-nil) ∙ h)
    c.append_sub.ensures.done
