use Rattle.std.proofs.Common.{ap, ◌∙◌, map}
use Rattle.block_renderer.specs.Seen.{sub_of}
use Rattle.block_renderer.proofs.InlineLemmas.{mapped_off}
use Rattle.block_renderer.proofs.sub_renderer.SubRenderer.pop_annotation.Goals as goal

pub returns-clause-popped : goal.returns-clause-popped
returns-clause-popped g c =
    let seen = g.D.Annotation.EqualCopy.seen in
    ap (λ tags. record (sub_of seen g.D.TextDecorator.view.held c.args.self.now) { annotations = tags })
    (ap (map seen) c.drop_last.ensures ∙ mapped_off seen c.args.self.now.annotations.items)
