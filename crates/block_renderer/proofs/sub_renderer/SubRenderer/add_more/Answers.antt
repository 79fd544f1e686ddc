use Rattle.std.proofs.Common.{chars}
use Rattle.std.proofs.lemmas.Result.{IfOk-weaker}
use Rattle.block_layout.specs.Seen.{laid_of}
use Rattle.block_renderer.specs.Seen.{sub_of, tags_seen, marking}
use Rattle.block_renderer.proofs.InlineLemmas.{more_is}
use Rattle.block_renderer.proofs.sub_renderer.SubRenderer.add_more.Goals as goal

pub returns-clause-more : goal.returns-clause-more
returns-clause-more g c =
    let seen = g.D.Annotation.EqualCopy.seen in
    let d = g.D.TextDecorator in
    let plain = c.is_plain.ensures c.if-not-is_plain.false in
    IfOk-weaker c.add_more.result _ _ (λ more h t tag p.
    more_is (marking d.view tag) (chars c.args.text.now)
    (sub_of seen d.view.held c.args.self.now) c.mode-mode.result (laid_of (tags_seen seen) c.add_more.new.self)
    c.mode-mode.ensures plain.0 plain.1 (h t).0 (h t).1) c.add_more.ensures.more
