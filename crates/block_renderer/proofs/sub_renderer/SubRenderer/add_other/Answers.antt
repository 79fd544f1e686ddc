use Rattle.std.proofs.Common.{chars, Some, None}
use Rattle.std.proofs.lemmas.Result.{on_ok_weaker}
use Rattle.block_layout.specs.Seen.{laid_of}
use Rattle.block_renderer.specs.Seen.{sub_of, tags_seen, marking}
use Rattle.block_renderer.proofs.InlineLemmas.{inline_is}
use Rattle.block_renderer.proofs.sub_renderer.SubRenderer.add_other.Goals as goal

pub returns-clause-done : goal.returns-clause-done
returns-clause-done g c =
    let seen = g.D.Annotation.EqualCopy.seen in
    let d = g.D.TextDecorator in
    on_ok_weaker c.add_struck.result (λ h. λ tag p.
    inline_is (marking d.view tag) (chars c.args.text.now)
    (sub_of seen d.view.held c.args.self.now)
    c.mode.result c.measure-measure.result (laid_of (tags_seen seen) c.start_awaited.new.self)
    c.is_ignored.result (Some (sub_of seen d.view.held c.add_struck.new.self)) c.mode.ensures
    c.measure-measure.ensures c.is_ignored.ensures c.if-is_ignored.false
    c.in_ok-start_awaited.ensures.started (h tag p))
    c.add_struck.ensures.done

pub returns-clause-narrow : goal.returns-clause-narrow
returns-clause-narrow g c = λ e. λ tag p.
    let seen = g.D.Annotation.EqualCopy.seen in
    let d = g.D.TextDecorator in
    inline_is (marking d.view tag) (chars c.args.text.now)
    (sub_of seen d.view.held c.args.self.now)
    c.mode.result c.measure-measure.result (laid_of (tags_seen seen) c.start_awaited.new.self)
    c.is_ignored.result None c.mode.ensures c.measure-measure.ensures c.is_ignored.ensures c.if-is_ignored.false
    c.in_ok-start_awaited.ensures.started (c.add_struck.ensures.narrow e tag p)
