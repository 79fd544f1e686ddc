use Rattle.std.proofs.Common.{chars, sym, ◌∙◌}
use Rattle.text_normal.proofs.WordLemmas.{empty_text}
use Rattle.block_layout.specs.Seen.{laid_of}
use Rattle.block_renderer.specs.Seen.{sub_of, tags_seen, marking}
use Rattle.block_renderer.proofs.InlineLemmas.{empty_is}
use Rattle.block_renderer.proofs.sub_renderer.SubRenderer.add_preformatted.Goals as goal

pub returns-then-is_empty-clause-done : goal.returns-then-is_empty-clause-done
returns-then-is_empty-clause-done g c = λ tag p.
    let seen = g.D.Annotation.EqualCopy.seen in
    let d = g.D.TextDecorator in
    empty_is (marking d.view tag) (chars c.args.text.now)
    (sub_of seen d.view.held c.args.self.now)
    c.measure-measure.result (laid_of (tags_seen seen) c.begin_text.new.self)
    (empty_text c.args.text.now (sym c.is_empty.ensures ∙ c.if-is_empty.true)) c.measure-measure.ensures
    c.in_ok-begin_text.ensures.laid
