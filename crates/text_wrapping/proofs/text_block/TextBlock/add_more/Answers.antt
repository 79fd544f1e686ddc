use Rattle.std.proofs.Common.{sym, ◌∙◌, chars}
use Rattle.text_normal.proofs.WordLemmas.{empty_text, some_text}
use Rattle.text_wrapping.specs.Blocks.{text_of}
use Rattle.text_wrapping.proofs.BlockLemmas.{added_nothing, added_after, run_taken, same_mode}
use Rattle.text_wrapping.proofs.text_block.TextBlock.add_more.Goals as goal

pub returns-then-is_empty-clause-more : goal.returns-then-is_empty-clause-more
returns-then-is_empty-clause-more g c = λ _.
    added_nothing c.args.ws_mode (chars c.args.text.now) _ _ _
    (empty_text c.args.text.now (sym c.is_empty.ensures ∙ c.if-is_empty.true))

pub returns-clause-more : goal.returns-clause-more
returns-clause-more g c = λ _.
    let seen = g.T.EqualCopy.seen in
    let tag = seen c.args.tag.now in
    let old = text_of seen c.args.self.now in
    added_after c.args.ws_mode (chars c.args.text.now) tag tag old old (text_of seen c.take_tagged.new.self)
    (some_text c.args.text.now c.utf8.text (sym c.is_empty.ensures ∙ c.if-is_empty.false))
    (same_mode c.args.ws_mode old (sym c.is_same_mode.ensures ∙ c.if-not-is_same_mode.false))
    (run_taken tag tag (chars c.args.text.now) old (text_of seen c.take_tagged.new.self)
    (sym c.preserve_whitespace.ensures ∙ c.if-preserve_whitespace.false) c.in_ok-take_tagged.ensures.run)
