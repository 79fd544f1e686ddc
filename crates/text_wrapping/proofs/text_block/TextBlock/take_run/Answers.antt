use Rattle.std.proofs.Common.{sym, ◌∙◌, chars}
use Rattle.text_normal.proofs.WordLemmas.{empty_text}
use Rattle.text_wrapping.specs.Blocks.{text_of}
use Rattle.text_wrapping.proofs.BlockLemmas.{nothing_after}
use Rattle.text_wrapping.proofs.text_block.TextBlock.take_run.Goals as goal

pub returns-then-is_empty-clause-run : goal.returns-then-is_empty-clause-run
returns-then-is_empty-clause-run g c =
    let seen = g.T.EqualCopy.seen in
    nothing_after (seen c.args.main_tag.now) (seen c.args.wrap_tag.now) (chars c.args.text.now)
    (text_of seen c.args.self.now) (empty_text c.args.text.now (sym c.is_empty.ensures ∙ c.if-is_empty.true))
