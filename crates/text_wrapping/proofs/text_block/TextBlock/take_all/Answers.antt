use Rattle.std.proofs.Common.{sym, ◌∙◌, chars}
use Rattle.std.proofs.lemmas.Result.{on_ok_weaker}
use Rattle.text_wrapping.specs.Blocks.{text_of}
use Rattle.text_wrapping.proofs.BlockLemmas.{run_taken}
use Rattle.text_wrapping.proofs.text_block.TextBlock.take_all.Goals as goal

pub returns-else-preserve_whitespace-clause-taken : goal.returns-else-preserve_whitespace-clause-taken
returns-else-preserve_whitespace-clause-taken g c =
    let seen = g.T.EqualCopy.seen in
    on_ok_weaker c.take_run.result (λ run. run_taken (seen c.args.main_tag.now) (seen c.args.wrap_tag.now)
    (chars c.args.text.now) (text_of seen c.args.self.now) (text_of seen c.take_run.new.self)
    (sym c.preserve_whitespace.ensures ∙ c.if-preserve_whitespace.false) run) c.take_run.ensures.run
