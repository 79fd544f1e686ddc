use Rattle.text_normal.proofs.SpacedEnds.{line_ends}
use Rattle.std.proofs.Common.{arith}
use Rattle.text_normal.proofs.spaced_words.line_before_space.Goals as goal

pub returns-then-is_space-clause-line : goal.returns-then-is_space-clause-line
returns-then-is_space-clause-line c =
    line_ends c.args.text.now c.run_in_front-first.result.1.now c.words_in_front-more.result.1.now
    c.run_in_front-first.result.0 c.words_in_front-more.result.0 c.args.room c.run_in_front-first.ensures.run
    c.words_in_front-more.ensures.words (λ e. omega (arith, e, c.if-first-gt0.true))
    (c.is_space.ensures c.if-is_space.true)
