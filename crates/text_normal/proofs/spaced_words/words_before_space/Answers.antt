use Rattle.text_normal.proofs.SpacedEnds.{words_end}
use Rattle.text_normal.proofs.spaced_words.words_before_space.Goals as goal

pub returns-then-is_space-clause-words : goal.returns-then-is_space-clause-words
returns-then-is_space-clause-words c =
    words_end c.args.text.now c.words_in_front-columns.result.1.now c.words_in_front-columns.result.0 c.args.room
    c.words_in_front-columns.ensures.words (c.is_space.ensures c.if-is_space.true)
