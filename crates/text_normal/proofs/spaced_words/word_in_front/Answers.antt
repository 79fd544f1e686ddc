use Rattle.text_normal.proofs.SpacedLemmas.{word_found}
use Rattle.text_normal.proofs.spaced_words.word_in_front.Goals as goal

pub returns-clause-word : goal.returns-clause-word
returns-clause-word c =
    word_found c.args.text.now c.in_ok-space.trailing.now c.run_in_front-columns.result.1.now c.in_ok-space.space
    c.run_in_front-columns.result.0 c.args.room c.in_ok-space.ensures.first c.in_ok-space.ensures.texts.0
    c.if-space-ne32.false c.run_in_front-columns.ensures.run c.if-columns-eq0.false c.if-room-eq0.false
