use Rattle.text_normal.proofs.SpacedLemmas.{words_start, words_more, word_shorter}
use Rattle.text_normal.proofs.spaced_words.words_in_front.Goals as goal

pub loop-more-init : goal.loop-more-init
loop-more-init c = record { text = c.utf8.text; words = words_start c.args.text.now c.args.room }

pub loop-more-smaller : goal.loop-more-smaller
loop-more-smaller c = word_shorter c.loop-more.rest.now c.in-Some.trailing.now c.in-Some.more _ c.in-Some.ensures.word

pub loop-more-preserved : goal.loop-more-preserved
loop-more-preserved c =
    record {
      text = c.in-Some.ensures.text;
      words = words_more c.args.text.now c.loop-more.rest.now c.in-Some.trailing.now c.loop-more.columns c.in-Some.more
          c.args.room c.loop-more.invariant.words c.in-Some.ensures.word;
    }
