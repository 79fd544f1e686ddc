use Rattle.std.proofs.Common.{refl, arith}
use Rattle.text_preserved.proofs.WordLemmas.{nothing_read, no_words, more_read, words_next, which}
use Rattle.text_preserved.proofs.fronts.after_words.Goals as goal

pub loop-c-init : goal.loop-c-init
loop-c-init c = record {
  text = c.utf8.text;
  after_text = c.utf8.text;
  runs = nothing_read c.args.width c.args.room c.args.text.now;
  words = no_words c.args.width c.args.room c.args.text.now;
}

pub returns-then-columns-left : goal.returns-then-columns-left
returns-then-columns-left c = words_next c.args.width c.args.room c.loop-c.left c.in-Some.c c.loop-c.in_word
    c.args.text.now c.loop-c.rest.now c.loop-c.trailing.now c.rest_after_word-trailing.result.now c.in-Some.after.now
    c.loop-c.invariant.runs c.loop-c.invariant.words c.loop-c.invariant.text c.in-Some.ensures.first
    c.rest_after_word-trailing.ensures

pub loop-c-preserved : goal.loop-c-preserved
loop-c-preserved c =
    record {
      text = c.in-Some.ensures.texts.1;
      after_text = c.rest_after_word-trailing.utf8;
      runs = more_read c.args.width c.args.room c.loop-c.left c.width_of-columns.result c.in-Some.c c.loop-c.in_word _
          c.args.text.now c.loop-c.rest.now c.in-Some.after.now c.loop-c.invariant.runs c.in-Some.ensures.first
          c.in-Some.ensures.texts.0 c.width_of-columns.ensures (omega (arith, c.if-columns-left.false))
          (which c.args.width c.in-Some.c c.is_word_or_space.result c.is_word_or_space.ensures
          c.if-not-is_word_or_space.false) refl;
      words = words_next c.args.width c.args.room c.loop-c.left c.in-Some.c c.loop-c.in_word
          c.args.text.now c.loop-c.rest.now c.loop-c.trailing.now c.rest_after_word-trailing.result.now c.in-Some.after.now
          c.loop-c.invariant.runs c.loop-c.invariant.words c.loop-c.invariant.text c.in-Some.ensures.first
          c.rest_after_word-trailing.ensures;
    }
