use Rattle.text_normal.proofs.SpacedLemmas.{run_starts, run_more}
use Rattle.text_normal.proofs.spaced_words.run_in_front.Goals as goal

pub loop-c-init : goal.loop-c-init
loop-c-init c = record { text = c.utf8.text; run = run_starts c.args.text.now c.args.room }

pub loop-c-preserved : goal.loop-c-preserved
loop-c-preserved c =
    record {
      text = c.in-Some.ensures.texts.1;
      run = run_more c.args.text.now c.loop-c.rest.now c.in-Some.trailing.now c.in-Some.c c.loop-c.columns c.args.room
          c.loop-c.invariant.run c.in-Some.ensures.first c.in-Some.ensures.texts.0
          (c.is_visible_ascii.ensures.0 c.if-not-is_visible_ascii.false) c.if-columns-room.false;
    }
