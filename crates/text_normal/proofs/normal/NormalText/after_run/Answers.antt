use Rattle.text_normal.proofs.NormalRuns.{runs_start, runs_more}
use Rattle.text_normal.proofs.normal.NormalText.after_run.Goals as goal

pub loop-c-init : goal.loop-c-init
loop-c-init g c = record { text = c.utf8.text; runs = runs_start c.args.self.now c.args.text.now }

pub loop-c-preserved : goal.loop-c-preserved
loop-c-preserved g c =
    record {
      text = c.in-Some.ensures.texts.1;
      runs = runs_more c.args.self.now c.args.text.now c.loop-c.rest.now c.in-Some.after.now c.in-Some.c
          c.loop-c.invariant.runs c.in-Some.ensures.first c.in-Some.ensures.texts.0
          (c.joins_word.ensures c.if-not-joins_word.false);
    }
