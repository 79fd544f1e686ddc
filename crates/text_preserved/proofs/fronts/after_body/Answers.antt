use Rattle.std.proofs.Common.{sym, ◌∙◌}
use Rattle.text_preserved.specs.Fronts.{JoinsBody}
use Rattle.text_preserved.proofs.FrontLemmas.{front_none, front_more, joins_more}
use Rattle.text_preserved.proofs.fronts.after_body.Goals as goal

pub loop-c-init : goal.loop-c-init
loop-c-init c = record {
  text = c.utf8.text;
  runs = front_none (JoinsBody c.args.width c.args.wraps) c.args.text.now tt;
}

pub loop-c-preserved : goal.loop-c-preserved
loop-c-preserved c =
    record {
      text = c.in-Some.ensures.texts.1;
      runs = front_more (JoinsBody c.args.width c.args.wraps) (JoinsBody c.args.width c.args.wraps) c.args.text.now
          c.loop-c.rest.now c.in-Some.after.now c.in-Some.c c.loop-c.invariant.runs c.in-Some.ensures.first
          c.in-Some.ensures.texts.0 (joins_more c.args.width c.args.wraps c.in-Some.c
          (sym c.goes_on_with.ensures ∙ c.if-not-goes_on_with.false));
    }
