use Rattle.std.proofs.Common.{refl, sym, ◌∙◌}
use Rattle.text_normal.proofs.WordLemmas.{leaves_start, leaves_more, begins_here, begins_nothing}
use Rattle.text_normal.proofs.word_ends.from_word.Goals as goal

pub loop-c-init : goal.loop-c-init
loop-c-init c = record { text = c.utf8.text; leaves = leaves_start c.args.text.now }

pub loop-c-preserved : goal.loop-c-preserved
loop-c-preserved c = record {
  text = c.in-Some.ensures.texts.1;
  leaves = leaves_more c.args.text.now c.loop-c.rest.now c.in-Some.after.now c.in-Some.c c.loop-c.invariant.leaves
      c.in-Some.ensures.first c.in-Some.ensures.texts.0 (sym c.is_carrier.ensures ∙ c.if-is_carrier.false);
}

pub returns-then-is_carrier-clause-begins : goal.returns-then-is_carrier-clause-begins
returns-then-is_carrier-clause-begins c = begins_here c.loop-c.rest.now c.in-Some.after.now c.in-Some.c
    c.loop-c.invariant.text c.in-Some.ensures.first (sym c.is_carrier.ensures ∙ c.if-is_carrier.true)

pub returns-clause-begins : goal.returns-clause-begins
returns-clause-begins c = begins_nothing c.loop-c.rest.now (c.in_default.ensures.none refl)
