use Rattle.std.proofs.Common.{sym, ap, ◌∙◌, chars, refl, arith}
use Rattle.std.proofs.lemmas.Str.{chars-nil, chars_past_char}
use Rattle.text_preserved.specs.Fronts.{has_wider}
use Rattle.text_preserved.proofs.FrontLemmas.{has_wider-none, wider_here, wider_after}
use Rattle.text_preserved.proofs.fronts.has_wider.Goals as goal

pub returns-then-width-ge2 : goal.returns-then-width-ge2
returns-then-width-ge2 c =
    sym (has_wider-none c.args.width (chars c.args.text.now) (omega (arith, c.if-width-ge2.true)))

pub returns-then-width_of-width : goal.returns-then-width_of-width
returns-then-width_of-width c =
    sym (wider_here c.args.width c.in-Some.c (chars c.in-Some.after.now) (chars c.loop-c.rest.now)
    (chars_past_char c.loop-c.rest.now c.in-Some.after.now c.in-Some.c c.loop-c.invariant.text
    c.in-Some.ensures.first) (omega (arith, c.width_of.ensures, c.if-width_of-width.true)))
    ∙ c.loop-c.invariant.wider

pub loop-c-preserved : goal.loop-c-preserved
loop-c-preserved c =
    record {
      text = c.in-Some.ensures.texts.1;
      wider = wider_after c.args.width c.in-Some.c (chars c.in-Some.after.now) (chars c.loop-c.rest.now)
          (chars_past_char c.loop-c.rest.now c.in-Some.after.now c.in-Some.c c.loop-c.invariant.text
          c.in-Some.ensures.first) (omega (arith, c.width_of.ensures, c.if-width_of-width.false))
          ∙ c.loop-c.invariant.wider;
    }

pub returns : goal.returns
returns c = sym (ap (has_wider c.args.width) (ap chars (c.in_default.ensures.none refl) ∙ chars-nil))
    ∙ c.loop-c.invariant.wider
