use Rattle.std.proofs.Common.{refl, sym, ap, ◌∙◌, chars}
use Rattle.std.proofs.lemmas.Str.{chars-nil}
use Rattle.text_normal.specs.MarkedStates.{in_word_after}
use Rattle.text_normal.proofs.WordLemmas.{after_last, at_break, at_shown, at_nothing}
use Rattle.text_normal.proofs.word_ends.ends_in_word.Goals as goal

pub returns-then-is_break_point : goal.returns-then-is_break_point
returns-then-is_break_point c =
    let last = after_last c.args.width c.args.in_word c.loop-before.rest.now c.in-Some.before.now c.in-Some.c
    c.in-Some.ensures.last c.in-Some.ensures.texts.0 c.in-Some.ensures.texts.1 in
    sym (c.loop-before.invariant.same ∙ last
    ∙ at_break c.args.width _ c.in-Some.c (sym c.is_break_point.ensures ∙ c.if-is_break_point.true))

pub returns-in-Some-columns : goal.returns-in-Some-columns
returns-in-Some-columns c =
    let last = after_last c.args.width c.args.in_word c.loop-before.rest.now c.in-Some.before.now c.in-Some.c
    c.in-Some.ensures.last c.in-Some.ensures.texts.0 c.in-Some.ensures.texts.1 in
    sym (c.loop-before.invariant.same ∙ last
    ∙ at_shown c.args.width _ c.in-Some.c c.in-Some-columns.columns (sym c.is_break_point.ensures
    ∙ c.if-is_break_point.false) (sym c.columns.ensures ∙ c.in-Some-columns.is))

pub loop-before-preserved : goal.loop-before-preserved
loop-before-preserved c =
    let last = after_last c.args.width c.args.in_word c.loop-before.rest.now c.in-Some.before.now c.in-Some.c
    c.in-Some.ensures.last c.in-Some.ensures.texts.0 c.in-Some.ensures.texts.1 in
    record {
      text = c.in-Some.ensures.texts.0;
      same = c.loop-before.invariant.same ∙ last
          ∙ at_nothing c.args.width _ c.in-Some.c (sym c.is_break_point.ensures ∙ c.if-is_break_point.false)
          (sym c.columns.ensures ∙ c.in_default-columns.is);
    }

pub returns : goal.returns
returns c = sym (c.loop-before.invariant.same ∙ ap (in_word_after c.args.width c.args.in_word)
    (ap chars (c.in_default.ensures.none refl) ∙ chars-nil))
