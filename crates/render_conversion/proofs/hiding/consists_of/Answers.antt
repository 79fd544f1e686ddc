use Rattle.std.proofs.Common.{[], ap, chars, refl, sym, ◌∙◌}
use Rattle.tree_names.proofs.SetLemmas.{other_words}
use Rattle.render_conversion.specs.Hiding.{is_blank_rest}
use Rattle.render_conversion.proofs.HidingLemmas.{none_after, word_read}
use Rattle.render_conversion.proofs.hiding.consists_of.Goals as goal

pub loop-word-init : goal.loop-word-init
loop-word-init c = record { text = c.utf8.text; ascii = c.requires; same = refl }

pub loop-word-preserved : goal.loop-word-preserved
loop-word-preserved c = record {
  text = c.in-Some.ensures.utf8;
  ascii = other_words c.args.words.now c.loop-word.word-index (record { ref_ptr = (0, 0); now = [] })
      c.loop-word-test.true c.loop-word.invariant.ascii;
  same = sym (word_read c.args.words.now c.loop-word.word-index _ (chars c.loop-word.rest.now)
      (chars c.trimmed.result.now) _ c.loop-word-test.true c.loop-word.invariant.ascii c.trimmed.ensures.rest
      c.in-Some.ensures.value) ∙ c.loop-word.invariant.same;
}

pub returns-in-None : goal.returns-in-None
returns-in-None c = ap is_blank_rest (sym (word_read c.args.words.now c.loop-word.word-index _
    (chars c.loop-word.rest.now) (chars c.trimmed.result.now) _ c.loop-word-test.true c.loop-word.invariant.ascii
    c.trimmed.ensures.rest c.in-None.ensures.value) ∙ c.loop-word.invariant.same)

pub returns : goal.returns
returns c = c.is_blank.ensures ∙ ap is_blank_rest
    (sym (none_after c.args.words.now c.loop-word.word-index (chars c.loop-word.rest.now) c.loop-word-test.false)
    ∙ c.loop-word.invariant.same)
