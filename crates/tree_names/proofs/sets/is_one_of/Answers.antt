use Rattle.std.proofs.Common.{[], refl, sym, ap, ◌∙◌}
use Rattle.tree_names.specs.Sets.{is_one_of, words_of}
use Rattle.tree_names.proofs.SetLemmas.{found, not_found, none_left, other_words}
use Rattle.tree_names.proofs.sets.is_one_of.Goals as goal

pub loop-word-init : goal.loop-word-init
loop-word-init c = (c.requires, refl)

pub returns-then-eq : goal.returns-then-eq
returns-then-eq c = found c.args.words.now c.loop-word.word-index _ _ c.as_str-name.utf8 c.loop-word-test.true
    c.loop-word.invariant.0
    c.if-eq.ensures ∙ (sym c.loop-word.invariant.1 ∙ ap (λ n. is_one_of (words_of c.args.words.now) n)
    c.as_str-name.ensures)

pub loop-word-preserved : goal.loop-word-preserved
loop-word-preserved c = (
  other_words c.args.words.now c.loop-word.word-index (record { ref_ptr = (0, 0); now = [] }) c.loop-word-test.true
      c.loop-word.invariant.0,
  c.loop-word.invariant.1 ∙ not_found c.args.words.now c.loop-word.word-index _ _ c.as_str-name.utf8
      c.loop-word-test.true c.loop-word.invariant.0
      c.if-eq.ensures,
)

pub returns : goal.returns
returns c = none_left c.args.words.now c.loop-word.word-index _ c.loop-word-test.false
    ∙ (sym c.loop-word.invariant.1 ∙ ap (λ n. is_one_of (words_of c.args.words.now) n) c.as_str-name.ensures)
