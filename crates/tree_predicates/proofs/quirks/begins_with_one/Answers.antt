use Rattle.std.proofs.Common.{ℕ, List, [], chars, refl, sym, ◌∙◌}
use Rattle.std.specs.Borrow.{Bor}
use Rattle.tree_names.proofs.SetLemmas.{other_words}
use Rattle.tree_predicates.specs.Attributes.{in_lower_case}
use Rattle.tree_predicates.proofs.BeginningLemmas.{begins_here, begins_later, none_begins}
use Rattle.tree_predicates.proofs.quirks.begins_with_one.Goals as goal

abbrev nothing : Bor (List ℕ)
nothing = record { ref_ptr = (0, 0); now = [] }

pub loop-word-init : goal.loop-word-init
loop-word-init c = (c.requires, refl)

pub loop-word-preserved : goal.loop-word-preserved
loop-word-preserved c = (
  other_words c.args.words.now c.loop-word.word-index nothing c.loop-word-test.true c.loop-word.invariant.0,
  c.loop-word.invariant.1 ∙ begins_later c.args.words.now c.loop-word.word-index nothing
      (in_lower_case (chars c.args.text.now)) c.loop-word-test.true c.if-begins_in_lower_case.ensures,
)

pub returns-then-begins_in_lower_case : goal.returns-then-begins_in_lower_case
returns-then-begins_in_lower_case c = begins_here c.args.words.now c.loop-word.word-index nothing
    (in_lower_case (chars c.args.text.now)) c.loop-word-test.true c.if-begins_in_lower_case.ensures
    ∙ sym c.loop-word.invariant.1

pub returns : goal.returns
returns c = none_begins c.args.words.now c.loop-word.word-index (in_lower_case (chars c.args.text.now))
    c.loop-word-test.false ∙ sym c.loop-word.invariant.1
