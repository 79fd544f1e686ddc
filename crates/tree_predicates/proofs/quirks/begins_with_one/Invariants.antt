use Rattle.std.proofs.Common.{◌≡◌, IsTrue, chars, drop}
use Rattle.tree_names.specs.Sets.{are_ascii, words_of}
use Rattle.tree_predicates.specs.Attributes.{in_lower_case}
use Rattle.tree_predicates.specs.Quirks.{begins_with_one}
use Rattle.tree_predicates.proofs.quirks.begins_with_one.Given as goal

abbrev pub invariant-loop-word : goal.invariant-loop-word
invariant-loop-word l = IsTrue (are_ascii (words_of (drop l.word-index l.words)))
    × (begins_with_one (words_of l.words) (in_lower_case (chars l.text))
    ≡ begins_with_one (words_of (drop l.word-index l.words)) (in_lower_case (chars l.text)))
