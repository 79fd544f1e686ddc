use Rattle.std.proofs.Common.{◌≡◌, IsTrue, chars, drop}
use Rattle.tree_names.specs.Sets.{are_ascii, is_one_of, words_of}
use Rattle.tree_names.proofs.sets.is_one_of.Given as goal

abbrev pub invariant-loop-word : goal.invariant-loop-word
invariant-loop-word l = IsTrue (are_ascii (words_of (drop l.word-index l.words)))
    × (is_one_of (words_of l.words) (chars l.name) ≡ is_one_of (words_of (drop l.word-index l.words)) (chars l.name))
