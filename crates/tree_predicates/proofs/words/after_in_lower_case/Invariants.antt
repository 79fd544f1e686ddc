use Rattle.std.specs.Str.{chars}
use Rattle.std.specs.Str.Iter.{chars_rest}
use Rattle.tree_predicates.proofs.WordLemmas.{IsSpelling}
use Rattle.tree_predicates.proofs.words.after_in_lower_case.Given as goal

abbrev pub invariant-word : goal.invariant-word
invariant-word l = IsSpelling l.text (chars l.word) l.yielded (chars_rest l.rest) (chars_rest l.wanted-iterator)
