use Rattle.std.specs.Str.Iter.{chars_rest}
use Rattle.std.proofs.Common.{◌++◌}
use Rattle.html_lexemes.specs.QueueParts.{joined}
use Rattle.html_lexemes.proofs.ComparedLemmas.{IsComparing}
use Rattle.html_lexemes.proofs.queue.begins_with.Given as goal

abbrev pub invariant-compared : goal.invariant-compared
invariant-compared g l =
    IsComparing (λ a b r. goal.F-post g l.eq a b r) (l.first ++ joined l.later.items) l.pattern l.later.items
    (chars_rest l.rest) l.passed l.yielded (chars_rest l.wanted-iterator)
