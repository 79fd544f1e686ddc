use Rattle.std.proofs.Common.{◌^◌, ◌-◌}
use Rattle.token_grammar.proofs.NumberLemmas.{IsCounting}
use Rattle.token_grammar.proofs.references.number_of.Given as goal

abbrev pub invariant-digits : goal.invariant-digits
invariant-digits l = record {
  so_far : IsCounting l.base (2 ^ 32 - 1) l.digits l.digit-iterator.rest.now l.number;
  can_next : (goal.iterator-digits).can_next l.digit-iterator;
  is_finite : (goal.iterator-digits).is_finite l.digit-iterator;
}
