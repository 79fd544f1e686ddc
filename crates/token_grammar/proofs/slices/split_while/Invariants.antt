use Rattle.token_grammar.specs.Classes.{is_of}
use Rattle.token_grammar.proofs.SliceLemmas.{IsSplitting}
use Rattle.token_grammar.proofs.slices.split_while.Given as goal

abbrev pub invariant-split : goal.invariant-split
invariant-split l = record {
  so_far : IsSplitting (is_of l.class) l.text l.c-iterator.rest.now l.length;
  can_next : (goal.iterator-split).can_next l.c-iterator;
  is_finite : (goal.iterator-split).is_finite l.c-iterator;
}
