use Rattle.rules_steps.specs.Runs.{is_alike}
use Rattle.token_grammar.proofs.SliceLemmas.{IsSplitting}
use Rattle.rules_steps.proofs.runs.split_alike.Given as goal

abbrev pub invariant-split : goal.invariant-split
invariant-split l = record {
  so_far : IsSplitting (is_alike l.is_space) l.text l.c-iterator.rest.now l.length;
  can_next : (goal.iterator-split).can_next l.c-iterator;
  is_finite : (goal.iterator-split).is_finite l.c-iterator;
}
