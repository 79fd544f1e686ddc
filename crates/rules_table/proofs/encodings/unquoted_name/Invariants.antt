use Rattle.std.proofs.Common.{not}
use Rattle.token_grammar.proofs.SliceLemmas.{IsSplitting}
use Rattle.rules_table.specs.Encodings.{ends_name}
use Rattle.rules_table.proofs.encodings.unquoted_name.Given as goal

abbrev pub invariant-name : goal.invariant-name
invariant-name l = record {
  so_far : IsSplitting (λ d. not (ends_name d)) l.text l.c-iterator.rest.now l.length;
  can_next : (goal.iterator-name).can_next l.c-iterator;
  is_finite : (goal.iterator-name).is_finite l.c-iterator;
}
