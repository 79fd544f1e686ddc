use Rattle.std.proofs.Common.{chars}
use Rattle.token_grammar.specs.Slices.{after}
use Rattle.token_grammar.proofs.SliceLemmas.{IsCutting}
use Rattle.token_grammar.proofs.slices.cut_at.Given as goal

abbrev pub invariant-cut : goal.invariant-cut
invariant-cut l = record {
  so_far : IsCutting (after (chars l.mark)) l.text l.c-iterator.rest.now l.length;
  can_next : (goal.iterator-cut).can_next l.c-iterator;
  is_finite : (goal.iterator-cut).is_finite l.c-iterator;
}
