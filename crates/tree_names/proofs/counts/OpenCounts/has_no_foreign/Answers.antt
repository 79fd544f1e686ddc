use Rattle.std.proofs.Common.{arith, chars, slice_index_or, sym, ap, ◌∙◌}
use Rattle.std.proofs.lemmas.Bool.{eqb-true}
use Rattle.tree_names.specs.Counts.{counts_of, shared_count}
use Rattle.tree_names.proofs.CountLemmas.{none_foreign, shared_within}
use Rattle.tree_names.proofs.counts.OpenCounts.has_no_foreign.Goals as goal

pub returns : goal.returns
returns c names are is = none_foreign c.args.name.now names
    (ap (λ k. slice_index_or (counts_of names) k 0)
    (ap shared_count (sym c.as_str.ensures) ∙ sym c.shared_place.ensures)
    ∙ ap (λ l. slice_index_or l c.shared_place.result 0) (sym (c.self.view_is ∙ are)) ∙ eqb-true _ 0 is)

pub offset_bounds-self-inside-shared_place : goal.offset_bounds-self-inside-shared_place
offset_bounds-self-inside-shared_place c =
    omega (arith, c.shared_place.ensures, shared_within (chars c.as_str.result.now))

pub bounds-self-inside-shared_place : goal.bounds-self-inside-shared_place
bounds-self-inside-shared_place c = omega (arith, c.shared_place.ensures, shared_within (chars c.as_str.result.now))
