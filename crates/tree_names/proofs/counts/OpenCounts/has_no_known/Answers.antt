use Rattle.std.proofs.Common.{arith, refl, slice_index_or, sym, true, ap, ◌∙◌}
use Rattle.std.proofs.lemmas.Bool.{and_parts, eqb-false, eqb-true}
use Rattle.lex_base.specs.Known.{known_text}
use Rattle.tree_names.specs.Counts.{counted_names, counts_of}
use Rattle.html_lexemes.specs.declared.names.Namespace.TheVariants.{Html}
use Rattle.tree_names.specs.Sets.{is_one_of}
use Rattle.tree_names.proofs.CountLemmas.{has_count_in, none_counted, some_counted}
use Rattle.tree_names.proofs.counts.OpenCounts.has_no_known.Goals as goal

pub returns-clause-none : goal.returns-clause-none
returns-clause-none c names are is = none_counted (known_text c.args.known) names
    (ap (λ k. slice_index_or (counts_of names) k 0) (sym c.place_of_known.ensures)
    ∙ ap (λ l. slice_index_or l c.place_of_known.result 0) (sym (c.self.view_is ∙ are)) ∙ eqb-true _ 0 is)

pub returns-clause-some : goal.returns-clause-some
returns-clause-some c names are is counts =
    let word = known_text c.args.known in
    some_counted word (and_parts (is_one_of counted_names word) true counts).0 names
    (λ none. eqb-false _ 0 is (ap (λ l. slice_index_or l c.place_of_known.result 0) (c.self.view_is ∙ are)
    ∙ ap (λ k. slice_index_or (counts_of names) k 0) c.place_of_known.ensures ∙ none))

pub offset_bounds-self-inside-place_of_known : goal.offset_bounds-self-inside-place_of_known
offset_bounds-self-inside-place_of_known c =
    omega (arith, c.place_of_known.ensures, has_count_in Html (known_text c.args.known))

pub bounds-self-inside-place_of_known : goal.bounds-self-inside-place_of_known
bounds-self-inside-place_of_known c =
    omega (arith, c.place_of_known.ensures, has_count_in Html (known_text c.args.known))

pub place_of_known-requires : goal.place_of_known-requires
place_of_known-requires c = refl
