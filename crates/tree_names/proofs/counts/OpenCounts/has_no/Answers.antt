use Rattle.std.proofs.Common.{arith, slice_index_or, sym, true, ap, ◌∙◌}
use Rattle.std.proofs.lemmas.Bool.{and_parts, eqb-false, eqb-true}
use Rattle.tree_names.specs.Counts.{counted_names, counts_of}
use Rattle.html_lexemes.specs.declared.names.Namespace.TheVariants.{Html}
use Rattle.tree_names.specs.Sets.{is_one_of}
use Rattle.tree_names.proofs.CountLemmas.{has_count_in, none_counted, some_counted}
use Rattle.tree_names.proofs.counts.OpenCounts.has_no.Goals as goal

pub returns-clause-none : goal.returns-clause-none
returns-clause-none c names are is = none_counted c.args.name.now names
    (ap (λ k. slice_index_or (counts_of names) k 0) (sym c.place_in_html.ensures)
    ∙ ap (λ l. slice_index_or l c.place_in_html.result 0) (sym (c.self.view_is ∙ are)) ∙ eqb-true _ 0 is)

pub returns-clause-some : goal.returns-clause-some
returns-clause-some c names are is counts =
    let word = c.args.name.now in
    some_counted word (and_parts (is_one_of counted_names word) true counts).0 names
    (λ none. eqb-false _ 0 is (ap (λ l. slice_index_or l c.place_in_html.result 0) (c.self.view_is ∙ are)
    ∙ ap (λ k. slice_index_or (counts_of names) k 0) c.place_in_html.ensures ∙ none))

pub offset_bounds-self-inside-place_in_html : goal.offset_bounds-self-inside-place_in_html
offset_bounds-self-inside-place_in_html c = omega (arith, c.place_in_html.ensures, has_count_in Html c.args.name.now)

pub bounds-self-inside-place_in_html : goal.bounds-self-inside-place_in_html
bounds-self-inside-place_in_html c = omega (arith, c.place_in_html.ensures, has_count_in Html c.args.name.now)
