use Rattle.std.proofs.Common.{◌≡◌}
use Rattle.std.specs.Cmp.Lexicographic.{nat_list_cmp_total}
use Rattle.lex_base.specs.Table.{reference_of}
use Rattle.lex_base.proofs.SortedEntries.{place_after}
use Rattle.lex_base.proofs.LongerNames.{after_found_name, after_missed_name, some_longer, no_longer}
use Rattle.lex_base.proofs.table.ReferenceTable.has_longer_name.Goals as goal
use Rattle.lex_base.proofs.table.ReferenceTable.has_longer_name.Goals.{in-Ok, in-Err}

pub returns : goal.returns
returns c =
    let at : c.match-place_of.trailing ≡ place_after nat_list_cmp_total reference_of c.place_of.result = elim c.match-place_of.branch [ in-Ok w ↦ after_found_name _ _ _ w.trailing-is w.in-Ok.is | in-Err w ↦ after_missed_name _ _ _ w.trailing-is w.in-Err.is ] in
    some_longer c.as_slice-references.result.now c.self.inside.references.items c.args.self.now c.args.text.now c.place_of.result c.match-place_of.trailing
    c.as_slice-references.ensures.value c.self.view_is c.self.invariant.order at (c.place_of.ensures.bound, c.place_of.ensures.position)
    c.as_str.result.now c.in-Some.longer.now c.starts_with.result c.in-Some.ensures.lookup.1 c.in-Some.ensures.lookup.3.0 c.as_str.ensures.value c.utf8.text c.starts_with.ensures.cases

pub returns-in_default : goal.returns-in_default
returns-in_default c =
    let at : c.match-place_of.trailing ≡ place_after nat_list_cmp_total reference_of c.place_of.result = elim c.match-place_of.branch [ in-Ok w ↦ after_found_name _ _ _ w.trailing-is w.in-Ok.is | in-Err w ↦ after_missed_name _ _ _ w.trailing-is w.in-Err.is ] in
    no_longer c.as_slice-references.result.now c.self.inside.references.items c.args.self.now c.args.text.now c.place_of.result c.match-place_of.trailing
    c.as_slice-references.ensures.value c.self.view_is c.self.invariant.order at (c.place_of.ensures.bound, c.place_of.ensures.position) c.in_default.ensures.lookup.3
