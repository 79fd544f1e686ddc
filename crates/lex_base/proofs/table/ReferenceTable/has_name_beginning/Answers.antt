use Rattle.std.proofs.Common.{◌≡◌}
use Rattle.std.specs.Cmp.Lexicographic.{nat_list_cmp_total}
use Rattle.lex_base.specs.Table.{reference_of}
use Rattle.lex_base.proofs.SortedEntries.{place_in}
use Rattle.lex_base.proofs.TableBeginnings.{at_place, some_place, no_place}
use Rattle.lex_base.proofs.table.ReferenceTable.has_name_beginning.Goals as goal
use Rattle.lex_base.proofs.table.ReferenceTable.has_name_beginning.Goals.{in-Ok, in-Ok-2}

pub returns-in-Some : goal.returns-in-Some
returns-in-Some c =
    let at : c.match-place_of.at ≡ place_in nat_list_cmp_total reference_of c.place_of.result = elim c.match-place_of.branch [ in-Ok w ↦ at_place _ _ _ w.at-is w.in-Ok.is | in-Ok-2 w ↦ at_place _ _ _ w.at-is w.in-Ok.is ] in
    some_place c.as_slice-references.result.now c.self.inside.references.items c.args.self.now c.args.text.now c.as_str.result.now c.place_of.result c.match-place_of.at c.in-Some.reference.now c.starts_with.result
    c.as_slice-references.ensures.value c.self.view_is c.self.invariant.order at (c.place_of.ensures.bound, c.place_of.ensures.position) c.in-Some.ensures.lookup.1 c.in-Some.ensures.lookup.3.0 c.as_str.ensures.value c.utf8.text c.starts_with.ensures.cases

pub returns-in-None : goal.returns-in-None
returns-in-None c =
    let at : c.match-place_of.at ≡ place_in nat_list_cmp_total reference_of c.place_of.result = elim c.match-place_of.branch [ in-Ok w ↦ at_place _ _ _ w.at-is w.in-Ok.is | in-Ok-2 w ↦ at_place _ _ _ w.at-is w.in-Ok.is ] in
    no_place c.as_slice-references.result.now c.self.inside.references.items c.args.self.now c.args.text.now c.place_of.result c.match-place_of.at
    c.as_slice-references.ensures.value c.self.view_is c.self.invariant.order at (c.place_of.ensures.bound, c.place_of.ensures.position) c.in-None.ensures.lookup.3
