use Rattle.std.proofs.Common.{Some, inr, refl, sym, ap, ◌∙◌, chars, string_bytes, get_or}
use Rattle.std.proofs.lemmas.Bool.{both_ways}
use Rattle.lex_base.proofs.TableSearch.{value_found, value_missed}
use Rattle.lex_base.proofs.TableBeginnings.{at_place, some_place, no_place}
use Rattle.lex_base.proofs.table.ReferenceTable.begun.Goals as goal

pub returns-in-Ok : goal.returns-in-Ok
returns-in-Ok c =
    let l = c.as_slice-references.result.now in
    let found = value_found l c.self.inside.references.items c.args.self.now (chars c.args.text.now)
    c.as_slice-references.ensures.value c.self.view_is c.self.invariant.order c.in-Ok.found
    c.index-references-found.result
    (c.in-Ok.ensures.bound, c.in-Ok.ensures.position)
    in
    let value = c.as_str-value.ensures.value
    ∙ ap (λ x. string_bytes (get_or x c.in-Ok.found c.index-references-found.result).value)
    c.as_slice-references.ensures.value
    in
    (refl, found ∙ ap (λ v. Some (chars v)) (sym value))

pub returns-in_default : goal.returns-in_default
returns-in_default c has =
    let wrong =
    (no_place c.as_slice-references.result.now c.self.inside.references.items c.args.self.now c.args.text.now
    c.place_of.result c.in-Err.at c.as_slice-references.ensures.value c.self.view_is c.self.invariant.order
    (at_place _ _ c.in-Err.at refl (inr c.in-Err.is)) (c.place_of.ensures.bound, c.place_of.ensures.position)
    c.in_default.ensures.lookup.3).1 has
    in
    cc

pub returns-then-starts_with : goal.returns-then-starts_with
returns-then-starts_with c =
    value_missed c.as_slice-references.result.now c.self.inside.references.items c.args.self.now (chars c.args.text.now)
    c.as_slice-references.ensures.value c.self.view_is c.self.invariant.order c.in-Err.at
    (c.in-Err.ensures.bound, c.in-Err.ensures.position)

pub returns : goal.returns
returns c has =
    let begins =
    (some_place c.as_slice-references.result.now c.self.inside.references.items c.args.self.now c.args.text.now
    c.as_str.result.now c.place_of.result c.in-Err.at c.in-Some.reference.now c.starts_with.result
    c.as_slice-references.ensures.value c.self.view_is c.self.invariant.order
    (at_place _ _ c.in-Err.at refl (inr c.in-Err.is)) (c.place_of.ensures.bound, c.place_of.ensures.position)
    c.in-Some.ensures.lookup.1 c.in-Some.ensures.lookup.3.0 c.as_str.ensures.value c.utf8.text
    c.starts_with.ensures.cases).1 has
    in
    both_ways c.starts_with.result c.if-starts_with.false begins
