use Rattle.std.proofs.Common.{◌≡◌, ◌<◌, ◌++◌, ◌∷◌, [], ◌∙◌, List, ap, arith, get_or, length, map, subst, sym, take_all}
use Rattle.std.proofs.Common.{ℕ}
use Rattle.std.proofs.lemmas.List.FromFn.{length-map-range_with_len}
use Rattle.std.proofs.lemmas.List.{get_or_default}
use Rattle.table_grid.specs.declared.part.Part.{Part}
use Rattle.table_grid.specs.Columns.{greatest_at, greatest_parts_of, AreWithin}
use Rattle.table_grid.specs.declared.columns.Column.{Column}
use Rattle.table_grid.specs.Grid.{size_part, least_part}
use Rattle.table_grid.proofs.PartLemmas.{sizes_within, leasts_within, columns_more}
use Rattle.table_grid.proofs.columns.columns_of.Goals as goal

pub greatest_parts-requires-clause-within : goal.greatest_parts-requires-clause-within
greatest_parts-requires-clause-within c =
    let e : c.as_slice.result.now ≡ map size_part c.args.cells.now =
    c.as_slice.ensures.value ∙ c.loop-s.invariant.sizes
    ∙ ap (map size_part) (take_all c.loop-s.s-index c.args.cells.now (omega arith)) in
    subst (λ (xs : List Part). AreWithin xs c.args.count) (sym e)
    (sizes_within c.args.cells.now c.args.count c.requires.some c.requires.within)

pub greatest_parts-requires-2-clause-within : goal.greatest_parts-requires-2-clause-within
greatest_parts-requires-2-clause-within c =
    let e : c.as_slice-2.result.now ≡ map least_part c.args.cells.now =
    c.as_slice-2.ensures.value ∙ c.loop-s.invariant.leasts
    ∙ ap (map least_part) (take_all c.loop-s.s-index c.args.cells.now (omega arith)) in
    subst (λ (xs : List Part). AreWithin xs c.args.count) (sym e)
    (leasts_within c.args.cells.now c.args.count c.requires.some c.requires.within)

pub index-requires : goal.index-requires
index-requires c =
    let n : length c.in_ok-sizes.sizes.items ≡ c.args.count =
    ap (λ (xs : List ℕ). length xs) c.in_ok-sizes.ensures
    ∙ length-map-range_with_len (greatest_at c.as_slice.result.now) 0 c.args.count in
    omega arith

pub index-requires-in-loop-at : goal.index-requires-in-loop-at
index-requires-in-loop-at c =
    let n : length c.in_ok-leasts.leasts.items ≡ c.args.count =
    ap (λ (xs : List ℕ). length xs) c.in_ok-leasts.ensures
    ∙ length-map-range_with_len (greatest_at c.as_slice-2.result.now) 0 c.args.count in
    omega arith

pub loop-at-preserved : goal.loop-at-preserved
loop-at-preserved c =
    let n : length c.in_ok-sizes.sizes.items ≡ c.args.count =
    ap (λ (xs : List ℕ). length xs) c.in_ok-sizes.ensures
    ∙ length-map-range_with_len (greatest_at c.as_slice.result.now) 0 c.args.count in
    let m : length c.in_ok-leasts.leasts.items ≡ c.args.count =
    ap (λ (xs : List ℕ). length xs) c.in_ok-leasts.ensures
    ∙ length-map-range_with_len (greatest_at c.as_slice-2.result.now) 0 c.args.count in
    let sizes_in : c.loop-at.at < length c.in_ok-sizes.sizes.items = omega arith in
    let leasts_in : c.loop-at.at < length c.in_ok-leasts.leasts.items = omega arith in
    let es : c.as_slice.result.now ≡ map size_part c.args.cells.now =
    c.as_slice.ensures.value ∙ c.loop-s.invariant.sizes
    ∙ ap (map size_part) (take_all c.loop-s.s-index c.args.cells.now (omega arith)) in
    let el : c.as_slice-2.result.now ≡ map least_part c.args.cells.now =
    c.as_slice-2.ensures.value ∙ c.loop-s.invariant.leasts
    ∙ ap (map least_part) (take_all c.loop-s.s-index c.args.cells.now (omega arith)) in
    let s : c.index.result.now ≡ get_or (greatest_parts_of (map size_part c.args.cells.now) c.args.count) c.loop-at.at
    0 =
    c.index.ensures ∙ get_or_default c.in_ok-sizes.sizes.items c.loop-at.at c.index.result.now 0 sizes_in ∙
    ap (λ (xs : List ℕ). get_or xs c.loop-at.at 0)
    (c.in_ok-sizes.ensures ∙ ap (λ (xs : List Part). greatest_parts_of xs c.args.count) es) in
    let l : c.index-in-loop-at.result.now ≡ get_or (greatest_parts_of (map least_part c.args.cells.now) c.args.count)
    c.loop-at.at 0 =
    c.index-in-loop-at.ensures ∙ get_or_default c.in_ok-leasts.leasts.items c.loop-at.at c.index-in-loop-at.result.now 0
    leasts_in ∙
    ap (λ (xs : List ℕ). get_or xs c.loop-at.at 0)
    (c.in_ok-leasts.ensures ∙ ap (λ (xs : List Part). greatest_parts_of xs c.args.count) el) in
    c.in_ok-push-3.ensures.items
    ∙ ap (λ (xs : List Column). xs ++ record { size = c.index.result.now; least = c.index-in-loop-at.result.now } ∷
    []) c.loop-at.invariant ∙
    columns_more c.args.cells.now c.args.count c.loop-at.at c.index.result.now c.index-in-loop-at.result.now
    (omega arith) s l
