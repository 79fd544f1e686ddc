use Rattle.std.proofs.Common.{ap, drop, subst, sym, ◌∙◌, arith}
use Rattle.render_sizes.specs.Extents.{nothing_wide}
use Rattle.render_sizes.proofs.RowLemmas.{IsEmitted, emitted_first, emitted_on, flat_after, left_fits, room_after}
use Rattle.render_sizes.proofs.RowLemmas.{sizes_after, skip_fits}
use Rattle.render_sizes.proofs.tables.row_cells.Goals as goal

pub nodes-init : goal.nodes-init
nodes-init c = record {
  flat = c.requires.flat;
  size = c.requires.same;
  room = omega arith;
  emitted = λ m same. subst (λ l. IsEmitted m c.args.nodes.now c.args.nodes.now c.args.sizes.now l 0)
      (sym c.new-cells.ensures.items) (emitted_first m c.args.nodes.now c.args.sizes.now same);
}

pub extents_after-left-requires : goal.extents_after-left-requires
extents_after-left-requires c =
    left_fits c.nodes.rest.now c.in-Some.first.now c.in-Some.others.now c.nodes.left.now c.extents_after.result.now
    c.skipped-count.result c.in-Some.ensures.cases.0 c.nodes.invariant.flat c.skipped-count.ensures
    c.nodes.invariant.size c.extents_after.ensures

pub nodes_after-rest-requires : goal.nodes_after-rest-requires
nodes_after-rest-requires c =
    skip_fits c.nodes.rest.now c.in-Some.first.now c.in-Some.others.now c.skipped-count.result
    c.in-Some.ensures.cases.0 c.nodes.invariant.flat c.skipped-count.ensures

pub nodes-preserved : goal.nodes-preserved
nodes-preserved c = record {
  flat = flat_after c.nodes.rest.now c.in-Some.first.now c.in-Some.others.now c.skipped-count.result
      c.nodes_after-rest.result.now c.in-Some.ensures.cases.0 c.nodes.invariant.flat c.nodes_after-rest.ensures;
  size = sizes_after c.nodes.rest.now c.in-Some.first.now c.in-Some.others.now c.nodes.left.now
      c.extents_after.result.now c.extents_after-left.result.now c.skipped-count.result
      c.nodes_after-rest.result.now c.in-Some.ensures.cases.0 c.nodes.invariant.size c.extents_after.ensures
      c.extents_after-left.ensures c.nodes_after-rest.ensures;
  room = room_after c.nodes.rest.now c.in-Some.first.now c.in-Some.others.now c.nodes.rows c.rows_on-rows.result
      c.rows_emitted.result _ c.skipped-count.result c.nodes_after-rest.result.now c.in-Some.ensures.cases.0
      c.rows_emitted.ensures c.rows_on-rows.ensures c.nodes_after-rest.ensures c.nodes.invariant.room;
  emitted = λ m same. emitted_on m c.args.nodes.now c.nodes.rest.now c.in-Some.first.now c.in-Some.others.now
      c.nodes.left.now nothing_wide c.nodes.cells.items c.push_emitted.new.cells.items c.nodes.rows c.rows_on-rows.result
      c.rows_emitted.result c.nodes_after-rest.result.now c.extents_after-left.result.now c.in-Some.ensures.cases.0
      c.nodes.invariant.flat c.rows_emitted.ensures c.rows_on-rows.ensures c.in_ok-push_emitted.ensures
      (c.nodes_after-rest.ensures ∙ ap (λ n. drop n c.in-Some.others.now) c.skipped-count.ensures)
      (c.extents_after-left.ensures ∙ (ap (drop c.skipped-count.result) c.extents_after.ensures
      ∙ ap (λ n. drop n (drop 1 c.nodes.left.now)) c.skipped-count.ensures)) (c.nodes.invariant.emitted m same);
}
