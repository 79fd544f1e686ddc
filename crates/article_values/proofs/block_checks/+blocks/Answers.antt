use Rattle.std.proofs.Common.{◌≡◌, refl, ap, ◌∙◌, sym, Err, ◌+◌, suc, arith}
use Rattle.std.proofs.lemmas.List.{at_drop_all}
use Rattle.std.proofs.lemmas.Result.{err_from_is_err_and}
use Rattle.article_values.specs.Faults.{fault_of_items}
use Rattle.article_values.specs.Views.{items_view}
use Rattle.article_values.specs.Outcomes.{fault_met}
use Rattle.article_values.proofs.BlockTurns.{block_goes_on, block_stops, blocks_end, bullets_case, item_goes_on}
use Rattle.article_values.proofs.BlockTurns.{item_stops, items_end, list_goes, list_stops, numbers_case}
use Rattle.article_values.proofs.block_checks.+blocks.Goals as goal

pub check_block-returns-in-Bullets : goal.check_block-returns-in-Bullets
check_block-returns-in-Bullets t c = λ rest. bullets_case c.args.block.now c.args.depth c.in-Bullets.items
    c.as_slice-in-Bullets.result.now (fault_met c.check_list.result) rest c.in-Bullets.is
    c.as_slice-in-Bullets.ensures.value c.check_list.ensures

pub check_block-returns-in-Numbers : goal.check_block-returns-in-Numbers
check_block-returns-in-Numbers t c = λ rest. numbers_case c.args.block.now c.args.depth c.in-Numbers._first
    c.in-Numbers.items c.as_slice-in-Numbers.result.now (fault_met c.check_list-in-Numbers.result) rest c.in-Numbers.is
    c.as_slice-in-Numbers.ensures.value c.check_list-in-Numbers.ensures

pub check_list-returns-in_err-check_depth : goal.check_list-returns-in_err-check_depth
check_list-returns-in_err-check_depth t c =
    let p = err_from_is_err_and c.from_residual.result c.from_residual.ensures.1 in
    ap fault_met (p.1 ∙ ap Err p.2)
    ∙ list_stops c.args.items.now c.args.depth (fault_met c.check_depth.result) c.in_err-check_depth.field-0.0
    (sym c.is_empty.ensures ∙ c.if-is_empty.false) c.check_depth.ensures (ap fault_met c.in_err-check_depth.was)

pub check_list-returns : goal.check_list-returns
check_list-returns t c =
    list_goes c.args.items.now c.args.depth (fault_met c.check_depth.result) (fault_met c.check_items.result)
    (sym c.is_empty.ensures ∙ c.if-is_empty.false) c.check_depth.ensures (ap fault_met c.in_ok-check_depth.was)
    (c.check_items.ensures ∙ (let one : c.args.depth + 1 ≡ suc c.args.depth = omega arith in
    ap (λ n. fault_of_items n (items_view c.args.items.now)) one))

pub check_blocks-blocks-2-init : goal.check_blocks-blocks-2-init
check_blocks-blocks-2-init t c = refl

pub check_blocks-returns-in_err-check_block : goal.check_blocks-returns-in_err-check_block
check_blocks-returns-in_err-check_block t c =
    let p = err_from_is_err_and c.from_residual.result c.from_residual.ensures.1 in
    ap fault_met (p.1 ∙ ap Err p.2)
    ∙ block_stops c.args.depth c.args.blocks.now c.blocks-2.block-index c.block-item.result
    (fault_met c.check_block.result) c.blocks-2.invariant c.blocks-2-test.true c.block-item.is c.check_block.ensures
    c.in_err-check_block.field-0.0 (ap fault_met c.in_err-check_block.was)

pub check_blocks-blocks-2-preserved : goal.check_blocks-blocks-2-preserved
check_blocks-blocks-2-preserved t c =
    block_goes_on c.args.depth c.args.blocks.now c.blocks-2.block-index c.block-item.result
    (fault_met c.check_block.result) c.blocks-2.invariant c.blocks-2-test.true c.block-item.is c.check_block.ensures
    (ap fault_met c.in_ok-check_block.was)

pub check_blocks-returns : goal.check_blocks-returns
check_blocks-returns t c = blocks_end c.args.depth c.args.blocks.now c.blocks-2.block-index c.blocks-2.invariant
    (at_drop_all (λ xs. xs) c.args.blocks.now c.blocks-2.block-index c.blocks-2-test.false)

pub check_items-items-init : goal.check_items-items-init
check_items-items-init t c = refl

pub check_items-returns-in_err-check_blocks : goal.check_items-returns-in_err-check_blocks
check_items-returns-in_err-check_blocks t c =
    let p = err_from_is_err_and c.from_residual.result c.from_residual.ensures.1 in
    ap fault_met (p.1 ∙ ap Err p.2)
    ∙ item_stops c.args.depth c.args.items.now c.items.item-index c.item-item.result c.as_slice.result.now
    (fault_met c.check_blocks.result) c.items.invariant c.items-test.true c.item-item.is c.as_slice.ensures.value
    c.check_blocks.ensures c.in_err-check_blocks.field-0.0 (ap fault_met c.in_err-check_blocks.was)

pub check_items-items-preserved : goal.check_items-items-preserved
check_items-items-preserved t c =
    item_goes_on c.args.depth c.args.items.now c.items.item-index c.item-item.result c.as_slice.result.now
    (fault_met c.check_blocks.result) c.items.invariant c.items-test.true c.item-item.is c.as_slice.ensures.value
    c.check_blocks.ensures (ap fault_met c.in_ok-check_blocks.was)

pub check_items-returns : goal.check_items-returns
check_items-returns t c = items_end c.args.depth c.args.items.now c.items.item-index c.items.invariant
    (at_drop_all (λ xs. xs) c.args.items.now c.items.item-index c.items-test.false)
