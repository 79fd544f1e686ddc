use Rattle.std.proofs.Common.{◌≡◌, ◌+◌, ◌-◌, ◌*◌, drop}
use Rattle.article_values.specs.Faults.{fault_of_blocks, fault_of_items}
use Rattle.article_values.specs.Views.{blocks_view, items_view}
use Rattle.article_values.proofs.block_checks.+blocks.Given as goal

abbrev pub invariant-check_blocks-blocks-2 : goal.invariant-check_blocks-blocks-2
invariant-check_blocks-blocks-2 l =
    fault_of_blocks l.depth (blocks_view l.blocks) ≡ fault_of_blocks l.depth (blocks_view (drop l.block-index l.blocks))

abbrev pub invariant-check_items-items : goal.invariant-check_items-items
invariant-check_items-items l =
    fault_of_items l.depth (items_view l.items) ≡ fault_of_items l.depth (items_view (drop l.item-index l.items))

abbrev pub decreases-check_blocks : goal.decreases-check_blocks
decreases-check_blocks l = 4 * (258 - l.depth) + 2

abbrev pub decreases-check_block : goal.decreases-check_block
decreases-check_block l = 4 * (258 - l.depth) + 1

abbrev pub decreases-check_list : goal.decreases-check_list
decreases-check_list l = 4 * (258 - l.depth)

abbrev pub decreases-check_items : goal.decreases-check_items
decreases-check_items l = 4 * (258 - l.depth) + 3
