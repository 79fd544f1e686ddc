use Rattle.std.proofs.Common.{◌≡◌, ◌+◌, ◌*◌, drop}
use Rattle.article_layout.specs.Seen.{at_of}
use Rattle.article_layout.specs.Settings.{options_of}
use Rattle.article_layout.specs.Walks.{laid, laid_items, parted_at}
use Rattle.article_definitions.specs.Layouts.{least_of_items}
use Rattle.article_values.proofs.Weights.{blocks_weight, items_weight, weight}
use Rattle.article_values.specs.Views.{blocks_view, items_view}
use Rattle.render_sizes.specs.Extents.{capped}
use Rattle.article_layout.proofs.blocks.+laying.Given as goal

abbrev pub decreases-lay_blocks : goal.decreases-lay_blocks
decreases-lay_blocks l = 4 * blocks_weight l.blocks.now + 1

abbrev pub decreases-lay_block : goal.decreases-lay_block
decreases-lay_block l = 4 * weight l.block.now

abbrev pub decreases-lay_quote : goal.decreases-lay_quote
decreases-lay_quote l = 4 * blocks_weight l.blocks.now + 2

abbrev pub decreases-lay_list : goal.decreases-lay_list
decreases-lay_list l = 4 * items_weight l.items.now + 1

abbrev pub decreases-lay_item : goal.decreases-lay_item
decreases-lay_item l = 4 * blocks_weight l.item.now + 2

abbrev pub invariant-lay_blocks-blocks-2 : goal.invariant-lay_blocks-blocks-2
invariant-lay_blocks-blocks-2 l =
    laid (options_of l.room.options) l.room.width (blocks_view l.blocks) (at_of l.fn.lines l.fn.trailing)
    ≡ laid (options_of l.room.options) l.room.width (blocks_view (drop l.block-index l.blocks))
    (at_of l.lines l.trailing)

abbrev pub invariant-lay_list-items : goal.invariant-lay_list-items
invariant-lay_list-items l = record {
  room : l.least ≡ capped (least_of_items (options_of l.room.options) (items_view l.items) + l.columns);
  laid : laid_items (options_of l.room.options) l.room.width l.columns l.least l.fn.first
      (items_view l.items) (parted_at (options_of l.room.options) l.room.width (at_of l.fn.lines l.fn.trailing))
      ≡ laid_items (options_of l.room.options) l.room.width l.columns l.least l.number
      (items_view (drop l.item-index l.items)) (at_of l.lines l.trailing);
}
