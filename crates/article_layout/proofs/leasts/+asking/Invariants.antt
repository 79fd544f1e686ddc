use Rattle.std.proofs.Common.{◌≡◌, ◌+◌, ◌*◌, drop, max}
use Rattle.article_layout.specs.Settings.{options_of}
use Rattle.article_definitions.specs.Layouts.{least_of, least_of_items}
use Rattle.article_values.proofs.Weights.{blocks_weight, items_weight, weight}
use Rattle.article_values.specs.Views.{blocks_view, items_view}
use Rattle.article_layout.proofs.leasts.+asking.Given as goal

abbrev pub decreases-least_of : goal.decreases-least_of
decreases-least_of l = 4 * blocks_weight l.blocks.now + 1

abbrev pub decreases-least_of_block : goal.decreases-least_of_block
decreases-least_of_block l = 4 * weight l.block.now

abbrev pub decreases-least_of_items : goal.decreases-least_of_items
decreases-least_of_items l = 4 * items_weight l.items.now + 1

abbrev pub invariant-least_of-blocks-2 : goal.invariant-least_of-blocks-2
invariant-least_of-blocks-2 l =
    max l.least (least_of (options_of l.options) (blocks_view (drop l.block-index l.blocks)))
    ≡ least_of (options_of l.options) (blocks_view l.blocks)

abbrev pub invariant-least_of_items-items : goal.invariant-least_of_items-items
invariant-least_of_items-items l =
    max l.least (least_of_items (options_of l.options) (items_view (drop l.item-index l.items)))
    ≡ least_of_items (options_of l.options) (items_view l.items)
