use Rattle.std.proofs.Common.{◌+◌, ◌*◌}
use Rattle.article_values.specs.Sizes.{inline_size, inlines_size}
use Rattle.article_values.specs.Views.{blocks_view, inlines_view, items_view}
use Rattle.article_writing.specs.Contents.{content_of_blocks, content_of_inlines, content_of_items}
use Rattle.written_document_laws.specs.Emissions.{calls_and}
use Rattle.article_values.proofs.Weights.{blocks_weight, items_weight, weight}
use Rattle.article_writing.proofs.InnerSizes.{inner_weight}
use Rattle.article_writing.proofs.Emitting.{IsLeft}
use Rattle.article_writing.proofs.+emitting.Given as goal

abbrev pub decreases-blocks::emit_block : goal.decreases-blocks::emit_block
decreases-blocks::emit_block g l = 6 * weight l.block.now

abbrev pub decreases-blocks::emit_blocks : goal.decreases-blocks::emit_blocks
decreases-blocks::emit_blocks g l = 6 * blocks_weight l.blocks.now + 1

abbrev pub decreases-blocks::emit_heading : goal.decreases-blocks::emit_heading
decreases-blocks::emit_heading g l = 6 * inlines_size l.contents.now + 4

abbrev pub decreases-blocks::emit_items : goal.decreases-blocks::emit_items
decreases-blocks::emit_items g l = 6 * items_weight l.items.now + 1

abbrev pub decreases-blocks::emit_numbers : goal.decreases-blocks::emit_numbers
decreases-blocks::emit_numbers g l = 6 * items_weight l.items.now + 4

abbrev pub decreases-elements::emit_element : goal.decreases-elements::emit_element
decreases-elements::emit_element g l = 6 * inner_weight l.inner + 3

abbrev pub decreases-elements::emit_inner : goal.decreases-elements::emit_inner
decreases-elements::emit_inner g l = 6 * inner_weight l.inner + 2

abbrev pub decreases-inlines::emit_inline : goal.decreases-inlines::emit_inline
decreases-inlines::emit_inline g l = 6 * inline_size l.inline.now

abbrev pub decreases-inlines::emit_inlines : goal.decreases-inlines::emit_inlines
decreases-inlines::emit_inlines g l = 6 * inlines_size l.inlines.now + 1

abbrev pub decreases-inlines::emit_link : goal.decreases-inlines::emit_link
decreases-inlines::emit_link g l = 6 * inlines_size l.contents.now + 4

abbrev pub invariant-blocks::emit_blocks-blocks-2 : goal.invariant-blocks::emit_blocks-blocks-2
invariant-blocks::emit_blocks-blocks-2 g l =
    IsLeft g.S.Serializer.means (λ bs more. calls_and (content_of_blocks (blocks_view bs)) more)
    (g.S.Serializer.seen l.fn.serializer) l.blocks (g.S.Serializer.seen l.serializer) l.block-index

abbrev pub invariant-blocks::emit_items-items : goal.invariant-blocks::emit_items-items
invariant-blocks::emit_items-items g l =
    IsLeft g.S.Serializer.means (λ is more. calls_and (content_of_items (items_view is)) more)
    (g.S.Serializer.seen l.fn.serializer) l.items (g.S.Serializer.seen l.serializer) l.item-index

abbrev pub invariant-inlines::emit_inlines-inlines : goal.invariant-inlines::emit_inlines-inlines
invariant-inlines::emit_inlines-inlines g l =
    IsLeft g.S.Serializer.means (λ is more. calls_and (content_of_inlines (inlines_view is)) more)
    (g.S.Serializer.seen l.fn.serializer) l.inlines (g.S.Serializer.seen l.serializer) l.inline-index
