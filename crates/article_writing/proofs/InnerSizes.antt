-- How much there is to emit in an element: a measure of the emission, which goes as deep as an article is nested.
use Rattle.std.proofs.Common.{ℕ, suc}
use Rattle.article_values.proofs.Weights.{blocks_weight, items_weight}
use Rattle.article_values.specs.Sizes.{inlines_size}
use Rattle.article_writing.specs.declared.inner.Inner.{Inner}
use Rattle.article_writing.specs.declared.inner.Inner.TheVariants.{Blocks, Head, Inlines, Items, Root, Text}

abbrev pub inner_weight : Inner → ℕ
inner_weight (Inlines inlines) = inlines_size inlines.now
inner_weight (Blocks blocks) = blocks_weight blocks.now
inner_weight (Items items) = items_weight items.now
inner_weight (Text text) = 0
inner_weight (Head title) = 1
inner_weight (Root title blocks) = suc (suc (blocks_weight blocks.now))
