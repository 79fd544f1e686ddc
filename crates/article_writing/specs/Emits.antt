-- What the emission of a part of an article makes of a serializer, and what stands in an element.
use Rattle.std.specs.Prelude.{List, Result, Ok, Err, chars, option_map}
use Rattle.tree_serializer.specs.Calls.{Call, Reply, refused}
use Rattle.tree_serializer.specs.Emitted.{IsEmitted}
use Rattle.tree_serializer.specs.declared.fault.SerializeFault.{SerializeFault}
use Rattle.article_values.specs.Views.{blocks_view, inlines_view, items_view}
use Rattle.document_laws.specs.Contents.{Content}
use Rattle.article_writing.specs.Contents.{content_of_blocks, content_of_inlines, content_of_items}
use Rattle.written_document_laws.specs.Emissions.{head_content, root_content, text_content}
use Rattle.article_writing.specs.declared.inner.Inner.{Inner}
use Rattle.article_writing.specs.declared.inner.Inner.TheVariants.{Blocks, Head, Inlines, Items, Root, Text}

-- Some calls before others: where they were emitted, whatever emits the others then emits all from the beginning; a
-- refusal among them is one among all.
abbrev pub Emits : {S X A : Type 0} → (S → Call → Reply → S → Type 0) → S → S → Result A SerializeFault →
    (all others : X → List Call) → Type 0
Emits {S = S} {X = X} means old new (Ok value) all others =
    (x : X) (reply : Reply) (end : S) → IsEmitted means new (others x) reply end → IsEmitted means old (all x) reply end
Emits {X = X} means old new (Err fault) all others = (x : X) → IsEmitted means old (all x) (refused fault) new

-- what stands in an element
abbrev pub inner_content : Inner → Content
inner_content (Inlines inlines) = content_of_inlines (inlines_view inlines.now)
inner_content (Blocks blocks) = content_of_blocks (blocks_view blocks.now)
inner_content (Items items) = content_of_items (items_view items.now)
inner_content (Text text) = text_content (chars text.now)
inner_content (Head title) = head_content (option_map (λ text. chars text.now) title)
inner_content (Root title blocks) =
    root_content (option_map (λ text. chars text.now) title) (content_of_blocks (blocks_view blocks.now))
