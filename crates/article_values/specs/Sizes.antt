-- How much there is to let go: every value that is dropped without recursion is taken apart one value at a time.
use Rattle.std.specs.Prelude.{ℕ, suc, ◌+◌, ◌*◌, List, [], ◌∷◌, map, Option, None, Some, Vec}
use Rattle.std.specs.Global.{Global}
use Rattle.article_values.specs.declared.values.Inline.{Inline, fold-Inline}
use Rattle.article_values.specs.declared.values.Inline.TheOpen.{Inline-F}
use Rattle.article_values.specs.declared.values.Block.{Block, fold-Block}
use Rattle.article_values.specs.declared.values.Block.TheOpen.{Block-F}

abbrev pub total : List ℕ → ℕ
total [] = 0
total (n ∷ ns) = n + total ns

abbrev pub inline_size_step : Inline-F ℕ → ℕ
inline_size_step (Inline-F.Text text) = 1
inline_size_step Inline-F.Break = 1
inline_size_step (Inline-F.Bold contents) = suc (total contents.items)
inline_size_step (Inline-F.Italic contents) = suc (total contents.items)
inline_size_step (Inline-F.Emphasis contents) = suc (total contents.items)
inline_size_step (Inline-F.Code contents) = suc (total contents.items)
inline_size_step (Inline-F.Strong contents) = suc (total contents.items)
inline_size_step (Inline-F.Link target contents) = suc (total contents.items)

-- how many inlines stand in one, itself among them
abbrev pub inline_size : Inline → ℕ
inline_size = fold-Inline ℕ inline_size_step

abbrev pub inlines_size : List Inline → ℕ
inlines_size inlines = total (map inline_size inlines)

abbrev pub block_size_step : Block-F ℕ → ℕ
block_size_step (Block-F.Paragraph inlines) = 1
block_size_step (Block-F.Heading level inlines) = 1
block_size_step (Block-F.Division blocks) = suc (total blocks.items)
block_size_step (Block-F.Quote blocks) = suc (total blocks.items)
block_size_step (Block-F.Bullets items) = suc (total (map (λ blocks. suc (total blocks.items)) items.items))
block_size_step (Block-F.Numbers first items) = suc (total (map (λ blocks. suc (total blocks.items)) items.items))

-- how many blocks and items stand in one, itself among them
abbrev pub block_size : Block → ℕ
block_size = fold-Block ℕ block_size_step

abbrev pub blocks_size : List Block → ℕ
blocks_size blocks = total (map block_size blocks)

abbrev pub items_size : List (Vec Block Global) → ℕ
items_size items = total (map (λ blocks. suc (blocks_size blocks.items)) items)

-- the size in hand while others wait
abbrev pub size_before : List ℕ → ℕ → ℕ
size_before [] size = 0
size_before (other ∷ others) size = size

-- What is left to do with a value of a size in hand, while values of other sizes wait. A step makes less of all sizes
-- together; or these stay, and then none waits any more or the value in hand gets smaller.
abbrev pub work : ℕ → List ℕ → ℕ
work size others = (size + total others) * suc (size + total others) + size_before others size

abbrev pub first_of : {A : Type 0} → A → List A → A
first_of value [] = value
first_of value (other ∷ others) = other

-- the value in the place of the first
abbrev pub with_first : {A : Type 0} → A → List A → List A
with_first value [] = []
with_first value (other ∷ others) = value ∷ others

-- none where nothing is in hand
abbrev pub steps_left : Option ℕ → ℕ
steps_left None = 0
steps_left (Some n) = suc n
