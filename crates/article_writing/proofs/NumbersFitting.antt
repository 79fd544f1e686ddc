-- The first numbers of lists, as contracts see them, are numbers of 64 bits.
use Rattle.std.proofs.Common.{◌≡◌, ℤ, ◌<◌, ◌^◌, List, [], ◌∷◌, map, subst, sym, refl, Vec, Global}
use Rattle.std.specs.Int.{cast_unsigned, w64}
use Rattle.std.specs.Int.Signed.{mag}
use borrow.Author.Gap.{read_sfits}
use Rattle.article_values.specs.Articles.{Blocks, no_blocks, no_items}
use Rattle.article_values.specs.Views.{block_step, block_view, blocks_view, held, in_turn, item_before}
use Rattle.article_values.specs.declared.values.Block.{Block, map-Block}
use Rattle.article_values.specs.declared.values.Block.TheFolds.{fold-roll-Block, ind-Block}
use Rattle.article_values.specs.declared.values.Block.TheOpen.{Block-F}
use Rattle.article_writing.specs.Contents.{ItemsFit, NumbersFit}

abbrev Fits : Block → Type 0
Fits b = (rest : Blocks) → NumbersFit rest → NumbersFit (block_view b rest)

held_fits : (z : ℤ) → mag (held z) < 2 ^ 63
held_fits z = (read_sfits w64 (cast_unsigned w64 z)).sfits

all_fit : (es : List ((b : Block) × Fits b)) → NumbersFit (in_turn no_blocks (map block_view (map (λ e. e.0) es)))
all_fit [] = tt
all_fit (e ∷ es) = e.1 (in_turn no_blocks (map block_view (map (λ e. e.0) es))) (all_fit es)

items_fit : {U V : Type 0} (g : Vec ((b : Block) × Fits b) Global → U) (k : U → V) (items_of : V →
    List (Blocks → Blocks)) →
    ((v : Vec ((b : Block) × Fits b) Global) → items_of (k (g v)) ≡ map block_view (map (λ e. e.0) v.items)) →
    (vs : List (Vec ((b : Block) × Fits b) Global)) →
    ItemsFit (in_turn no_items (map (λ v. item_before (items_of v)) (map k (map g vs))))
items_fit g k items_of same [] = tt
items_fit g k items_of same (v ∷ vs) = (
  subst (λ views. NumbersFit (in_turn no_blocks views)) (sym (same v)) (all_fit v.items),
  items_fit g k items_of same vs,
)

fit : (b : Block) → Fits b
fit = ind-Block Fits (λ x y is. λ rest h. subst (λ view. NumbersFit (view rest))
    (sym (fold-roll-Block (Blocks → Blocks) block_step x))
    (subst (λ z. NumbersFit (block_step (map-Block Block (Blocks → Blocks) block_view z) rest)) is (by y rest h)))
  where
    by : (y : Block-F ((b : Block) × Fits b)) (rest : Blocks) → NumbersFit rest →
        NumbersFit (block_step (map-Block Block (Blocks → Blocks) block_view
        (map-Block ((x : Block) × Fits x) Block (λ e. e.0) y)) rest)
    by (Block-F.Paragraph inlines) rest h = h
    by (Block-F.Heading level inlines) rest h = h
    by (Block-F.Division blocks) rest h = (all_fit blocks.items, h)
    by (Block-F.Quote blocks) rest h = (all_fit blocks.items, h)
    by (Block-F.Bullets items) rest h = (items_fit _ _ (λ v. v.items) (λ v. refl) items.items, h)
    by (Block-F.Numbers first items) rest h =
        (held_fits first, (items_fit _ _ (λ v. v.items) (λ v. refl) items.items, h))

pub blocks_fit : (blocks : List Block) → NumbersFit (blocks_view blocks)
blocks_fit [] = tt
blocks_fit (b ∷ blocks) = fit b (blocks_view blocks) (blocks_fit blocks)
