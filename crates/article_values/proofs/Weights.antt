-- How much stands in blocks: a measure of what goes through an article as deep as it is nested.
use Rattle.std.proofs.Common.{◌≡◌, ◌+◌, ◌<◌, ◌≤◌, [], ◌∷◌, ◌∙◌, Global, List, String, Vec, ap, arith, get_or, length}
use Rattle.std.proofs.Common.{map, refl, suc, sym, zero, ℕ, ℤ}
use Rattle.article_values.specs.Sizes.{inline_size, inline_size_step, inlines_size, total}
use Rattle.article_values.specs.declared.values.Block.{Block, fold-Block}
use Rattle.article_values.specs.declared.values.Block.TheFolds.{fold-roll-Block}
use Rattle.article_values.specs.declared.values.Block.TheOpen.{Block-F}
use Rattle.article_values.specs.declared.values.Block.TheVariants.{rolls-Bullets, rolls-Division, rolls-Heading}
use Rattle.article_values.specs.declared.values.Block.TheVariants.{rolls-Numbers, rolls-Paragraph, rolls-Quote}
use Rattle.article_values.specs.declared.values.Block.TheVariants as block_variants
use Rattle.article_values.specs.declared.values.Block.TheViews as block_views
use Rattle.article_values.specs.declared.values.Inline.{Inline}
use Rattle.article_values.specs.declared.values.Inline.TheFolds.{fold-roll-Inline}
use Rattle.article_values.specs.declared.values.Inline.TheOpen.{Inline-F}
use Rattle.article_values.specs.declared.values.Inline.TheVariants.{rolls-Bold, rolls-Break, rolls-Code, rolls-Emphasis}
use Rattle.article_values.specs.declared.values.Inline.TheVariants.{rolls-Italic, rolls-Link, rolls-Strong}
use Rattle.article_values.specs.declared.values.Inline.TheVariants as variants
use Rattle.article_values.specs.declared.values.Inline.TheViews as views

-- of blocks, with the inlines in them
abbrev pub weight_step : Block-F ℕ → ℕ
weight_step (Block-F.Paragraph inlines) = suc (inlines_size inlines.items)
weight_step (Block-F.Heading level inlines) = suc (inlines_size inlines.items)
weight_step (Block-F.Division blocks) = suc (total blocks.items)
weight_step (Block-F.Quote blocks) = suc (total blocks.items)
weight_step (Block-F.Bullets items) = suc (total (map (λ blocks. suc (total blocks.items)) items.items))
weight_step (Block-F.Numbers first items) = suc (total (map (λ blocks. suc (total blocks.items)) items.items))

abbrev pub weight : Block → ℕ
weight = fold-Block ℕ weight_step

abbrev pub blocks_weight : List Block → ℕ
blocks_weight blocks = total (map weight blocks)

abbrev pub items_weight : List (Vec Block Global) → ℕ
items_weight items = total (map (λ blocks. suc (blocks_weight blocks.items)) items)

-- ---- one of many
pub one_of : {A : Type 0} (f : A → ℕ) (xs : List A) (i : ℕ) (x : A) → i < length xs → x ≡ get_or xs i x →
    f x ≤ total (map f xs)
one_of f [] i x h e = absurd (omega (arith, h))
one_of f (y ∷ ys) zero x h e = let same : f x ≡ f y = ap f e in omega (arith, same)
one_of f (y ∷ ys) (suc i) x h e =
    let later : f x ≤ total (map f ys) = one_of f ys i x (omega (arith, h)) e in omega (arith, later)

-- ---- what each variant holds
pub size_of_break : inline_size variants.Break ≡ 1
size_of_break = ap inline_size (sym rolls-Break) ∙ fold-roll-Inline ℕ inline_size_step Inline-F.Break

module _ (contents : Vec Inline Global) where
  pub size_of_bold : inline_size (views.Bold contents) ≡ suc (inlines_size contents.items)
  size_of_bold =
      ap inline_size (sym (rolls-Bold contents)) ∙ fold-roll-Inline ℕ inline_size_step (Inline-F.Bold contents)

  pub size_of_italic : inline_size (views.Italic contents) ≡ suc (inlines_size contents.items)
  size_of_italic =
      ap inline_size (sym (rolls-Italic contents)) ∙ fold-roll-Inline ℕ inline_size_step (Inline-F.Italic contents)

  pub size_of_emphasis : inline_size (views.Emphasis contents) ≡ suc (inlines_size contents.items)
  size_of_emphasis =
      ap inline_size (sym (rolls-Emphasis contents)) ∙ fold-roll-Inline ℕ inline_size_step (Inline-F.Emphasis contents)

  pub size_of_code : inline_size (views.Code contents) ≡ suc (inlines_size contents.items)
  size_of_code =
      ap inline_size (sym (rolls-Code contents)) ∙ fold-roll-Inline ℕ inline_size_step (Inline-F.Code contents)

  pub size_of_strong : inline_size (views.Strong contents) ≡ suc (inlines_size contents.items)
  size_of_strong =
      ap inline_size (sym (rolls-Strong contents)) ∙ fold-roll-Inline ℕ inline_size_step (Inline-F.Strong contents)

  pub size_of_link : (target : String Global) →
      inline_size (views.Link target contents) ≡ suc (inlines_size contents.items)
  size_of_link target = ap inline_size (sym (rolls-Link target contents))
      ∙ fold-roll-Inline ℕ inline_size_step (Inline-F.Link target contents)

  pub weight_of_paragraph : weight (block_variants.Paragraph contents) ≡ suc (inlines_size contents.items)
  weight_of_paragraph = ap weight (sym (rolls-Paragraph contents))
      ∙ fold-roll-Block ℕ weight_step (Block-F.Paragraph contents)

  pub weight_of_heading : (level : ℕ) → weight (block_variants.Heading level contents)
      ≡ suc (inlines_size contents.items)
  weight_of_heading level = ap weight (sym (rolls-Heading level contents))
      ∙ fold-roll-Block ℕ weight_step (Block-F.Heading level contents)

pub weight_of_division : (blocks : Vec Block Global) →
    weight (block_views.Division blocks) ≡ suc (blocks_weight blocks.items)
weight_of_division blocks = ap weight (sym (rolls-Division blocks))
    ∙ fold-roll-Block ℕ weight_step (Block-F.Division blocks)

pub weight_of_quote : (blocks : Vec Block Global) →
    weight (block_views.Quote blocks) ≡ suc (blocks_weight blocks.items)
weight_of_quote blocks = ap weight (sym (rolls-Quote blocks))
    ∙ fold-roll-Block ℕ weight_step (Block-F.Quote blocks)

fused : {V : Type 0} (g : Vec Block Global → V) (items_of : V → List ℕ) →
    ((v : Vec Block Global) → items_of (g v) ≡ map weight v.items) → (items : List (Vec Block Global)) →
    total (map (λ v. suc (total (items_of v))) (map g items)) ≡ items_weight items
fused g items_of same [] = refl
fused g items_of same (v ∷ items) =
    ap (λ ns. suc (total ns) + total (map (λ v. suc (total (items_of v))) (map g items))) (same v)
    ∙ ap (λ n. suc (total (map weight v.items)) + n) (fused g items_of same items)

pub weight_of_bullets : (items : Vec (Vec Block Global) Global) →
    weight (block_views.Bullets items) ≡ suc (items_weight items.items)
weight_of_bullets items =
    ap weight (sym (rolls-Bullets items)) ∙ fold-roll-Block ℕ weight_step (Block-F.Bullets items)
    ∙ ap suc (fused _ (λ v. v.items) (λ v. refl) items.items)

pub weight_of_numbers : (first : ℤ) (items : Vec (Vec Block Global) Global) →
    weight (block_views.Numbers first items) ≡ suc (items_weight items.items)
weight_of_numbers first items =
    ap weight (sym (rolls-Numbers first items)) ∙ fold-roll-Block ℕ weight_step (Block-F.Numbers first items)
    ∙ ap suc (fused _ (λ v. v.items) (λ v. refl) items.items)
