-- What contracts see of each variant of an inline and of a block.
use Rattle.std.proofs.Common.{◌≡◌, [], ◌∷◌, ◌∙◌, Global, List, String, Vec, ap, chars, map, refl, string_bytes, sym, ℕ}
use Rattle.std.proofs.Common.{ℤ}
use Rattle.article_values.specs.Articles.{Blocks, Inlines, bold, bullets, code, division, emphasis, heading, italic}
use Rattle.article_values.specs.Articles.{line_break, link, no_items, numbers, paragraph, quote, span, strong, words}
use Rattle.article_values.specs.Views.{block_step, block_view, blocks_view, held, in_turn, inline_step, inline_view}
use Rattle.article_values.specs.Views.{inlines_view, item_before, items_view}
use Rattle.article_values.specs.declared.values.Block.{Block}
use Rattle.article_values.specs.declared.values.Block.TheFolds.{fold-roll-Block}
use Rattle.article_values.specs.declared.values.Block.TheOpen.{Block-F}
use Rattle.article_values.specs.declared.values.Block.TheVariants.{rolls-Bullets, rolls-Division, rolls-Heading}
use Rattle.article_values.specs.declared.values.Block.TheVariants.{rolls-Numbers, rolls-Paragraph, rolls-Quote}
use Rattle.article_values.specs.declared.values.Block.TheVariants as block_variants
use Rattle.article_values.specs.declared.values.Block.TheViews as block_views
use Rattle.article_values.specs.declared.values.Inline.TheFolds.{fold-roll-Inline}
use Rattle.article_values.specs.declared.values.Inline.TheOpen.{Inline-F}
use Rattle.article_values.specs.declared.values.Inline.TheVariants.{rolls-Bold, rolls-Break, rolls-Code, rolls-Emphasis}
use Rattle.article_values.specs.declared.values.Inline.TheVariants.{rolls-Italic, rolls-Link, rolls-Strong, rolls-Text}
use Rattle.article_values.specs.declared.values.Inline.TheVariants as variants
use Rattle.article_values.specs.declared.values.Inline.TheViews as views

pub seen_text : (text : String Global) (r : Inlines) →
    inline_view (variants.Text text) r ≡ words (chars (string_bytes text)) r
seen_text text r = ap (λ v. inline_view v r) (sym (rolls-Text text))
    ∙ ap (λ f. f r) (fold-roll-Inline (Inlines → Inlines) inline_step (Inline-F.Text text))

pub seen_break : (r : Inlines) → inline_view variants.Break r ≡ line_break r
seen_break r = ap (λ v. inline_view v r) (sym rolls-Break)
    ∙ ap (λ f. f r) (fold-roll-Inline (Inlines → Inlines) inline_step Inline-F.Break)

module _ (contents : Vec _ Global) (r : Inlines) where
  pub seen_bold : inline_view (views.Bold contents) r ≡ span bold (inlines_view contents.items) r
  seen_bold = ap (λ v. inline_view v r) (sym (rolls-Bold contents))
      ∙ ap (λ f. f r) (fold-roll-Inline (Inlines → Inlines) inline_step (Inline-F.Bold contents))

  pub seen_italic : inline_view (views.Italic contents) r ≡ span italic (inlines_view contents.items) r
  seen_italic = ap (λ v. inline_view v r) (sym (rolls-Italic contents))
      ∙ ap (λ f. f r) (fold-roll-Inline (Inlines → Inlines) inline_step (Inline-F.Italic contents))

  pub seen_emphasis : inline_view (views.Emphasis contents) r ≡ span emphasis (inlines_view contents.items) r
  seen_emphasis = ap (λ v. inline_view v r) (sym (rolls-Emphasis contents))
      ∙ ap (λ f. f r) (fold-roll-Inline (Inlines → Inlines) inline_step (Inline-F.Emphasis contents))

  pub seen_code : inline_view (views.Code contents) r ≡ span code (inlines_view contents.items) r
  seen_code = ap (λ v. inline_view v r) (sym (rolls-Code contents))
      ∙ ap (λ f. f r) (fold-roll-Inline (Inlines → Inlines) inline_step (Inline-F.Code contents))

  pub seen_strong : inline_view (views.Strong contents) r ≡ span strong (inlines_view contents.items) r
  seen_strong = ap (λ v. inline_view v r) (sym (rolls-Strong contents))
      ∙ ap (λ f. f r) (fold-roll-Inline (Inlines → Inlines) inline_step (Inline-F.Strong contents))

  pub seen_link : (target : String Global) → inline_view (views.Link target contents) r
      ≡ link (chars (string_bytes target)) (inlines_view contents.items) r
  seen_link target = ap (λ v. inline_view v r) (sym (rolls-Link target contents))
      ∙ ap (λ f. f r) (fold-roll-Inline (Inlines → Inlines) inline_step (Inline-F.Link target contents))

pub seen_paragraph : (contents : Vec _ Global) (r : Blocks) →
    block_view (block_variants.Paragraph contents) r ≡ paragraph (inlines_view contents.items) r
seen_paragraph contents r = ap (λ v. block_view v r) (sym (rolls-Paragraph contents))
    ∙ ap (λ f. f r) (fold-roll-Block (Blocks → Blocks) block_step (Block-F.Paragraph contents))

pub seen_heading : (level : ℕ) (contents : Vec _ Global) (r : Blocks) →
    block_view (block_variants.Heading level contents) r ≡ heading level (inlines_view contents.items) r
seen_heading level contents r = ap (λ v. block_view v r) (sym (rolls-Heading level contents))
    ∙ ap (λ f. f r) (fold-roll-Block (Blocks → Blocks) block_step (Block-F.Heading level contents))

pub seen_division : (blocks : Vec Block Global) (r : Blocks) →
    block_view (block_views.Division blocks) r ≡ division (blocks_view blocks.items) r
seen_division blocks r = ap (λ v. block_view v r) (sym (rolls-Division blocks))
    ∙ ap (λ f. f r) (fold-roll-Block (Blocks → Blocks) block_step (Block-F.Division blocks))

pub seen_quote : (blocks : Vec Block Global) (r : Blocks) →
    block_view (block_views.Quote blocks) r ≡ quote (blocks_view blocks.items) r
seen_quote blocks r = ap (λ v. block_view v r) (sym (rolls-Quote blocks))
    ∙ ap (λ f. f r) (fold-roll-Block (Blocks → Blocks) block_step (Block-F.Quote blocks))

-- each item's blocks are seen one by one, or all at once
fused : {V : Type 0} (g : Vec Block Global → V) (items_of : V → List (Blocks → Blocks)) →
    ((v : Vec Block Global) → items_of (g v) ≡ map block_view v.items) → (items : List (Vec Block Global)) →
    in_turn no_items (map (λ v. item_before (items_of v)) (map g items)) ≡ items_view items
fused g items_of same [] = refl
fused g items_of same (v ∷ items) =
    ap (λ bs. item_before bs (in_turn no_items (map (λ v. item_before (items_of v)) (map g items)))) (same v)
    ∙ ap (item_before (map block_view v.items)) (fused g items_of same items)

pub seen_bullets : (items : Vec (Vec Block Global) Global) (r : Blocks) →
    block_view (block_views.Bullets items) r ≡ bullets (items_view items.items) r
seen_bullets items r =
    ap (λ v. block_view v r) (sym (rolls-Bullets items))
    ∙ ap (λ f. f r) (fold-roll-Block (Blocks → Blocks) block_step (Block-F.Bullets items))
    ∙ ap (λ xs. bullets xs r) (fused _ (λ v. v.items) (λ v. refl) items.items)

pub seen_numbers : (first : ℤ) (items : Vec (Vec Block Global) Global) (r : Blocks) →
    block_view (block_views.Numbers first items) r ≡ numbers (held first) (items_view items.items) r
seen_numbers first items r =
    ap (λ v. block_view v r) (sym (rolls-Numbers first items))
    ∙ ap (λ f. f r) (fold-roll-Block (Blocks → Blocks) block_step (Block-F.Numbers first items))
    ∙ ap (λ xs. numbers (held first) xs r) (fused _ (λ v. v.items) (λ v. refl) items.items)
