-- Renderers of plain text in which what a paragraph says is laid out.
use Rattle.std.specs.Prelude.{◌≡◌, ℕ, Bool, false, true, List, [], ◌∷◌, fold, refl}
use Rattle.article_definitions.specs.Layouts.{Options, Tag}
use Rattle.article_values.specs.Articles.{Blocks, Inlines, Items, bullets, division, heading, item, line_break, link}
use Rattle.article_values.specs.Articles.{no_blocks, no_inlines, no_items, numbers, paragraph, quote, span, words}
use Rattle.block_layout.specs.Laid.{Laid}
use Rattle.layout_state.specs.LayoutState.{LayoutState, outside}
use Rattle.layout_state.specs.declared.around.Around.TheVariants.{Flow}
use Rattle.block_trait.specs.Renderers.{Sub, new_sub}
use Rattle.block_trait.specs.declared.options.RenderOptions.{RenderOptions}
use Rattle.text_block_renderer.specs.Parts.{Parts, whole_page}
use Rattle.text_pieces.specs.declared.white_space.WhiteSpace.{WhiteSpace}
use Rattle.text_pieces.specs.declared.white_space.WhiteSpace.TheVariants.{Normal}

-- what matters to an article of how pages are rendered, whether spans are marked, and how narrow text may be wrapped
abbrev pub options_of : RenderOptions → (decorates : Bool) → (min_wrap : ℕ) → Options
options_of given decorates min_wrap = record {
  wrap_width = given.wrap_width;
  pads = given.pad_block_width;
  decorates = decorates;
  footnotes = given.include_link_footnotes;
  shares_footnotes = given.shared_footnotes;
  prints_targets = given.printable_targets;
  wraps_links = given.wrap_links;
  min_wrap_width = min_wrap;
}

-- the columns of a renderer and its modes of white space, the last of which is normal
pub record Place : Type 0 where
  pub width : ℕ
  pub modes : List WhiteSpace
  pub normal : fold (λ _ mode. mode) Normal modes ≡ Normal

-- no part may pass the width
abbrev pub keeping_width : RenderOptions → RenderOptions
keeping_width given = record given { allow_width_overflow = false }

-- a renderer that holds a block of lines, under such annotations
abbrev pub renderer_at : RenderOptions → (held : Unit {0}) → Place → Tag → Laid Tag → Sub (Unit {0}) (Unit {0})
renderer_at given held p tag b = record {
  width = p.width;
  options = keeping_width given;
  held = held;
  laid = b;
  modes = p.modes;
  preformats = 0;
  annotations = tag;
  keeps = true;
  strikeouts = 0;
}

-- a page of that renderer, after links to these targets
abbrev pub parts_at : RenderOptions → (held : Unit {0}) → Place → (targets : List (List ℕ)) → Tag → Laid Tag
    → Parts (Unit {0}) (Unit {0})
parts_at given held p targets tag b =
    record { below = []; current = renderer_at given held p tag b; targets = targets }

-- the same between values, outside of all lists and tables
abbrev pub laying_at : RenderOptions → (held : Unit {0}) → Place → (targets : List (List ℕ)) → Tag → Laid Tag
    → LayoutState (Unit {0}) (Unit {0})
laying_at given held p targets tag b =
    record { parts = parts_at given held p targets tag b; around = Flow; table = outside false }

-- a whole page of so many columns, and one that holds nothing
abbrev pub page_of : ℕ → Place
page_of width = record { width = width; modes = []; normal = refl }

abbrev pub whole : RenderOptions → (held : Unit {0}) → ℕ → Parts (Unit {0}) (Unit {0})
whole given held width = whole_page (new_sub width (keeping_width given) held [])

-- no text in it is empty
abbrev pub AreFilled : Inlines → Type 0
AreFilled no_inlines = Unit {0}
AreFilled (words [] rest) = ⊥
AreFilled (words (c ∷ cs) rest) = AreFilled rest
AreFilled (line_break rest) = AreFilled rest
AreFilled (span style kids rest) = AreFilled kids × AreFilled rest
AreFilled (link target kids rest) = AreFilled kids × AreFilled rest

abbrev mutual
  pub AreFilledBlocks : Blocks → Type 0
  AreFilledBlocks no_blocks = Unit {0}
  AreFilledBlocks (paragraph is rest) = AreFilled is × AreFilledBlocks rest
  AreFilledBlocks (heading level is rest) = AreFilled is × AreFilledBlocks rest
  AreFilledBlocks (division kids rest) = AreFilledBlocks kids × AreFilledBlocks rest
  AreFilledBlocks (quote kids rest) = AreFilledBlocks kids × AreFilledBlocks rest
  AreFilledBlocks (bullets items rest) = AreFilledItems items × AreFilledBlocks rest
  AreFilledBlocks (numbers first items rest) = AreFilledItems items × AreFilledBlocks rest

  pub AreFilledItems : Items → Type 0
  AreFilledItems no_items = Unit {0}
  AreFilledItems (item kids rest) = AreFilledBlocks kids × AreFilledItems rest
