-- The render values of an article's page.
use Rattle.std.specs.Prelude.{ℕ, Bool, List, [], ◌∷◌, if◌then◌else◌}
use Rattle.article_definitions.specs.Layouts.{Options, all_shallow, mark_of}
use Rattle.article_values.specs.Articles.{Blocks, Inlines, Items, Style, bold, bullets, code, division, emphasis}
use Rattle.article_values.specs.Articles.{heading, italic, item, line_break, link, no_blocks, no_inlines, no_items}
use Rattle.article_values.specs.Articles.{numbers, paragraph, quote, span, strong, words}
use Rattle.render_values.specs.Plain.{container, plain_head}
use Rattle.render_values.specs.Values.{Values, joined, none, value}
use Rattle.render_values.specs.declared.info.RenderInfo.{RenderInfo}
use Rattle.render_values.specs.declared.info.RenderInfo.TheVariants as infos

-- an empty text has no value
abbrev pub text_before : List ℕ → Values → Values
text_before [] rest = rest
text_before (c ∷ cs) rest = value (plain_head (infos.Text (c ∷ cs))) none rest

-- a mark stands before what a span holds, and after it
abbrev pub marked : List ℕ → Values → Values
marked mark inside = text_before mark (joined inside (text_before mark none))

abbrev pub style_info : Style → RenderInfo
style_info bold = infos.Strong
style_info italic = infos.Emphasis
style_info emphasis = infos.Emphasis
style_info code = infos.Code
style_info strong = infos.Strong

-- a link that shows nothing has no value
abbrev pub link_before : (shallow : Bool) → List ℕ → (inside rest : Values) → Values
link_before shallow target inside rest = if shallow then rest else value (plain_head (infos.Link target)) inside rest

abbrev pub values_of_inlines : Options → Inlines → Values
values_of_inlines o no_inlines = none
values_of_inlines o (words cs rest) = text_before cs (values_of_inlines o rest)
values_of_inlines o (line_break rest) = value (plain_head infos.Break) none (values_of_inlines o rest)
values_of_inlines o (span style kids rest) =
    value (plain_head (style_info style)) (marked (mark_of o style) (values_of_inlines o kids))
    (values_of_inlines o rest)
values_of_inlines o (link target kids rest) =
    link_before (all_shallow o kids) target (values_of_inlines o kids) (values_of_inlines o rest)

abbrev mutual
  pub values_of_blocks : Options → Blocks → Values
  values_of_blocks o no_blocks = none
  values_of_blocks o (paragraph is rest) =
      value (plain_head infos.Block) (values_of_inlines o is) (values_of_blocks o rest)
  values_of_blocks o (heading level is rest) =
      value (plain_head (infos.Heading level)) (values_of_inlines o is) (values_of_blocks o rest)
  values_of_blocks o (division kids rest) =
      value (plain_head infos.Division) (values_of_blocks o kids) (values_of_blocks o rest)
  values_of_blocks o (quote kids rest) =
      value (plain_head infos.Quote) (values_of_blocks o kids) (values_of_blocks o rest)
  values_of_blocks o (bullets items rest) =
      value (plain_head infos.Bullets) (values_of_items o items) (values_of_blocks o rest)
  values_of_blocks o (numbers first items rest) =
      value (plain_head (infos.Numbers first)) (values_of_items o items) (values_of_blocks o rest)

  pub values_of_items : Options → Items → Values
  values_of_items o no_items = none
  values_of_items o (item kids rest) =
      value (plain_head infos.Container) (values_of_blocks o kids) (values_of_items o rest)

-- the document, `html` and `body`, each in the one before; the head has no value
abbrev pub page_values : Options → Blocks → Values
page_values o blocks = container (container (container (values_of_blocks o blocks)))
