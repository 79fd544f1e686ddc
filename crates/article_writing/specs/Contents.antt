-- What an article is as a page: what stands in the body for its blocks, and what is written of it (WHATWG HTML, 4.3 to
-- 4.5 and 13.3).
use Rattle.std.specs.Prelude.{ℕ, ◌+◌, ◌<◌, ◌^◌, List, [], ◌∷◌, Option, codes}
use Rattle.std.specs.Fmt.{signed_decimal}
use Rattle.std.specs.Int.Signed.{mag}
use Rattle.article_values.specs.Articles.{Blocks, Inlines, Items, Style, bold, bullets, code, division, emphasis}
use Rattle.article_values.specs.Articles.{heading, italic, item, line_break, link, no_blocks, no_inlines, no_items}
use Rattle.article_values.specs.Articles.{numbers, paragraph, quote, strong, words}
use Rattle.article_values.specs.Articles as articles
use Rattle.document_laws.specs.Contents.{Content, in_no_namespace, none, say, span}
use Rattle.tree_forest.specs.Forest.{Forest}
use Rattle.written_document_laws.specs.Documents.{document_text}
use Rattle.written_document_laws.specs.Trees.{whole_tree}

abbrev pub style_name : Style → List ℕ
style_name bold = codes "b"
style_name italic = codes "i"
style_name emphasis = codes "em"
style_name code = codes "code"
style_name strong = codes "strong"

abbrev pub content_of_inlines : Inlines → Content
content_of_inlines no_inlines = none
content_of_inlines (words [] rest) = content_of_inlines rest
content_of_inlines (words (c ∷ cs) rest) = say c cs (content_of_inlines rest)
content_of_inlines (line_break rest) = span (codes "br") [] none (content_of_inlines rest)
content_of_inlines (articles.span style contents rest) =
    span (style_name style) [] (content_of_inlines contents) (content_of_inlines rest)
content_of_inlines (link target contents rest) =
    span (codes "a") (in_no_namespace (codes "href") target ∷ []) (content_of_inlines contents)
    (content_of_inlines rest)

-- `h` and the digit of the level
abbrev pub heading_name : ℕ → List ℕ
heading_name level = 104 ∷ (48 + level) ∷ []

abbrev mutual
  pub content_of_blocks : Blocks → Content
  content_of_blocks no_blocks = none
  content_of_blocks (paragraph contents rest) =
      span (codes "p") [] (content_of_inlines contents) (content_of_blocks rest)
  content_of_blocks (heading level contents rest) =
      span (heading_name level) [] (content_of_inlines contents) (content_of_blocks rest)
  content_of_blocks (division its_blocks rest) =
      span (codes "div") [] (content_of_blocks its_blocks) (content_of_blocks rest)
  content_of_blocks (quote its_blocks rest) =
      span (codes "blockquote") [] (content_of_blocks its_blocks) (content_of_blocks rest)
  content_of_blocks (bullets its_items rest) =
      span (codes "ul") [] (content_of_items its_items) (content_of_blocks rest)
  content_of_blocks (numbers first its_items rest) =
      span (codes "ol") (in_no_namespace (codes "start") (signed_decimal first) ∷ []) (content_of_items its_items)
      (content_of_blocks rest)

  pub content_of_items : Items → Content
  content_of_items no_items = none
  content_of_items (item its_blocks rest) =
      span (codes "li") [] (content_of_blocks its_blocks) (content_of_items rest)

-- the written form of an article
abbrev pub article_text : (title : Option (List ℕ)) → Blocks → List ℕ
article_text title blocks = document_text title (content_of_blocks blocks)

-- and its tree
abbrev pub article_tree : (title : Option (List ℕ)) → Blocks → Forest
article_tree title blocks = whole_tree title (content_of_blocks blocks)

-- The first numbers of lists are numbers of 64 bits, as all that stand in memory are: from -2^63, which `mag` counts as
-- 2^63 - 1, to 2^63 - 1.
abbrev mutual
  pub NumbersFit : Blocks → Type 0
  NumbersFit no_blocks = Unit {0}
  NumbersFit (paragraph contents rest) = NumbersFit rest
  NumbersFit (heading level contents rest) = NumbersFit rest
  NumbersFit (division its_blocks rest) = NumbersFit its_blocks × NumbersFit rest
  NumbersFit (quote its_blocks rest) = NumbersFit its_blocks × NumbersFit rest
  NumbersFit (bullets its_items rest) = ItemsFit its_items × NumbersFit rest
  NumbersFit (numbers first its_items rest) = (mag first < 2 ^ 63) × (ItemsFit its_items × NumbersFit rest)

  pub ItemsFit : Items → Type 0
  ItemsFit no_items = Unit {0}
  ItemsFit (item its_blocks rest) = NumbersFit its_blocks × ItemsFit rest
