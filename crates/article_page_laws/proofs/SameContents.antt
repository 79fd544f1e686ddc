-- What is written of articles without quotes and strong text.
use Rattle.std.proofs.Common.{◌≡◌, ℕ, List, [], ◌∷◌, Option, codes, refl, ap, ◌∙◌}
use Rattle.std.specs.Fmt.{signed_decimal}
use Rattle.article_page_laws.specs.PlainArticles.{PlainBlocks, PlainInlines, PlainItems, PlainStyle, bold, bullets}
use Rattle.article_page_laws.specs.PlainArticles.{code, division, emphasis, heading, italic, item, line_break, link}
use Rattle.article_page_laws.specs.PlainArticles.{no_blocks, no_inlines, no_items, numbers, paragraph, wide_blocks}
use Rattle.article_page_laws.specs.PlainArticles.{wide_inlines, wide_items, wide_style, words}
use Rattle.article_page_laws.specs.PlainArticles as plain
use Rattle.article_page_laws.specs.PlainContents.{content_of_plain, content_of_plain_blocks, content_of_plain_items}
use Rattle.article_page_laws.specs.PlainContents.{plain_heading, plain_name, plain_text}
use Rattle.document_laws.specs.Contents.{Content, in_no_namespace, none, say, span}
use Rattle.article_writing.specs.Contents.{article_text, content_of_blocks, content_of_inlines, content_of_items}
use Rattle.article_writing.specs.Contents.{style_name}
use Rattle.written_document_laws.specs.Documents.{document_text}
use Rattle.html_lexemes.specs.declared.names.Attribute.{Attribute}

-- an element with other contents, and before others
in_element : (name : List ℕ) (attributes : List Attribute) (kids inside rest further : Content) → kids ≡ inside →
    rest ≡ further → span name attributes kids rest ≡ span name attributes inside further
in_element name attributes kids inside rest further e h =
    ap (λ x. span name attributes x rest) e ∙ ap (span name attributes inside) h

name_stays : (style : PlainStyle) → style_name (wide_style style) ≡ plain_name style
name_stays bold = refl
name_stays italic = refl
name_stays emphasis = refl
name_stays code = refl

content_stays : (is : PlainInlines) → content_of_inlines (wide_inlines is) ≡ content_of_plain is
content_stays no_inlines = refl
content_stays (words [] rest) = content_stays rest
content_stays (words (c ∷ cs) rest) = ap (say c cs) (content_stays rest)
content_stays (line_break rest) = ap (span (codes "br") [] none) (content_stays rest)
content_stays (plain.span style kids rest) =
    ap (λ name. span name [] (content_of_inlines (wide_inlines kids)) (content_of_inlines (wide_inlines rest)))
    (name_stays style)
    ∙ in_element (plain_name style) [] _ _ _ _ (content_stays kids) (content_stays rest)
content_stays (link target kids rest) =
    in_element (codes "a") (in_no_namespace (codes "href") target ∷ []) _ _ _ _ (content_stays kids)
    (content_stays rest)

mutual
  pub contents_stay : (blocks : PlainBlocks) → content_of_blocks (wide_blocks blocks) ≡ content_of_plain_blocks blocks
  contents_stay no_blocks = refl
  contents_stay (paragraph is rest) = in_element (codes "p") [] _ _ _ _ (content_stays is) (contents_stay rest)
  contents_stay (heading level is rest) =
      in_element (plain_heading level) [] _ _ _ _ (content_stays is) (contents_stay rest)
  contents_stay (division kids rest) = in_element (codes "div") [] _ _ _ _ (contents_stay kids) (contents_stay rest)
  contents_stay (bullets items rest) = in_element (codes "ul") [] _ _ _ _ (items_stay items) (contents_stay rest)
  contents_stay (numbers first items rest) =
      in_element (codes "ol") (in_no_namespace (codes "start") (signed_decimal first) ∷ []) _ _ _ _ (items_stay items)
      (contents_stay rest)

  items_stay : (items : PlainItems) → content_of_items (wide_items items) ≡ content_of_plain_items items
  items_stay no_items = refl
  items_stay (item kids rest) = in_element (codes "li") [] _ _ _ _ (contents_stay kids) (items_stay rest)

pub text_stays : (title : Option (List ℕ)) (blocks : PlainBlocks) →
    article_text title (wide_blocks blocks) ≡ plain_text title blocks
text_stays title blocks = ap (document_text title) (contents_stay blocks)
