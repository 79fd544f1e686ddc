-- What is written of such an article (WHATWG HTML, 4.3 to 4.5 and 13.3).
use Rattle.std.specs.Prelude.{ℕ, ◌+◌, List, [], ◌∷◌, Option, codes}
use Rattle.std.specs.Fmt.{signed_decimal}
use Rattle.article_page_laws.specs.PlainArticles.{PlainBlocks, PlainInlines, PlainItems, PlainStyle, bold, bullets}
use Rattle.article_page_laws.specs.PlainArticles.{code, division, emphasis, heading, italic, item, line_break, link}
use Rattle.article_page_laws.specs.PlainArticles.{no_blocks, no_inlines, no_items, numbers, paragraph, words}
use Rattle.article_page_laws.specs.PlainArticles as plain
use Rattle.document_laws.specs.Contents.{Content, in_no_namespace, none, say, span}
use Rattle.written_document_laws.specs.Documents.{document_text}

abbrev pub plain_name : PlainStyle → List ℕ
plain_name bold = codes "b"
plain_name italic = codes "i"
plain_name emphasis = codes "em"
plain_name code = codes "code"

abbrev pub content_of_plain : PlainInlines → Content
content_of_plain no_inlines = none
content_of_plain (words [] rest) = content_of_plain rest
content_of_plain (words (c ∷ cs) rest) = say c cs (content_of_plain rest)
content_of_plain (line_break rest) = span (codes "br") [] none (content_of_plain rest)
content_of_plain (plain.span style kids rest) =
    span (plain_name style) [] (content_of_plain kids) (content_of_plain rest)
content_of_plain (link target kids rest) =
    span (codes "a") (in_no_namespace (codes "href") target ∷ []) (content_of_plain kids) (content_of_plain rest)

-- `h` and the digit of the level
abbrev pub plain_heading : ℕ → List ℕ
plain_heading level = 104 ∷ (48 + level) ∷ []

abbrev mutual
  pub content_of_plain_blocks : PlainBlocks → Content
  content_of_plain_blocks no_blocks = none
  content_of_plain_blocks (paragraph is rest) =
      span (codes "p") [] (content_of_plain is) (content_of_plain_blocks rest)
  content_of_plain_blocks (heading level is rest) =
      span (plain_heading level) [] (content_of_plain is) (content_of_plain_blocks rest)
  content_of_plain_blocks (division kids rest) =
      span (codes "div") [] (content_of_plain_blocks kids) (content_of_plain_blocks rest)
  content_of_plain_blocks (bullets items rest) =
      span (codes "ul") [] (content_of_plain_items items) (content_of_plain_blocks rest)
  content_of_plain_blocks (numbers first items rest) =
      span (codes "ol") (in_no_namespace (codes "start") (signed_decimal first) ∷ []) (content_of_plain_items items)
      (content_of_plain_blocks rest)

  pub content_of_plain_items : PlainItems → Content
  content_of_plain_items no_items = none
  content_of_plain_items (item kids rest) =
      span (codes "li") [] (content_of_plain_blocks kids) (content_of_plain_items rest)

abbrev pub plain_text : (title : Option (List ℕ)) → PlainBlocks → List ℕ
plain_text title blocks = document_text title (content_of_plain_blocks blocks)
