-- The trees of pages of paragraphs: `html`, `head` and `body` are made, and each paragraph stands in the body.
use Rattle.std.specs.Prelude.{◌≡◌, ℕ, true, List, [], ◌∷◌, codes}
use Rattle.document_laws.specs.Escaped.{KnowsEscapes}
use Rattle.tree_forest.specs.Forest.{Forest, page_alone}
use Rattle.tree_forest.specs.declared.sink.QuirksMode.{QuirksMode}
use Rattle.tree_forest.specs.declared.sink.QuirksMode.TheVariants.{NoQuirks}
use Rattle.token_grammar.specs.PageText.{page_text}
use Rattle.lex_base.specs.References.{References}
use Rattle.html_tree_builder.specs.Defaults.{default_parse}
use Rattle.html_tree_builder.specs.Grown.{IsTreeOfPage, beginning}
use Rattle.document_laws.specs.Contents.{Content, none, say, span}
use Rattle.document_laws.specs.Planted.{planted, with_new}
use Rattle.paragraph_laws.specs.ParagraphPage.{IsParagraphPage}

abbrev pub text_content : List ℕ → Content
text_content [] = none
text_content (c ∷ cs) = say c cs none

-- a paragraph with each text
abbrev pub paragraphs : List (List ℕ) → Content
paragraphs [] = none
paragraphs (text ∷ texts) = span (codes "p") [] (text_content text) (paragraphs texts)

-- the document is node 0, `html` 1, `head` 2, `body` 3
abbrev pub body_alone : Forest
body_alone = with_new 1 (codes "body") [] (with_new 1 (codes "head") [] (with_new 0 (codes "html") [] page_alone))

abbrev pub paragraph_tree : List (List ℕ) → Forest
paragraph_tree texts = planted 3 (paragraphs texts) body_alone

-- A text that is a page of paragraphs has that tree and no other.
abbrev pub ParagraphPagesHaveTheirTrees : {H : Type 0} → (ℕ → H) → Type 0
ParagraphPagesHaveTheirTrees handle = (table : References) (text : List ℕ) (texts : List (List ℕ)) (forest : Forest)
    (quirks : QuirksMode) → KnowsEscapes table → IsParagraphPage (page_text true text) texts →
    IsTreeOfPage handle (beginning table default_parse page_alone NoQuirks) text forest quirks →
    forest ≡ paragraph_tree texts
