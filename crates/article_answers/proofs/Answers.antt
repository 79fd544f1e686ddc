-- What is answered of an article's page is the article's own answer.
use Rattle.std.proofs.Common.{◌≡◌, ◌<◌, ⊎_elim, ◌∙◌, Bool, List, None, Option, ap, arith, false, refl, subst, suc, sym}
use Rattle.std.proofs.Common.{zero, ℕ}
use Rattle.article_answers.specs.ArticleAnswers.{IsForArticles, IsWritten, answer_of, article_answer, options_for}
use Rattle.article_page_laws.specs.ArticleValues.{AreRulesOf}
use Rattle.article_definitions.specs.ArticleValues.{page_values}
use Rattle.article_definitions.specs.Layouts.{Options}
use Rattle.article_page_laws.specs.ArticlesLaid.{AreLaidAs, options_by, shown_lines}
use Rattle.article_values.specs.Articles.{Blocks}
use Rattle.article_values.specs.Faults.{first_fault}
use Rattle.document_laws.specs.Escaped.{KnowsEscapes}
use Rattle.tree_forest.specs.Forest.{Forest}
use Rattle.tree_forest.specs.declared.sink.QuirksMode.{QuirksMode}
use Rattle.lex_base.specs.References.{References}
use Rattle.std.specs.Prelude.{IsUtf8, chars}
use Rattle.page_config.specs.PageAnswers.{HasAnswer, IsAnswerOf, PageAnswer, fail, lines, too_narrow}
use Rattle.page_config.specs.Settings.{PageSetting}
use Rattle.page_reading.specs.PageTrees.{IsTreeOfBytes}
use Rattle.render_conversion.specs.Conversion.{document_values}
use Rattle.render_conversion.specs.declared.options.ConversionOptions.{ConversionOptions}
use Rattle.render_values.specs.Values.{Values}
use Rattle.dom_styles.specs.declared.rules.StyleRule.{StyleRule}
use Rattle.text_block_renderer.specs.PlainText.{plain_closes, plain_marking}
use Rattle.article_writing.specs.Contents.{NumbersFit, article_text, article_tree}
use Rattle.written_document_laws.specs.Documents.{scripted_parse}
use Rattle.article_answers.proofs.FilledTexts.{article_filled}
use Rattle.article_page_laws.specs.Pages.{AreFilledBlocks}
use Rattle.html_render_tree.specs.PageLines.{Setting}

abbrev pub HasItsTree : Type 0
HasItsTree = (table : References) (scripting : Bool) → KnowsEscapes table → (title : Option (List ℕ)) (blocks : Blocks)
    (bytes : List ℕ) (forest : Forest) (quirks : QuirksMode) → first_fault title blocks ≡ None → IsUtf8 bytes →
    chars bytes ≡ article_text title blocks → IsTreeOfBytes table (scripted_parse scripting) bytes forest quirks →
    forest ≡ article_tree title blocks

abbrev pub HasItsValues : Type 0
HasItsValues = (conversion : ConversionOptions) (o : Options) (rules : List StyleRule) (title : Option (List ℕ))
    (blocks : Blocks) →
    AreRulesOf o.decorates rules → first_fault title blocks ≡ None → NumbersFit blocks →
    document_values conversion rules (article_tree title blocks) ≡ page_values o blocks

abbrev pub IsLaid : Type 0
IsLaid = (c : Setting (Unit {0})) (decorates : Bool) (width : ℕ) (blocks : Blocks) →
    c.options.allow_width_overflow ≡ false → 0 < width → AreFilledBlocks blocks →
    AreLaidAs c width (shown_lines (options_by c decorates) width blocks) (page_values (options_by c decorates) blocks)

module _ (tree : HasItsTree) (values : HasItsValues) (laid : IsLaid) (c : PageSetting (Unit {0}))
    (title : Option (List ℕ)) (blocks : Blocks) (bytes : List ℕ) (is : IsForArticles c)
    (w : IsWritten title blocks bytes) where
  abbrev o : Options
  o = options_for c

  abbrev Answered : ℕ → Values → PageAnswer (Unit {0}) → Type 0
  Answered width vs answer = IsAnswerOf plain_marking (λ _. tt) plain_closes c.rendering width vs answer

  values_are : (width : ℕ) (answer : PageAnswer (Unit {0}))
      (h : HasAnswer plain_marking (λ _. tt) plain_closes c width bytes answer) → h.values ≡ page_values o blocks
  values_are width answer h =
      let same : h.page.forest ≡ article_tree title blocks =
      tree c.table c.parsing.tree_builder.scripting_enabled is.table title blocks bytes h.page.forest h.page.quirks
      w.faultless w.utf8 w.text
      (subst (λ p. IsTreeOfBytes c.table p bytes h.page.forest h.page.quirks) is.parsing h.page.tree) in
      sym h.page.same ∙ ap (document_values c.conversion c.rules) same
      ∙ values c.conversion o c.rules title blocks is.rules w.faultless w.numbers

  laid_at : (width : ℕ) → 0 < width → AreLaidAs c.rendering width (shown_lines o width blocks) (page_values o blocks)
  laid_at width wide =
      laid c.rendering c.decorates width blocks is.within wide (article_filled title blocks w.faultless)

  answer_is : (width : ℕ) (answer : PageAnswer (Unit {0})) → Answered width (page_values o blocks) answer →
      answer ≡ article_answer c width blocks
  answer_is width (lines shown) a = ap answer_of (sym (sym (laid_at width a.1.0) ∙ a.1.1))
  answer_is zero too_narrow a = refl
  answer_is (suc n) too_narrow a = ⊎_elim (λ e. cc)
      (λ narrow. ap answer_of (sym (sym (laid_at (suc n) (omega arith)) ∙ narrow))) a.1
  answer_is width fail a = cc

  pub as_itself : (width : ℕ) (answer : PageAnswer (Unit {0})) →
      HasAnswer plain_marking (λ _. tt) plain_closes c width bytes answer →
      answer ≡ article_answer c width blocks
  as_itself width answer h =
      answer_is width answer (subst (λ vs. Answered width vs answer) (values_are width answer h) h.answered)
