-- Bytes have one answer, since they have one tree.
use Rattle.std.proofs.Common.{◌≡◌, sym, ap, subst, ◌∙◌, ℕ, List, []}
use Rattle.tree_forest.specs.Forest.{Forest}
use Rattle.tree_forest.specs.declared.sink.QuirksMode.{QuirksMode}
use Rattle.lex_base.specs.References.{References}
use Rattle.html_tree_builder.specs.declared.options.ParseOpts.{ParseOpts}
use Rattle.page_config.proofs.AnswerLemmas.{answer_is_one}
use Rattle.page_config.specs.PageAnswers.{ArePageValues, HasAnswer, HasText, IsAnswerOf, PageAnswer, fail, lines}
use Rattle.page_config.specs.PageAnswers.{lines_text, too_narrow}
use Rattle.page_config.specs.Settings.{PageSetting}
use Rattle.page_reading.specs.PageTrees.{IsTreeOfBytes}
use Rattle.render_conversion.specs.Conversion.{document_values}
use Rattle.render_values.specs.Values.{Values}
use Rattle.block_trait.specs.Renderers.{Marking}
use Rattle.text_lines.specs.Tagged.{Item}

-- bytes have one tree
abbrev pub OneTree : Type 0
OneTree = (table : References) (options : ParseOpts) (bytes : List ℕ) (one other : Forest) (mode second : QuirksMode)
    → IsTreeOfBytes table options bytes one mode → IsTreeOfBytes table options bytes other second → one ≡ other

values_are_one : {H : Type 0} → OneTree → (c : PageSetting H) (bytes : List ℕ) (one other : Values)
    → ArePageValues c bytes one → ArePageValues c bytes other → one ≡ other
values_are_one trees c bytes one other a b = sym a.same ∙ ap (document_values c.conversion c.rules)
    (trees c.table c.parsing bytes a.forest b.forest a.quirks b.quirks a.tree b.tree) ∙ b.same

abbrev lines_in : {A : Type 0} → PageAnswer A → List (List (Item (List A)))
lines_in (lines shown) = shown
lines_in too_narrow = []
lines_in fail = []

module _ {T H A : Type 0} (m : Marking H A) (seen : T → A) (closes : H → List (List ℕ) → List (List (Item T)))
    (trees : OneTree) where
  pub one_answer : (c : PageSetting H) (width : ℕ) (bytes : List ℕ) (one other : PageAnswer A)
      → HasAnswer m seen closes c width bytes one → HasAnswer m seen closes c width bytes other → one ≡ other
  one_answer c width bytes one other a b = answer_is_one m seen closes c.rendering width b.values one other
      (subst (λ v. IsAnswerOf m seen closes c.rendering width v one)
      (values_are_one trees c bytes a.values b.values a.page b.page) a.answered) b.answered

  pub one_text : (c : PageSetting H) (width : ℕ) (bytes one other : List ℕ)
      → HasText m seen closes c width bytes one → HasText m seen closes c width bytes other → one ≡ other
  one_text c width bytes one other a b = a.emitted ∙ ap (λ answer. lines_text (lines_in answer))
      (one_answer c width bytes (lines a.shown) (lines b.shown) a.answer b.answer) ∙ sym b.emitted
