-- Settings that are seen alike read and show pages alike.
use Rattle.std.proofs.Common.{◌≡◌, ℕ, List, map, sym, ap, subst, ◌∙◌}
use Rattle.html_render_tree.proofs.SeenRules.{values_alike}
use Rattle.html_render_tree.specs.PageLines.{Setting}
use Rattle.page_config.specs.PageAnswers.{HasAnswer, HasText, IsAnswerOf, PageAnswer, lines}
use Rattle.page_config.specs.Settings.{PageSetting}
use Rattle.page_reading.specs.PageTrees.{IsTreeOfBytes}
use Rattle.render_conversion.specs.Conversion.{document_values}
use Rattle.render_conversion.specs.Decorating.{seen_rule}
use Rattle.block_trait.specs.Renderers.{Marking}
use Rattle.block_trait.specs.declared.options.RenderOptions.{RenderOptions}
use Rattle.text_lines.specs.Tagged.{Item}

pub record AreAlike (c d : PageSetting (Unit {0})) : Type 0 where
  pub table : c.table ≡ d.table
  pub parsing : c.parsing ≡ d.parsing
  pub conversion : c.conversion ≡ d.conversion
  pub rules : map seen_rule c.rules ≡ map seen_rule d.rules
  pub options : c.rendering.options ≡ d.rendering.options
  pub min_wrap : c.rendering.min_wrap ≡ d.rendering.min_wrap

abbrev rendered_by : RenderOptions → ℕ → Setting (Unit {0})
rendered_by options min_wrap = record { options = options; min_wrap = min_wrap; held = tt }

module _ {T A : Type 0} (m : Marking (Unit {0}) A) (seen : T → A)
    (closes : Unit {0} → List (List ℕ) → List (List (Item T))) (c d : PageSetting (Unit {0}))
    (alike : AreAlike c d) (width : ℕ) (bytes : List ℕ) where
  pub answers_alike : (answer : PageAnswer A) → HasAnswer m seen closes c width bytes answer
      → HasAnswer m seen closes d width bytes answer
  answers_alike answer a = record {
    values = a.values;
    page = record {
      forest = a.page.forest;
      quirks = a.page.quirks;
      tree = subst (λ table. IsTreeOfBytes table d.parsing bytes a.page.forest a.page.quirks) alike.table
          (subst (λ parsing. IsTreeOfBytes c.table parsing bytes a.page.forest a.page.quirks) alike.parsing
          a.page.tree);
      same = sym (values_alike d.conversion c.rules d.rules a.page.forest alike.rules)
          ∙ ap (λ o. document_values o c.rules a.page.forest) (sym alike.conversion) ∙ a.page.same;
    };
    answered = subst (λ rendering. IsAnswerOf m seen closes rendering width a.values answer)
        (ap (λ options. rendered_by options c.rendering.min_wrap) alike.options
        ∙ ap (rendered_by d.rendering.options) alike.min_wrap) a.answered;
  }

  pub texts_alike : (text : List ℕ) → HasText m seen closes c width bytes text
      → HasText m seen closes d width bytes text
  texts_alike text t = record { shown = t.shown; answer = answers_alike (lines t.shown) t.answer; emitted = t.emitted }
