-- The lines of a page keep its width.
use Rattle.std.proofs.Common.{◌≡◌, ◌∙◌, inl, inr, ℕ, ◌<◌, ◌≤◌, true, false, List, arith, map, subst}
use Rattle.std.proofs.lemmas.List.Elements.{All-map}
use Rattle.tree_forest.specs.Forest.{Forest}
use Rattle.html_render_tree.specs.PageLaws.{AreWithin, IsTextWithin, PagesHaveRoom, PagesKeepWidth}
use Rattle.html_render_tree.proofs.TextWidths.{as_lines}
use Rattle.page_config.specs.PageAnswers.{HasAnswer, HasText, IsAnswerOf, lines, too_narrow}
use Rattle.page_config.specs.Settings.{PageSetting}
use Rattle.render_conversion.specs.Conversion.{document_values}
use Rattle.render_conversion.specs.declared.options.ConversionOptions.{ConversionOptions}
use Rattle.render_values.specs.Values.{Values}
use Rattle.block_trait.specs.Renderers.{Marking}
use Rattle.dom_styles.specs.declared.rules.StyleRule.{StyleRule}
use Rattle.text_lines.specs.Columns.{text_columns}
use Rattle.text_lines.specs.Tagged.{Item, characters}
use Rattle.text_decorators.specs.Marks.{IsSteady}
use Rattle.html_render_tree.specs.WalkLaws.{AreNumbered}

module _ {T H A : Type 0} (m : Marking H A) (seen : T → A) (closes : H → List (List ℕ) → List (List (Item T)))
  where
    pub within_width : ((o : ConversionOptions) (rules : List StyleRule) (f : Forest) →
        AreNumbered (document_values o rules f))
        → PagesKeepWidth m seen closes → (c : PageSetting H) (width : ℕ) (bytes : List ℕ)
        (shown : List (List (Item (List A)))) → IsSteady m.mark_text → c.rendering.options.allow_width_overflow ≡ false
        → c.rendering.options.wrap_links ≡ true → 2 ≤ width → HasAnswer m seen closes c width bytes (lines shown)
        → AreWithin width shown
    within_width numbered keeps c width bytes shown steady off wrapped wide has =
        keeps c.rendering width has.values shown
        steady (subst AreNumbered has.page.same (numbered c.conversion c.rules has.page.forest)) off wrapped wide
        has.answered.1.1

    pub text_within : ((o : ConversionOptions) (rules : List StyleRule) (f : Forest) →
        AreNumbered (document_values o rules f))
        → PagesKeepWidth m seen closes → (c : PageSetting H) (width : ℕ) (bytes text : List ℕ)
        → IsSteady m.mark_text → c.rendering.options.allow_width_overflow ≡ false
        → c.rendering.options.wrap_links ≡ true → 2 ≤ width → HasText m seen closes c width bytes text
        → IsTextWithin width text
    text_within numbered keeps c width bytes text steady off wrapped wide has = record {
      lines = map characters has.shown;
      given = has.emitted ∙ as_lines has.shown;
      within = All-map (λ line. text_columns line ≤ width) characters has.shown
          (within_width numbered keeps c width bytes has.shown steady off wrapped wide has.answer);
    }

    wide_enough : PagesHaveRoom m seen closes → (c : PageSetting H) (width : ℕ) (values : Values)
        → c.rendering.options.allow_width_overflow ≡ true → 0 < width
        → IsAnswerOf m seen closes c.rendering width values too_narrow → ⊥
    wide_enough room c width values on wide (some, inl none) = absurd (omega (arith, wide, none))
    wide_enough room c width values on wide (some, inr narrow) = room c.rendering width values on narrow

    pub never_narrow : PagesHaveRoom m seen closes → (c : PageSetting H) (width : ℕ) (bytes : List ℕ)
        → c.rendering.options.allow_width_overflow ≡ true → 0 < width
        → HasAnswer m seen closes c width bytes too_narrow → ⊥
    never_narrow room c width bytes on wide has = wide_enough room c width has.values on wide has.answered
