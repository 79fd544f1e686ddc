-- Values have an answer at a width.
use Rattle.std.proofs.Common.{◌≡◌, ◌≢◌, ◌⊎◌, ◌<◌, List, None, Option, Some, arith, inl, inr, refl, suc, zero, ℕ}
use Rattle.tree_forest.specs.Forest.{Forest}
use Rattle.tree_forest.specs.declared.sink.QuirksMode.{QuirksMode}
use Rattle.lex_base.specs.References.{References}
use Rattle.html_render_tree.specs.PageLines.{Setting, page_lines}
use Rattle.html_tree_builder.specs.declared.options.ParseOpts.{ParseOpts}
use Rattle.page_config.specs.PageAnswers.{HasAnswer, IsAnswerOf, PageAnswer, fail, lines, too_narrow}
use Rattle.page_config.specs.Settings.{PageSetting}
use Rattle.page_reading.specs.PageTrees.{IsTreeOfBytes}
use Rattle.render_conversion.specs.Conversion.{document_values}
use Rattle.render_values.specs.Values.{Values, none, value}
use Rattle.block_trait.specs.Renderers.{Marking}
use Rattle.text_lines.specs.Tagged.{Item}

-- bytes have a tree
abbrev pub HasTree : Type 0
HasTree = (table : References) (options : ParseOpts) (bytes : List ℕ)
    → (forest : Forest) × (mode : QuirksMode) × IsTreeOfBytes table options bytes forest mode

-- a test that keeps what it found
some_or_none : {X : Type 0} (o : Option X) → ((x : X) × (o ≡ Some x)) ⊎ (o ≡ None)
some_or_none None = inr refl
some_or_none (Some x) = inl (x, refl)

nothing_or_some : (values : Values) → (values ≡ none) ⊎ (values ≢ none)
nothing_or_some none = inl refl
nothing_or_some (value head inside rest) = inr (λ e. cc)

zero_or_wide : (width : ℕ) → (width ≡ 0) ⊎ (0 < width)
zero_or_wide zero = inl refl
zero_or_wide (suc n) = inr (omega arith)

module _ {T H A : Type 0} (m : Marking H A) (seen : T → A) (closes : H → List (List ℕ) → List (List (Item T))) where
  abbrev pub HasAnswerOf : Setting H → ℕ → Values → Type 0
  HasAnswerOf c width values = (answer : PageAnswer A) × IsAnswerOf m seen closes c width values answer

  some_answer : (c : Setting H) (width : ℕ) (values : Values) → HasAnswerOf c width values
  some_answer c width values = by_values (nothing_or_some values) (zero_or_wide width)
      (some_or_none (page_lines m seen closes c width values)) where
        by_values : (values ≡ none) ⊎ (values ≢ none) → (width ≡ 0) ⊎ (0 < width)
            → ((shown : _) × (page_lines m seen closes c width values ≡ Some shown))
            ⊎ (page_lines m seen closes c width values ≡ None) → HasAnswerOf c width values
        by_values (inl nothing) columns found = (fail, nothing)
        by_values (inr some) (inl zero_width) found = (too_narrow, (some, inl zero_width))
        by_values (inr some) (inr wide) (inl shown) = (lines shown.0, (some, (wide, shown.1)))
        by_values (inr some) (inr wide) (inr never) = (too_narrow, (some, inr never))

  pub page_answered : HasTree → (c : PageSetting H) (width : ℕ) (bytes : List ℕ)
      → (answer : PageAnswer A) × HasAnswer m seen closes c width bytes answer
  page_answered trees c width bytes =
      let tree = trees c.table c.parsing bytes in
      let values = document_values c.conversion c.rules tree.0 in
      let answer = some_answer c.rendering width values in (
        answer.0,
        record {
          values = values;
          page = record { forest = tree.0; quirks = tree.1; tree = tree.2; same = refl };
          answered = answer.1;
        },
      )
