-- A page of paragraphs has its answer, by its tree and the layout of that.
use Rattle.std.proofs.Common.{◌≡◌, ◌⊎◌, inl, inr, ℕ, ◌<◌, ◌≤◌, true, List, [], sym, ap, subst, ◌∙◌, arith, None, Some}
use Rattle.std.specs.Prelude.{Any}
use Rattle.std.proofs.lemmas.Bool.{cases_lt}
use Rattle.tree_forest.specs.Forest.{Forest}
use Rattle.tree_forest.specs.declared.sink.QuirksMode.{QuirksMode}
use Rattle.token_grammar.specs.PageText.{page_text}
use Rattle.lex_base.specs.References.{References}
use Rattle.html_render_dom.specs.Numbers.{handle_of}
use Rattle.html_render_tree.specs.PageLines.{page_lines}
use Rattle.html_render_tree.specs.PlainText.{plain_closes, plain_marking}
use Rattle.html_tree_builder.specs.declared.options.ParseOpts.{ParseOpts}
use Rattle.page_config.specs.PageAnswers.{ArePageValues, HasAnswer, fail, lines, too_narrow}
use Rattle.page_config.specs.Settings.{PageSetting}
use Rattle.page_reading.specs.PageTrees.{IsTreeOfBytes}
use Rattle.paragraph_laws.specs.ParagraphLines.{AreLinesAfter, IsWiderText, PlainItems}
use Rattle.paragraph_laws.specs.ParagraphPages.{AreLaid, ParagraphPagesAreLaid}
use Rattle.paragraph_page_laws.specs.ParagraphAnswers.{AreAnswered, IsPlainly}
use Rattle.paragraph_laws.specs.ParagraphPage.{IsParagraphPage}
use Rattle.paragraph_laws.specs.ParagraphTrees.{ParagraphPagesHaveTheirTrees, paragraph_tree}
use Rattle.render_conversion.specs.Conversion.{document_values}
use Rattle.render_values.specs.Values.{Values}
use Rattle.page_decoding.specs.ReplacedText.{replaced_text}

-- bytes have a tree
abbrev pub HasTree : Type 0
HasTree = (table : References) (options : ParseOpts) (bytes : List ℕ)
    → (forest : Forest) × (mode : QuirksMode) × IsTreeOfBytes table options bytes forest mode

module _ (has_tree : HasTree) (trees : ParagraphPagesHaveTheirTrees handle_of) (are_laid : ParagraphPagesAreLaid)
    (c : PageSetting (Unit {0})) (bytes : List ℕ) (texts : List (List ℕ)) (plainly : IsPlainly c)
    (page : IsParagraphPage (page_text true (replaced_text bytes)) texts) where
  abbrev its_values : Values
  its_values = document_values c.conversion c.rules (paragraph_tree texts)

  its_tree : (forest : Forest) (mode : QuirksMode) → IsTreeOfBytes c.table c.parsing bytes forest mode
      → forest ≡ paragraph_tree texts
  its_tree forest mode tree = trees c.table (replaced_text bytes) texts forest mode plainly.knows page
      (subst (λ o. IsTreeOfBytes c.table o bytes forest mode) plainly.parsing tree)

  its_values_alone : (values : Values) → ArePageValues c bytes values → values ≡ its_values
  its_values_alone values are = sym are.same
      ∙ ap (document_values c.conversion c.rules) (its_tree are.forest are.quirks are.tree)

  are_its_values : ArePageValues c bytes its_values
  are_its_values = let tree = has_tree c.table c.parsing bytes in record {
    forest = tree.0;
    quirks = tree.1;
    tree = tree.2;
    same = ap (document_values c.conversion c.rules) (its_tree tree.0 tree.1 tree.2);
  }

  laid_at : (width : ℕ) → 0 < width → AreLaid c.rendering width texts its_values
  laid_at width wide = are_laid c.conversion c.rules c.rendering width texts plainly.rules plainly.rendering wide

  lines_emitted : (width : ℕ) (shown : List PlainItems)
      → HasAnswer plain_marking (λ _. tt) plain_closes c width bytes (lines shown)
      → (0 < width) × AreLinesAfter width [] texts shown
  lines_emitted width shown has =
      let wide = has.answered.1.0 in (
        wide,
        ((laid_at width wide).lines shown).0
            (subst (λ v. page_lines plain_marking (λ _. tt) plain_closes c.rendering width v ≡ Some shown)
            (its_values_alone has.values has.page) has.answered.1.1),
      )

  lines_had : (width : ℕ) (shown : List PlainItems) → (0 < width) × AreLinesAfter width [] texts shown
      → HasAnswer plain_marking (λ _. tt) plain_closes c width bytes (lines shown)
  lines_had width shown (wide, trailing) = let laid = laid_at width wide in record {
    values = its_values;
    page = are_its_values;
    answered = (laid.some, (wide, (laid.lines shown).1 trailing));
  }

  narrow_by : (width : ℕ) (values : Values) → values ≡ its_values → (0 < width) ⊎ (width ≡ 0)
      → page_lines plain_marking (λ _. tt) plain_closes c.rendering width values ≡ None
      → (width ≡ 0) ⊎ Any (IsWiderText width) texts
  narrow_by width values same (inl wide) narrow = inr ((laid_at width wide).narrow.0
      (subst (λ v. page_lines plain_marking (λ _. tt) plain_closes c.rendering width v ≡ None) same narrow))
  narrow_by width values same (inr empty) narrow = inl empty

  wide_or_not : (width : ℕ) → (0 < width) ⊎ (width ≡ 0)
  wide_or_not width = wide_by (cases_lt 0 width) where
    wide_by : (0 < width) ⊎ (width ≤ 0) → (0 < width) ⊎ (width ≡ 0)
    wide_by (inl wide) = inl wide
    wide_by (inr empty) = inr (omega (arith, empty))

  narrow_emitted : (width : ℕ) → HasAnswer plain_marking (λ _. tt) plain_closes c width bytes too_narrow
      → (width ≡ 0) ⊎ Any (IsWiderText width) texts
  narrow_emitted width has = narrow_in has.values (its_values_alone has.values has.page) has.answered.1 where
    narrow_in : (values : Values) → values ≡ its_values
        → (width ≡ 0) ⊎ (page_lines plain_marking (λ _. tt) plain_closes c.rendering width values ≡ None)
        → (width ≡ 0) ⊎ Any (IsWiderText width) texts
    narrow_in values same (inl empty) = inl empty
    narrow_in values same (inr narrow) = narrow_by width values same (wide_or_not width) narrow

  narrow_had : (width : ℕ) → (width ≡ 0) ⊎ Any (IsWiderText width) texts
      → HasAnswer plain_marking (λ _. tt) plain_closes c width bytes too_narrow
  narrow_had width narrow = narrow_from (wide_or_not width) narrow where
    narrow_from : (0 < width) ⊎ (width ≡ 0) → (width ≡ 0) ⊎ Any (IsWiderText width) texts
        → HasAnswer plain_marking (λ _. tt) plain_closes c width bytes too_narrow
    narrow_from (inr empty) any = record {
      values = its_values;
      page = are_its_values;
      answered = ((laid_at 1 (omega arith)).some, inl empty);
    }
    narrow_from (inl wide) (inl empty) = absurd (omega (arith, wide, empty))
    narrow_from (inl wide) (inr any) = let laid = laid_at width wide in record {
      values = its_values;
      page = are_its_values;
      answered = (laid.some, inr (laid.narrow.1 any));
    }

  not_nothing : (width : ℕ) → HasAnswer plain_marking (λ _. tt) plain_closes c width bytes fail → ⊥
  not_nothing width has =
      (laid_at 1 (omega arith)).some (sym (its_values_alone has.values has.page) ∙ has.answered)

  pub answered : (width : ℕ) → AreAnswered c width bytes texts
  answered width = record {
    laid = λ shown. (lines_emitted width shown, lines_had width shown);
    narrow = (narrow_emitted width, narrow_had width);
    other = not_nothing width;
  }
