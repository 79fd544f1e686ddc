-- Answers of what was read.
use Rattle.std.proofs.Common.{◌≡◌, ◌≢◌, ◌⊎◌, ◌<◌, IfSome, List, None, Option, Some, inl, inr, refl, subst, sym, ℕ}
use Rattle.block_renderer.specs.Seen.{IsTagging, marking}
use Rattle.tree_forest.specs.Forest.{Forest}
use Rattle.tree_forest.specs.declared.sink.QuirksMode.{QuirksMode}
use Rattle.html_render_tree.proofs.OptionLemmas.{some_mapped}
use Rattle.html_render_tree.specs.PageLines.{Setting, page_lines, page_text}
use Rattle.page_config.specs.Errors.{error_of_render}
use Rattle.page_config.specs.PageAnswers.{Answers, ArePageValues, HasText, IsEmitted, fail, lines, lines_text}
use Rattle.page_config.specs.PageAnswers.{too_narrow}
use Rattle.page_config.specs.Settings.{PageSetting}
use Rattle.page_config.specs.declared.error.Error.TheVariants as errors
use Rattle.page_reading.specs.PageTrees.{IsTreeOfBytes}
use Rattle.render_conversion.specs.Conversion.{document_values}
use Rattle.render_conversion.specs.declared.error.RenderError.{RenderError}
use Rattle.render_conversion.specs.declared.error.RenderError.TheVariants as rendering
use Rattle.render_values.specs.Values.{Values, none}
use Rattle.block_trait.specs.Renderers.{Marking}
use Rattle.text_lines.specs.Tagged.{Item}
use Rattle.text_decorators.specs.Marks.{DecoratorView, Mark}

pub read_values : {H : Type 0} (c : PageSetting H) (all : Option (List ℕ)) (forest : Forest) (mode : QuirksMode)
    (values : Values) → document_values c.conversion c.rules forest ≡ values
    → IfSome all (λ bytes. IsTreeOfBytes c.table c.parsing bytes forest mode)
    → IfSome all (λ bytes. ArePageValues c bytes values)
read_values c None forest mode values same tree = tt
read_values c (Some bytes) forest mode values same tree = record {
  forest = forest;
  quirks = mode;
  tree = tree;
  same = same;
}

-- what was too narrow for a render tree
pub narrow_error : (e : RenderError) → error_of_render e ≡ errors.TooNarrow → e ≡ rendering.TooNarrow
narrow_error rendering.TooNarrow same = refl
narrow_error rendering.Fail same = cc
narrow_error rendering.Memory same = cc

printed_lines : {T H A : Type 0} (m : Marking H A) (seen : T → A) (closes : H → List (List ℕ) → List (List (Item T)))
    (c : PageSetting H) (width : ℕ) (bytes : List ℕ) (values : Values) (text : List ℕ) → ArePageValues c bytes values
    → values ≢ none → 0 < width → page_text m seen closes c.rendering width values ≡ Some text
    → HasText m seen closes c width bytes text
printed_lines m seen closes c width bytes values text page some wide printed =
    let given = some_mapped lines_text (page_lines m seen closes c.rendering width values) text printed in
    record {
      shown = given.0;
      answer = record { values = values; page = page; answered = (some, (wide, given.1.0)) };
      emitted = sym given.1.1;
    }

module _ {D T H A : Type 0} (seen : T → A) (view : DecoratorView D H T) (c : PageSetting H) (width : ℕ) where
  -- however annotations are seen
  abbrev Each : ((H → Mark → A) → Type 0) → Type 0
  Each P = (tag : _) → IsTagging seen view tag → P tag

  pub lines_read : (all : Option (List ℕ)) (values : Values) (s : Setting H) (shown : List (List (Item (List A))))
      → IfSome all (λ bytes. ArePageValues c bytes values) → s ≡ c.rendering → values ≢ none → 0 < width
      → Each (λ tag. page_lines (marking view tag) seen view.closes s width values ≡ Some shown)
      → IfSome all (λ bytes. Answers seen view c width bytes (lines shown))
  lines_read None values s shown page same some wide rendered = tt
  lines_read (Some bytes) values s shown page same some wide rendered = λ tag p. record {
    values = values;
    page = page;
    answered = (
      some,
      (
        wide,
        subst (λ s. page_lines (marking view tag) seen view.closes s width values ≡ Some shown) same
            (rendered tag p),
      ),
    );
  }

  pub narrow_read : (all : Option (List ℕ)) (values : Values) (s : Setting H)
      → IfSome all (λ bytes. ArePageValues c bytes values) → s ≡ c.rendering → values ≢ none
      → (width ≡ 0) ⊎ Each (λ tag. page_lines (marking view tag) seen view.closes s width values ≡ None)
      → IfSome all (λ bytes. Answers seen view c width bytes too_narrow)
  narrow_read None values s page same some narrow = tt
  narrow_read (Some bytes) values s page same some (inl zero_width) = λ tag p. record {
    values = values;
    page = page;
    answered = (some, inl zero_width);
  }
  narrow_read (Some bytes) values s page same some (inr narrow) = λ tag p. record {
    values = values;
    page = page;
    answered = (
      some,
      inr (
          subst (λ s. page_lines (marking view tag) seen view.closes s width values ≡ None) same
          (narrow tag p)
          ),
    );
  }

  pub nothing_read : (all : Option (List ℕ)) → IfSome all (λ bytes. ArePageValues c bytes none)
      → IfSome all (λ bytes. Answers seen view c width bytes fail)
  nothing_read None page = tt
  nothing_read (Some bytes) page = λ tag p. record { values = none; page = page; answered = refl }

  pub text_read : (all : Option (List ℕ)) (values : Values) (s : Setting H) (emitted : List ℕ)
      → IfSome all (λ bytes. ArePageValues c bytes values) → s ≡ c.rendering → values ≢ none → 0 < width
      → Each (λ tag. page_text (marking view tag) seen view.closes s width values ≡ Some emitted)
      → IfSome all (λ bytes. IsEmitted seen view c width bytes emitted)
  text_read None values s emitted page same some wide printed = tt
  text_read (Some bytes) values s emitted page same some wide printed = λ tag p. printed_lines
      (marking view tag) seen view.closes c width bytes values emitted page some wide
      (subst (λ s. page_text (marking view tag) seen view.closes s width values ≡ Some emitted) same
      (printed tag p))
