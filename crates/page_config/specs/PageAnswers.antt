-- What is answered of a page: a function of its bytes, a width, and what a configuration says.
use Rattle.std.specs.Prelude.{◌≡◌, ◌≢◌, ◌⊎◌, ℕ, ◌<◌, List, None, Some}
use Rattle.block_renderer.specs.Seen.{IsTagging, marking}
use Rattle.tree_forest.specs.Forest.{Forest}
use Rattle.tree_forest.specs.declared.sink.QuirksMode.{QuirksMode}
pub use Rattle.html_render_tree.specs.PageLines.{lines_text}
use Rattle.html_render_tree.specs.PageLines.{Setting, page_lines}
use Rattle.page_reading.specs.PageTrees.{IsTreeOfBytes}
use Rattle.render_conversion.specs.Conversion.{document_values}
use Rattle.render_values.specs.Values.{Values, none}
use Rattle.block_trait.specs.Renderers.{Marking}
use Rattle.text_lines.specs.Tagged.{Item}
use Rattle.text_decorators.specs.Marks.{DecoratorView}
use Rattle.page_config.specs.Settings.{PageSetting}

-- The values of a page: what the tree of its bytes converts to.
pub record ArePageValues {H : Type 0} (c : PageSetting H) (bytes : List ℕ) (values : Values) : Type 0 where
  pub forest : Forest
  pub quirks : QuirksMode
  pub tree : IsTreeOfBytes c.table c.parsing bytes forest quirks
  pub same : document_values c.conversion c.rules forest ≡ values

-- Lines, each its characters with their annotations and its markers; that the width is too narrow; or that there is
-- nothing to render.
pub data PageAnswer (A : Type 0) : Type 0 where
  lines : List (List (Item (List A))) → PageAnswer A
  too_narrow : PageAnswer A
  fail : PageAnswer A

-- What values come to at a width: lines, or that it is 0 or too narrow for them.
abbrev pub IsAnswerOf : {T H A : Type 0} → Marking H A → (T → A)
    → (H → List (List ℕ) → List (List (Item T))) → Setting H → ℕ → Values → PageAnswer A → Type 0
IsAnswerOf m seen closes c width values (lines shown) =
    (values ≢ none) × ((0 < width) × (page_lines m seen closes c width values ≡ Some shown))
IsAnswerOf m seen closes c width values too_narrow =
    (values ≢ none) × ((width ≡ 0) ⊎ (page_lines m seen closes c width values ≡ None))
IsAnswerOf m seen closes c width values fail = values ≡ none

-- The answer to a page of these bytes.
pub record HasAnswer {T H A : Type 0} (m : Marking H A) (seen : T → A)
    (closes : H → List (List ℕ) → List (List (Item T))) (c : PageSetting H) (width : ℕ) (bytes : List ℕ)
    (answer : PageAnswer A) : Type 0 where
  pub values : Values
  pub page : ArePageValues c bytes values
  pub answered : IsAnswerOf m seen closes c.rendering width values answer

-- The text of a page of these bytes: that of its lines.
pub record HasText {T H A : Type 0} (m : Marking H A) (seen : T → A)
    (closes : H → List (List ℕ) → List (List (Item T))) (c : PageSetting H) (width : ℕ) (bytes text : List ℕ)
    : Type 0 where
  pub shown : List (List (Item (List A)))
  pub answer : HasAnswer m seen closes c width bytes (lines shown)
  pub emitted : text ≡ lines_text shown

-- However a decorator's annotations are seen, this is the answer.
abbrev pub Answers : {D T H A : Type 0} → (T → A) → DecoratorView D H T
    → PageSetting H → ℕ → (bytes : List ℕ) → PageAnswer A → Type 0
Answers seen view c width bytes answer = (tag : _) → IsTagging seen view tag
    → HasAnswer (marking view tag) seen view.closes c width bytes answer

-- However they are seen, this is the text.
abbrev pub IsEmitted : {D T H A : Type 0} → (T → A) → DecoratorView D H T
    → PageSetting H → ℕ → (bytes emitted : List ℕ) → Type 0
IsEmitted seen view c width bytes emitted = (tag : _) → IsTagging seen view tag
    → HasText (marking view tag) seen view.closes c width bytes emitted
