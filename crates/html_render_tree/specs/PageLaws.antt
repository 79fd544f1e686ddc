-- Words of the laws on the lines of a page.
use Rattle.std.specs.Prelude.{◌≡◌, ℕ, ◌≤◌, ◌++◌, All, List, [], ◌∷◌, None, Some, false, flat_map, true}
use Rattle.block_trait.specs.Renderers.{Marking}
use Rattle.text_lines.specs.Columns.{text_columns}
use Rattle.text_lines.specs.Tagged.{Item, line_columns}
use Rattle.text_decorators.specs.Marks.{IsSteady}
use Rattle.render_values.specs.Values.{Values}
use Rattle.layout_laws.specs.WalkLaws.{AreNumbered}
use Rattle.html_render_tree.specs.PageLines.{Setting, page_lines, page_text}

-- no line passes so many columns
abbrev pub AreWithin : {A : Type 0} → ℕ → List (List (Item A)) → Type 0
AreWithin {A} width lines = All (λ (line : List (Item A)). line_columns line ≤ width) lines

-- Where no part may pass the width and links are wrapped, no line of a page does, where it has two columns or more.
abbrev pub PagesKeepWidth : {T H A : Type 0} → Marking H A → (T → A)
    → (H → List (List ℕ) → List (List (Item T))) → Type 0
PagesKeepWidth {T} {H} {A} m seen closes = (c : Setting H) (width : ℕ) (values : Values)
    (lines : List (List (Item (List A)))) → IsSteady m.mark_text → AreNumbered values
    → c.options.allow_width_overflow ≡ false → c.options.wrap_links ≡ true → 2 ≤ width
    → page_lines m seen closes c width values ≡ Some lines → AreWithin width lines

-- A text is one of lines, a line end after each, of which none passes so many columns.
pub record IsTextWithin (width : ℕ) (text : List ℕ) : Type 0 where
  pub lines : List (List ℕ)
  pub given : text ≡ flat_map (λ line. line ++ 0xA ∷ []) lines
  pub within : All (λ line. text_columns line ≤ width) lines

-- the same of the text of a page
abbrev pub TextsKeepWidth : {T H A : Type 0} → Marking H A → (T → A)
    → (H → List (List ℕ) → List (List (Item T))) → Type 0
TextsKeepWidth {T} {H} {A} m seen closes = (c : Setting H) (width : ℕ) (values : Values) (text : List ℕ)
    → IsSteady m.mark_text → AreNumbered values → c.options.allow_width_overflow ≡ false
    → c.options.wrap_links ≡ true → 2 ≤ width → page_text m seen closes c width values ≡ Some text
    → IsTextWithin width text

-- Where parts may pass the width, no width is too narrow for a page.
abbrev pub PagesHaveRoom : {T H A : Type 0} → Marking H A → (T → A)
    → (H → List (List ℕ) → List (List (Item T))) → Type 0
PagesHaveRoom {T} {H} {A} m seen closes = (c : Setting H) (width : ℕ) (values : Values)
    → c.options.allow_width_overflow ≡ true → page_lines m seen closes c width values ≡ None → ⊥
