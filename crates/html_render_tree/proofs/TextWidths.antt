-- The width of the text of a page.
use Rattle.std.proofs.Common.{◌≡◌, ℕ, ◌≤◌, ◌++◌, ◌∙◌, List, [], ◌∷◌, ap, map, refl, sym}
use Rattle.std.specs.Prelude.{flat_map}
use Rattle.std.proofs.lemmas.List.Elements.{All-map}
use Rattle.block_trait.specs.Renderers.{Marking}
use Rattle.text_lines.specs.Columns.{text_columns}
use Rattle.text_lines.specs.Tagged.{Item, characters}
use Rattle.html_render_tree.specs.PageLaws.{PagesKeepWidth, TextsKeepWidth}
use Rattle.html_render_tree.specs.PageLines.{lines_text, page_lines}
use Rattle.html_render_tree.proofs.OptionLemmas.{some_mapped}

pub as_lines : {S : Type 0} (shown : List (List (Item S)))
    → lines_text shown ≡ flat_map (λ line. line ++ 0xA ∷ []) (map characters shown)
as_lines [] = refl
as_lines (line ∷ rest) = ap (λ l. (characters line ++ 0xA ∷ []) ++ l) (as_lines rest)

pub printed_within : {T H A : Type 0} (m : Marking H A) (seen : T → A)
    (closes : H → List (List ℕ) → List (List (Item T))) → PagesKeepWidth m seen closes → TextsKeepWidth m seen closes
printed_within m seen closes keeps = λ c width values text steady numbered off wraps wide is.
    let found = some_mapped lines_text (page_lines m seen closes c width values) text is in
    record {
      lines = map characters found.0;
      given = sym found.1.1 ∙ as_lines found.0;
      within = All-map (λ line. text_columns line ≤ width) characters found.0
          (keeps c width values found.0 steady numbered off wraps wide found.1.0);
    }
