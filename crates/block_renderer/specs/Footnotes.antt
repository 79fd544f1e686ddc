-- Lines after a page.
use Rattle.std.specs.Prelude.{ℕ, List, Option, None, Some, fold, if◌then◌else◌}
use Rattle.std.specs.Option.{option_map}
use Rattle.text_lines.specs.Tagged.{Item}
use Rattle.text_footnotes.specs.Footnotes.{footnote_lines}
use Rattle.block_layout.specs.Laid.{Laid, add_text_lines, flush}
use Rattle.block_trait.specs.Renderers.{Sub, measure_of, with_laid, on_laid}

abbrev pub add_footnote : {H A : Type 0} → Sub H A → Laid (List A) → List (Item A) → Laid (List A)
add_footnote s b items = add_text_lines (measure_of s) s.annotations s.annotations
    (footnote_lines s.options.wrap_links s.width items) b

abbrev pub add_footnotes : {H A : Type 0} → List (List (Item A)) → Sub H A → Option (Sub H A)
add_footnotes lines s = on_laid s (option_map (λ b. fold (add_footnote s) b lines)
    (flush (measure_of s) s.annotations s.laid))

-- where lines after the page are cut
abbrev pub footnote_width : {H A : Type 0} → Sub H A → Option ℕ
footnote_width s = if s.options.wrap_links then Some s.width else None

abbrev pub with_footnote : {H A : Type 0} → Sub H A → List (Item A) → Sub H A
with_footnote s items = with_laid s (add_footnote s s.laid items)
