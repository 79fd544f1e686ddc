-- The lines of a page.
use Rattle.std.specs.Prelude.{ℕ, Bool, List, [], ◌∷◌, ◌++◌, None, Option, Some, if◌then◌else◌, flat_map, map}
use Rattle.std.specs.Option.{option_and_then, option_map}
use Rattle.block_renderer.specs.Footnotes.{add_footnotes}
use Rattle.text_footnotes.specs.Printable.{shown_targets}
use Rattle.text_footnotes.specs.Targets.{noted_targets}
use Rattle.block_trait.specs.Bare.{bare_of}
use Rattle.block_trait.specs.Renderers.{Marking, Sub, lines_of_sub, new_sub, with_block_started, with_held}
use Rattle.block_trait.specs.declared.options.RenderOptions.{RenderOptions}
use Rattle.text_lines.specs.Tagged.{Item, characters}
use Rattle.text_block_renderer.specs.Parts.{Parts, whole_page}
use Rattle.text_borders.specs.Lines.{line_shown}
use Rattle.text_decorators.specs.Marks.{page_end, seen_lines}
use Rattle.render_sizes.specs.Extents.{Measure, measure_of}
use Rattle.render_values.specs.Values.{Values}
use Rattle.layout_values.specs.Lay.{laid_parts}
use Rattle.layout_values.specs.Sizing.{Sizing}
use Rattle.text_pieces.specs.declared.white_space.WhiteSpace.TheVariants.{Normal}
pub use Rattle.layout_state.specs.Items.{prefix_columns}

-- what a page is rendered by: the options, how narrow text may be wrapped, and what a decorator of the page holds
pub record Setting (H : Type 0) : Type 0 where
  pub options : RenderOptions
  pub min_wrap : ℕ
  pub held : H

-- a renderer that keeps its annotations or doesn't
abbrev pub begun_as : {H A : Type 0} → (keeps : Bool) → Sub H A → Sub H A
begun_as keeps s = if keeps then s else bare_of s

-- columns of tables are fitted where that is asked for
abbrev pub sizing_by : RenderOptions → Measure → Sizing
sizing_by o w = record { measure = w; fitted = if o.fit_columns then Some o else None; mode = Normal }

-- how many columns values of a page ask for
abbrev pub sizing_of : {H A : Type 0} → Marking H A → Setting H → Sizing
sizing_of m c = sizing_by c.options (measure_of c.min_wrap (prefix_columns (m.mark_text c.held)))

-- the renderers of a page of so many columns after its last value
abbrev pub laid_page : {H A : Type 0} → Marking H A → Setting H → ℕ → Values → Option (Parts H A)
laid_page m c width values =
    laid_parts m (sizing_of m c) values (whole_page (new_sub width c.options c.held []))

-- the same in renderers that keep annotations or don't
abbrev pub laid_as : {H A : Type 0} → (keeps : Bool) → Marking H A → Setting H → ℕ → Values → Option (Parts H A)
laid_as keeps m c width values =
    laid_parts m (sizing_of m c) values (whole_page (begun_as keeps (new_sub width c.options c.held [])))

-- the targets that stand after a page with such options: each once, where links to equal targets share a footnote, and
-- printable, where that is asked for
abbrev pub targets_after : RenderOptions → List (List ℕ) → List (List ℕ)
targets_after o targets = if o.include_link_footnotes
    then shown_targets o.printable_targets (noted_targets o.shared_footnotes targets) else []

-- those that stand after the page
abbrev pub noted : {H A : Type 0} → Parts H A → List (List ℕ)
noted p = targets_after p.current.options p.targets

-- Lines after a page are a block of their own.
abbrev pub with_notes : {H A : Type 0} → List (List (Item A)) → Sub H A → Option (Sub H A)
with_notes [] s = Some s
with_notes (note ∷ notes) s = option_and_then (add_footnotes (note ∷ notes)) (with_block_started s)

-- what a decorator makes of the targets, after the last value
abbrev pub with_targets : {T H A : Type 0} → Marking H A → (T → A) → (H → List (List ℕ) → List (List (Item T)))
    → List (List ℕ) → Sub H A → Option (Sub H A)
with_targets m seen closes targets s =
    with_notes (seen_lines seen (closes s.held targets)) (with_held (m.after s.held (page_end targets)) s)

-- the renderer of a whole page: its values laid out, and what its decorator makes of the targets
abbrev pub closed_page : {T H A : Type 0} → Marking H A → (T → A) → (H → List (List ℕ) → List (List (Item T)))
    → Setting H → ℕ → Values → Option (Sub H A)
closed_page m seen closes c width values =
    option_and_then (λ p. with_targets m seen closes (noted p) p.current) (laid_page m c width values)

-- the lines of a renderer: characters with their annotations, and markers
abbrev pub renderer_lines : {H A : Type 0} → Sub H A → Option (List (List (Item (List A))))
renderer_lines s = option_map (map line_shown) (lines_of_sub s)

-- the lines of a page, or none where it is too narrow for a part of it
abbrev pub page_lines : {T H A : Type 0} → Marking H A → (T → A) → (H → List (List ℕ) → List (List (Item T)))
    → Setting H → ℕ → Values → Option (List (List (Item (List A))))
page_lines m seen closes c width values = option_and_then renderer_lines (closed_page m seen closes c width values)

-- the text of lines: the characters of each, and a line end
abbrev pub lines_text : {S : Type 0} → List (List (Item S)) → List ℕ
lines_text shown = flat_map (λ line. characters line ++ 0xA ∷ []) shown

-- the text of a page: that of its lines
abbrev pub page_text : {T H A : Type 0} → Marking H A → (T → A) → (H → List (List ℕ) → List (List (Item T)))
    → Setting H → ℕ → Values → Option (List ℕ)
page_text m seen closes c width values = option_map lines_text (page_lines m seen closes c width values)
