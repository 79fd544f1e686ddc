-- A page that is laid out, and what is done to it step by step.
use Rattle.std.specs.Prelude.{ℕ, ◌-◌, Bool, List, Option, None, Some}
use Rattle.std.specs.Option.{option_map, option_and_then}
use Rattle.block_renderer.specs.NewParts.{part_of}
use Rattle.block_trait.specs.Calls.{Call, adds_block, step}
use Rattle.block_trait.specs.Renderers.{Marking, Sub, room_after}
use Rattle.text_block_renderer.specs.Parts.{Parts, begin_part_link, finish_part_link, with_current}
use Rattle.text_decorators.specs.Marks.{Mark}
use Rattle.layout_state.specs.declared.around.Around.{Around}
use Rattle.layout_state.specs.declared.around.Around.TheVariants.{Flow}
use Rattle.table_widths.specs.declared.slot.Slot.{Slot}

-- Where in a table the next value stands.
pub data TablePlace (H A : Type 0) : Type 0 where
  -- in none of its own, though it may stand in a cell of one
  outside : (in_cell : Bool) → TablePlace H A
  -- Among rows: the widths of columns where rows lie across, the rows that are to come, and the fragments that start in
  -- the next row.
  rows : (widths : Option (List ℕ)) → List (List Slot) → (fragments : List (List ℕ)) → TablePlace H A
  -- Among cells: the same, the slots of this row that are to come, and the renderers that stand in it, each with the
  -- rows that it takes.
  cells : (widths : Option (List ℕ)) → List (List Slot) → (fragments : List (List ℕ)) → List Slot
      → List (Sub H A × ℕ) → TablePlace H A

-- the renderers of the page, what a list around says of the next value, and where in a table it stands
pub record LayoutState (H A : Type 0) : Type 0 where
  pub parts : Parts H A
  pub around : Around
  pub table : TablePlace H A

abbrev pub in_parts : {H A : Type 0} → LayoutState H A → Parts H A → LayoutState H A
in_parts l p = record l { parts = p }

abbrev pub in_current : {H A : Type 0} → LayoutState H A → Sub H A → LayoutState H A
in_current l s = in_parts l (with_current l.parts s)

abbrev pub in_around : {H A : Type 0} → Around → LayoutState H A → LayoutState H A
in_around around l = record l { around = around }

abbrev pub in_table : {H A : Type 0} → TablePlace H A → LayoutState H A → LayoutState H A
in_table place l = record l { table = place }

-- What is done: it has no result where columns are wanting.
abbrev pub Step : Type 0 → Type 0 → Type 0
Step H A = LayoutState H A → Option (LayoutState H A)

abbrev pub in_turn : {H A : Type 0} → Step H A → Step H A → Step H A
in_turn first next l = option_and_then next (first l)

-- for what is there, if it is
abbrev pub for_some : {X H A : Type 0} → Option X → (X → Step H A) → Step H A
for_some None does l = Some l
for_some (Some x) does l = does x l

-- ---- calls

-- a call of the renderer to which text goes
unfoldable pub says : {H A : Type 0} → Marking H A → Call (Sub H A) → Step H A
says m c l = option_map (in_current l) (step m c l.parts.current)

unfoldable pub begins_link : {H A : Type 0} → Marking H A → (target : List ℕ) → Step H A
begins_link m target l = option_map (in_parts l) (begin_part_link m target l.parts)

-- its number stands after it, where the targets of links stand after the page
unfoldable pub ends_link : {H A : Type 0} → Marking H A → Step H A
ends_link m l = option_map (in_parts l) (finish_part_link m l.parts)

-- the text of a mark, as the decorator gives it here
unfoldable pub mark_of : {H A : Type 0} → Marking H A → Mark → LayoutState H A → List ℕ
mark_of m kind l = m.mark_text l.parts.current.held kind

-- what a list says is said from here on
abbrev pub goes_on : {H A : Type 0} → Around → Step H A
goes_on around l = Some (in_around around l)

-- from here on values stand there
abbrev pub goes_to : {H A : Type 0} → TablePlace H A → Step H A
goes_to place l = Some (in_table place l)

-- ---- parts

-- text goes to a renderer of so many columns
unfoldable pub in_part : {H A : Type 0} → Marking H A → ℕ → LayoutState H A → LayoutState H A
in_part m width l = in_around Flow (in_current l (part_of m.sub width l.parts.current))

-- one of the columns that are left after a prefix: at least one, and, with those of the prefix, as many as are asked
-- for
unfoldable pub part_begun : {H A : Type 0} → Marking H A → (columns least : ℕ) → Step H A
part_begun m columns least l =
    option_map (λ width. in_part m width l) (room_after columns (least - columns) l.parts.current)

-- The lines of the part stand after prefixes in the renderer outside.
unfoldable pub part_ended : {H A : Type 0} → Marking H A → Sub H A → (first following : List ℕ) → Step H A
part_ended m outer first following l = says m (adds_block l.parts.current first following) (in_current l outer)

abbrev pub after_prefix : {H A : Type 0} → Marking H A → (columns : ℕ) → (first following : List ℕ) → (least : ℕ)
    → Step H A → Step H A
after_prefix m columns first following least inside l =
    in_turn (part_begun m columns least) (in_turn inside (part_ended m l.parts.current first following)) l
