-- What is still to be done of a page that is laid out.
use Rattle.std.specs.Prelude.{ℕ, Bool, List, [], ◌∷◌, Option, None, Some}
use Rattle.std.specs.List.{slice_get}
use Rattle.std.specs.Option.{option_and_then}
use Rattle.block_trait.specs.Renderers.{Marking, Sub}
use Rattle.layout_values.specs.Sizing.{Sizing, in_mode}
use Rattle.render_values.specs.Values.{Values}
use Rattle.render_values.specs.declared.info.RenderInfo.{RenderInfo}
use Rattle.render_values.specs.declared.info.RenderInfo.TheVariants.{Nothing}
use Rattle.render_values.specs.declared.node.RenderNode.{RenderNode}
use Rattle.render_values.specs.declared.style.RenderStyle.{RenderStyle}
use Rattle.layout_state.specs.Begins.{ends, style_ends}
use Rattle.layout_values.specs.Lay.{lay}
use Rattle.layout_state.specs.LayoutState.{Step, TablePlace, goes_on, in_turn, part_ended}
use Rattle.layout_tables.specs.Tables.{cell_ended, row_ended, table_ended}
use Rattle.table_widths.specs.declared.slot.Slot.{Slot}
use Rattle.layout_state.specs.declared.around.Around.{Around}
use Rattle.text_pieces.specs.declared.white_space.WhiteSpace.{WhiteSpace}
use Rattle.layout_state.specs.declared.around.Around.TheVariants.{Flow}

pub data Continuation (H A : Type 0) : Type 0 where
  -- values are to be laid out, where that mode of white space is in force around them
  rest : WhiteSpace → Values → Continuation H A
  -- a value ends
  value_ends : RenderInfo → Continuation H A
  look_ends : RenderStyle → Continuation H A
  -- a part ends: the renderer outside, and the prefixes
  part_ends : Sub H A → List ℕ → List ℕ → Continuation H A
  -- an item's part ends, and then the list says this
  item_ends : Sub H A → List ℕ → List ℕ → Around → Continuation H A
  list_ends : Continuation H A
  -- A table ends, which stands there.
  table_ends : (fenced : Bool) → TablePlace H A → Continuation H A
  row_ends : Continuation H A
  -- A cell ends: the renderer outside, and what its row said, and the rows that it takes.
  cell_ends : Sub H A → (widths : Option (List ℕ)) → List (List Slot) → List Slot → List (Sub H A × ℕ) → ℕ
      → Continuation H A

abbrev pub undone : {H A : Type 0} → Marking H A → Sizing → Continuation H A → Step H A
undone m w (rest mode vs) = lay m (in_mode w mode) vs
undone m w (value_ends info) = ends m info
undone m w (look_ends style) = style_ends m style
undone m w (part_ends outer first following) = part_ended m outer first following
undone m w (item_ends outer first following around) =
    in_turn (part_ended m outer first following) (goes_on around)
undone m w list_ends = goes_on Flow
undone m w (table_ends fenced place) = table_ended m fenced place
undone m w row_ends = row_ended m
undone m w (cell_ends outer widths more slots made taken) = cell_ended outer widths more slots made taken

-- all that waits, the last first
unfoldable pub unwound : {H A : Type 0} → Marking H A → Sizing → List (Continuation H A) → Step H A
unwound m w [] l = Some l
unwound m w (x ∷ xs) l = option_and_then (undone m w x) (unwound m w xs l)

abbrev pub info_or_nothing : Option RenderNode → RenderInfo
info_or_nothing None = Nothing
info_or_nothing (Some x) = x.head.info

abbrev pub info_at : List RenderNode → ℕ → RenderInfo
info_at nodes at = info_or_nothing (slice_get nodes at)
