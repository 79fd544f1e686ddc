-- No line passes the width of its renderer, whatever values are laid out.
use Rattle.std.proofs.Common.{◌≡◌, [], ◌∷◌, ◌++◌, Bool, IfSome, List, Option, Some, false, refl, subst, suc, sym, true}
use Rattle.std.proofs.Common.{ℕ}
use Rattle.std.specs.Prelude.{if◌then◌else◌}
use Rattle.std.specs.Option.{option_map, option_to_list}
use Rattle.block_layout_laws.proofs.OptionLemmas.{mapped}
use Rattle.block_trait.specs.Calls as calls
use Rattle.block_trait.specs.Renderers.{Marking}
use Rattle.text_block_renderer.specs.PartLaws.{AreKeptWithin, PartsStayWithin}
use Rattle.text_block_renderer.specs.Parts.{Parts}
use Rattle.text_decorators.specs.Marks.{header, quote}
use Rattle.table_widths.specs.Slots.{is_shown}
use Rattle.table_widths.specs.declared.slot.Slot.{Slot}
use Rattle.render_sizes.specs.Extents.{number}
use Rattle.column_fits.specs.Across.{AreFits}
use Rattle.layout_values.proofs.FitLemmas.{content_fits}
use Rattle.layout_values.specs.Sizing.{Sizing, within}
use Rattle.render_values.specs.Values.{Values, none, value}
use Rattle.render_values.specs.declared.info.Head.{Head}
use Rattle.render_values.specs.declared.info.RenderInfo.{RenderInfo}
use Rattle.render_values.specs.declared.info.RenderInfo.TheVariants as infos
use Rattle.layout_state.specs.Begins.{following, fragment_leads, named}
use Rattle.layout_state.specs.Items.{spaces}
use Rattle.layout_state.specs.LayoutState.{LayoutState, Step, cells, goes_to, in_table, in_turn, rows, says}
use Rattle.layout_state.specs.declared.around.Around.{Around}
use Rattle.layout_state.specs.declared.around.Around.TheVariants.{Flow}
use Rattle.layout_state.specs.declared.around.ItemMark.TheVariants.{Bullet, Number}
use Rattle.layout_values.specs.Lay.{Content, among_cells, among_rows, content_of, holds, in_its_group, in_its_row, laid}
use Rattle.layout_values.specs.Lay.{laid_at, lay, on_page, placed, shown, styled}
use Rattle.layout_tables.specs.Tables.{row_begun, row_ended}
use Rattle.layout_laws.specs.WalkLaws.{AreNumbered, IsNumbered}
use Rattle.layout_laws.proofs.CellWidthLemmas.{cell_keeps}
use Rattle.layout_laws.proofs.NumberLemmas.{spaces_fit}
use Rattle.layout_laws.proofs.RowEndLemmas.{row_ends}
use Rattle.layout_laws.proofs.RowFitLemmas.{seats_of}
use Rattle.layout_laws.proofs.TableLemmas.{table_sound}
use Rattle.layout_laws.proofs.TableStates.{FitsRows, IsSoundTable, hidden_fits, row_begins}
use Rattle.layout_laws.proofs.TableWidthLemmas.{InCells, InRows, cells_calm, rows_calm, rows_named, table_keeps}
use Rattle.layout_laws.proofs.WidthLemmas.{AreSound, At, Keeps, KeepsAll, Kept, MarkFits, Steps, WidthLaws}
use Rattle.layout_laws.proofs.WidthLemmas.{around_after, begins_keeps, ends_keeps, flow_fits, following_keeps}
use Rattle.layout_laws.proofs.WidthLemmas.{for_steps, keeps_flow, keeps_through, leading_keeps, list_keeps, mark_keeps}
use Rattle.layout_laws.proofs.WidthLemmas.{named_keeps, next_around, placed_keeps, prefix_keeps, stays, steps_by}
use Rattle.layout_laws.proofs.WidthLemmas.{steps_through, styled_keeps, styled_steps}

-- What stands in a value, of so many values, wherever that may be: outside of tables, among rows and in a row.
pub record KeepsInside {H A : Type 0} (m : Marking H A) (items : ℕ) (f : Step H A) : Type 0 where
  pub flow : KeepsAll m items f
  pub among : (widths : Option (List ℕ)) → Steps (InRows widths) (InRows widths) f
  pub in_row : (widths : Option (List ℕ)) → Steps (InCells widths) (InCells widths) f

-- ---- outside of tables

-- what stands in a value that is a table
record IsSoundContent (c : Content) : Type 0 where
  table : IsSoundTable c.table
  fits : IfSome c.fits (AreFits c.table.columns)

holds_keeps : {H A : Type 0} {m : Marking H A} (laws : WidthLaws m) (info : RenderInfo) (c : Content)
    (inside : Step H A) → IsNumbered info → IsSoundContent c → KeepsAll m c.items inside
    → ((widths : Option (List ℕ)) → Steps (InRows widths) (InRows widths) inside)
    → Keeps Flow Flow (holds m info c inside)
unfolding holds
holds_keeps {m = m} laws (infos.Heading level) c inside fits table keeps among =
    mark_keeps laws (header level) c.least inside (keeps_flow m c.items inside keeps)
holds_keeps {m = m} laws infos.Quote c inside fits table keeps among =
    mark_keeps laws quote c.least inside (keeps_flow m c.items inside keeps)
holds_keeps {m = m} laws infos.Details c inside fits table keeps among = λ in_cell x sound at.
    prefix_keeps laws 2 (spaces 2) (spaces 2) c.least inside in_cell x (spaces_fit 2) (spaces_fit 2)
    (keeps_flow m c.items inside keeps) sound at.1
holds_keeps laws infos.Bullets c inside fits table keeps among = list_keeps laws Bullet c.items c.least inside tt keeps
holds_keeps laws (infos.Numbers first) c inside fits table keeps among =
    list_keeps laws (Number first) c.items c.least inside fits keeps
holds_keeps {m = m} laws infos.Nothing c inside fits table keeps among = keeps_flow m c.items inside keeps
holds_keeps {m = m} laws (infos.Text cs) c inside fits table keeps among = keeps_flow m c.items inside keeps
holds_keeps {m = m} laws (infos.Image source title) c inside fits table keeps among = keeps_flow m c.items inside keeps
holds_keeps {m = m} laws infos.Break c inside fits table keeps among = keeps_flow m c.items inside keeps
holds_keeps {m = m} laws infos.Rule c inside fits table keeps among = keeps_flow m c.items inside keeps
holds_keeps {m = m} laws infos.Container c inside fits table keeps among = keeps_flow m c.items inside keeps
holds_keeps {m = m} laws (infos.Link target) c inside fits table keeps among = keeps_flow m c.items inside keeps
holds_keeps {m = m} laws infos.Emphasis c inside fits table keeps among = keeps_flow m c.items inside keeps
holds_keeps {m = m} laws infos.Strong c inside fits table keeps among = keeps_flow m c.items inside keeps
holds_keeps {m = m} laws infos.Strikeout c inside fits table keeps among = keeps_flow m c.items inside keeps
holds_keeps {m = m} laws infos.Code c inside fits table keeps among = keeps_flow m c.items inside keeps
holds_keeps {m = m} laws infos.Superscript c inside fits table keeps among = keeps_flow m c.items inside keeps
holds_keeps {m = m} laws infos.Block c inside fits table keeps among = keeps_flow m c.items inside keeps
holds_keeps {m = m} laws infos.Division c inside fits table keeps among = keeps_flow m c.items inside keeps
holds_keeps {m = m} laws infos.Preformatted c inside fits table keeps among = keeps_flow m c.items inside keeps
holds_keeps {m = m} laws infos.Descriptions c inside fits table keeps among = keeps_flow m c.items inside keeps
holds_keeps {m = m} laws infos.Term c inside fits table keeps among = keeps_flow m c.items inside keeps
holds_keeps laws infos.Table c inside fits table keeps among = table_keeps laws c.table c.fits inside table.table
    table.fits among
holds_keeps {m = m} laws infos.TableGroup c inside fits table keeps among = keeps_flow m c.items inside keeps
holds_keeps {m = m} laws infos.TableRow c inside fits table keeps among = keeps_flow m c.items inside keeps
holds_keeps {m = m} laws (infos.TableCell columns taken) c inside fits table keeps among =
    keeps_flow m c.items inside keeps

following_among : {H A : Type 0} {m : Marking H A} (laws : WidthLaws m) (head : Head) (widths : Option (List ℕ))
    → Steps (InRows widths) (InRows widths) (following m head)
unfolding following
following_among {H} {A} {m} laws head widths = by (fragment_leads head.info)
  where
    by : (b : Bool) → Steps {H = H} {A = A} (InRows widths) (InRows widths)
        (if b then Some else named m head.fragment)
    by true = steps_by (InRows widths)
    by false = for_steps (InRows widths) head.fragment (λ name. says m (calls.starts_fragment name))
        (λ name. rows_named laws widths name)

shown_keeps : {H A : Type 0} {m : Marking H A} (laws : WidthLaws m) (head : Head) (c : Content) (inside : Step H A)
    → IsNumbered head.info → IsSoundContent c → KeepsInside m c.items inside
    → Keeps Flow Flow (shown m head c inside)
shown_keeps {m = m} laws head c inside fits table keeps =
    keeps_through Flow Flow Flow _ _ (leading_keeps laws head)
    (keeps_through Flow Flow Flow _ _ (begins_keeps laws head.info)
    (keeps_through Flow Flow Flow _ _
    (holds_keeps laws head.info c (in_turn (following m head) inside) fits table
    (λ a marked. keeps_through a a (around_after c.items a) (following m head) inside (following_keeps laws a head)
    (keeps.flow a marked))
    (λ widths. steps_through (InRows widths) (InRows widths) (InRows widths) (following m head) inside
    (following_among laws head widths) (keeps.among widths)))
    (ends_keeps laws head.info)))

-- ---- among rows

row_keeps : {H A : Type 0} {m : Marking H A} (laws : WidthLaws m) (head : Head) (widths : Option (List ℕ))
    (slots : List (List Slot)) (fragments : List (List ℕ)) (inside : Step H A) (x : LayoutState H A)
    → Steps (InCells widths) (InCells widths) inside → AreSound x.parts → x.around ≡ Flow
    → x.table ≡ rows widths slots fragments
    → FitsRows widths slots x.parts.current.width (seats_of x.parts.current)
    → IfSome (in_its_row m head widths slots fragments inside x) (Kept (InRows widths) x)
row_keeps laws head widths [] fragments inside x does sound flows is fits = (
  stays x.parts sound.kept,
  record { slots = []; fragments = fragments; flows = flows; is = is; fits = fits },
)
row_keeps {H} {A} {m} laws head widths (row ∷ more) fragments inside x does sound flows is fits =
    by (is_shown row) refl
  where
    begun : LayoutState H A
    begun = in_table (cells widths more (fragments ++ option_to_list head.fragment) row []) x

    by : (b : Bool) → is_shown row ≡ b → IfSome ((if b then in_turn (row_begun widths more fragments row head.fragment)
        (styled m head.style (in_turn inside (row_ended m)))
        else goes_to (rows widths more (fragments ++ option_to_list head.fragment))) x) (Kept (InRows widths) x)
    by true e = styled_steps (InCells widths) (InRows widths) (cells_calm laws widths) (rows_calm laws widths)
        head.style (in_turn inside (row_ended m))
        (steps_through (InCells widths) (InCells widths) (InRows widths) inside (row_ended m) does
        (row_ends laws widths)) begun sound
        (record {
          more = more;
          fragments = fragments ++ option_to_list head.fragment;
          slots = row;
          made = [];
          flows = flows;
          is = refl;
          fits = row_begins H A widths row more x.parts.current.width (seats_of x.parts.current) fits e;
        })
    by false e = (
      stays x.parts sound.kept,
      record {
        slots = more;
        fragments = fragments ++ option_to_list head.fragment;
        flows = flows;
        is = refl;
        fits = hidden_fits widths row more x.parts.current.width (seats_of x.parts.current) fits e;
      },
    )

group_keeps : {H A : Type 0} {m : Marking H A} (laws : WidthLaws m) (head : Head) (widths : Option (List ℕ))
    (slots : List (List Slot)) (fragments : List (List ℕ)) (inside : Step H A) (x : LayoutState H A)
    → Steps (InRows widths) (InRows widths) inside → AreSound x.parts → x.around ≡ Flow
    → FitsRows widths slots x.parts.current.width (seats_of x.parts.current)
    → IfSome (in_its_group m head widths slots fragments inside x) (Kept (InRows widths) x)
group_keeps laws head widths slots fragments inside x does sound flows fits =
    styled_steps (InRows widths) (InRows widths) (rows_calm laws widths) (rows_calm laws widths) head.style inside does
    (in_table (rows widths slots (fragments ++ option_to_list head.fragment)) x) sound
    (record {
      slots = slots;
      fragments = fragments ++ option_to_list head.fragment;
      flows = flows;
      is = refl;
      fits = fits;
    })

among_keeps : {H A : Type 0} {m : Marking H A} (laws : WidthLaws m) (info : RenderInfo) (head : Head)
    (items : ℕ) (inside : Step H A) (widths : Option (List ℕ)) (x : LayoutState H A) → KeepsInside m items inside
    → AreSound x.parts → (at : InRows widths x)
    → IfSome (among_rows m info head widths at.slots at.fragments inside x) (Kept (InRows widths) x)
among_keeps laws infos.Nothing head items inside widths x keeps sound at = (stays x.parts sound.kept, at)
among_keeps laws (infos.Text cs) head items inside widths x keeps sound at = (stays x.parts sound.kept, at)
among_keeps laws (infos.Image source title) head items inside widths x keeps sound at = (stays x.parts sound.kept, at)
among_keeps laws infos.Break head items inside widths x keeps sound at = (stays x.parts sound.kept, at)
among_keeps laws infos.Rule head items inside widths x keeps sound at = (stays x.parts sound.kept, at)
among_keeps laws infos.Container head items inside widths x keeps sound at = (stays x.parts sound.kept, at)
among_keeps laws (infos.Link target) head items inside widths x keeps sound at = (stays x.parts sound.kept, at)
among_keeps laws infos.Emphasis head items inside widths x keeps sound at = (stays x.parts sound.kept, at)
among_keeps laws infos.Strong head items inside widths x keeps sound at = (stays x.parts sound.kept, at)
among_keeps laws infos.Strikeout head items inside widths x keeps sound at = (stays x.parts sound.kept, at)
among_keeps laws infos.Code head items inside widths x keeps sound at = (stays x.parts sound.kept, at)
among_keeps laws infos.Superscript head items inside widths x keeps sound at = (stays x.parts sound.kept, at)
among_keeps laws infos.Block head items inside widths x keeps sound at = (stays x.parts sound.kept, at)
among_keeps laws infos.Division head items inside widths x keeps sound at = (stays x.parts sound.kept, at)
among_keeps laws (infos.Heading level) head items inside widths x keeps sound at = (stays x.parts sound.kept, at)
among_keeps laws infos.Quote head items inside widths x keeps sound at = (stays x.parts sound.kept, at)
among_keeps laws infos.Preformatted head items inside widths x keeps sound at = (stays x.parts sound.kept, at)
among_keeps laws infos.Bullets head items inside widths x keeps sound at = (stays x.parts sound.kept, at)
among_keeps laws (infos.Numbers first) head items inside widths x keeps sound at = (stays x.parts sound.kept, at)
among_keeps laws infos.Descriptions head items inside widths x keeps sound at = (stays x.parts sound.kept, at)
among_keeps laws infos.Details head items inside widths x keeps sound at = (stays x.parts sound.kept, at)
among_keeps laws infos.Term head items inside widths x keeps sound at = (stays x.parts sound.kept, at)
among_keeps laws infos.Table head items inside widths x keeps sound at = (stays x.parts sound.kept, at)
among_keeps laws infos.TableGroup head items inside widths x keeps sound at =
    group_keeps laws head widths at.slots at.fragments inside x (keeps.among widths) sound at.flows at.fits
among_keeps laws infos.TableRow head items inside widths x keeps sound at =
    row_keeps laws head widths at.slots at.fragments inside x (keeps.in_row widths) sound at.flows at.is at.fits
among_keeps laws (infos.TableCell columns taken) head items inside widths x keeps sound at =
    (stays x.parts sound.kept, at)

-- ---- in a row

in_row_keeps : {H A : Type 0} {m : Marking H A} (laws : WidthLaws m) (info : RenderInfo) (head : Head)
    (items : ℕ) (inside : Step H A) (widths : Option (List ℕ)) (x : LayoutState H A) → KeepsInside m items inside
    → AreSound x.parts → (at : InCells widths x)
    → IfSome (among_cells m info head (cells widths at.more at.fragments at.slots at.made) inside x)
    (Kept (InCells widths) x)
in_row_keeps laws infos.Nothing head items inside widths x keeps sound at = (stays x.parts sound.kept, at)
in_row_keeps laws (infos.Text cs) head items inside widths x keeps sound at = (stays x.parts sound.kept, at)
in_row_keeps laws (infos.Image source title) head items inside widths x keeps sound at = (stays x.parts sound.kept, at)
in_row_keeps laws infos.Break head items inside widths x keeps sound at = (stays x.parts sound.kept, at)
in_row_keeps laws infos.Rule head items inside widths x keeps sound at = (stays x.parts sound.kept, at)
in_row_keeps laws infos.Container head items inside widths x keeps sound at = (stays x.parts sound.kept, at)
in_row_keeps laws (infos.Link target) head items inside widths x keeps sound at = (stays x.parts sound.kept, at)
in_row_keeps laws infos.Emphasis head items inside widths x keeps sound at = (stays x.parts sound.kept, at)
in_row_keeps laws infos.Strong head items inside widths x keeps sound at = (stays x.parts sound.kept, at)
in_row_keeps laws infos.Strikeout head items inside widths x keeps sound at = (stays x.parts sound.kept, at)
in_row_keeps laws infos.Code head items inside widths x keeps sound at = (stays x.parts sound.kept, at)
in_row_keeps laws infos.Superscript head items inside widths x keeps sound at = (stays x.parts sound.kept, at)
in_row_keeps laws infos.Block head items inside widths x keeps sound at = (stays x.parts sound.kept, at)
in_row_keeps laws infos.Division head items inside widths x keeps sound at = (stays x.parts sound.kept, at)
in_row_keeps laws (infos.Heading level) head items inside widths x keeps sound at = (stays x.parts sound.kept, at)
in_row_keeps laws infos.Quote head items inside widths x keeps sound at = (stays x.parts sound.kept, at)
in_row_keeps laws infos.Preformatted head items inside widths x keeps sound at = (stays x.parts sound.kept, at)
in_row_keeps laws infos.Bullets head items inside widths x keeps sound at = (stays x.parts sound.kept, at)
in_row_keeps laws (infos.Numbers first) head items inside widths x keeps sound at = (stays x.parts sound.kept, at)
in_row_keeps laws infos.Descriptions head items inside widths x keeps sound at = (stays x.parts sound.kept, at)
in_row_keeps laws infos.Details head items inside widths x keeps sound at = (stays x.parts sound.kept, at)
in_row_keeps laws infos.Term head items inside widths x keeps sound at = (stays x.parts sound.kept, at)
in_row_keeps laws infos.Table head items inside widths x keeps sound at = (stays x.parts sound.kept, at)
in_row_keeps laws infos.TableGroup head items inside widths x keeps sound at = (stays x.parts sound.kept, at)
in_row_keeps laws infos.TableRow head items inside widths x keeps sound at = (stays x.parts sound.kept, at)
in_row_keeps {m = m} laws (infos.TableCell columns taken) head items inside widths x keeps sound at =
    cell_keeps laws widths at.more at.fragments at.slots at.made
    (styled m head.style (in_turn (named m head.fragment) inside)) x
    (styled_keeps laws head.style (in_turn (named m head.fragment) inside)
    (keeps_through Flow Flow Flow (named m head.fragment) inside (named_keeps laws Flow head.fragment)
    (keeps_flow m items inside keeps.flow))) sound at.flows at.fits

-- ---- a value

outside_keeps : {H A : Type 0} {m : Marking H A} (laws : WidthLaws m) (head : Head) (c : Content) (inside : Step H A)
    → IsNumbered head.info → IsSoundContent c → KeepsInside m c.items inside → (a : Around) → MarkFits m a
    → Keeps a (next_around a) (laid m head c inside)
outside_keeps {m = m} laws head c inside fits table keeps a marked in_cell x sound at =
    subst (λ place. IfSome (laid_at m head c place inside x) (Kept (At in_cell (next_around a)) x)) (sym at.1)
    (subst (λ b. IfSome (placed m b (styled m head.style (shown m head c inside)) x)
    (Kept (At in_cell (next_around a)) x)) (sym at.0)
    (placed_keeps laws a (styled m head.style (shown m head c inside)) in_cell x marked
    (styled_keeps laws head.style (shown m head c inside) (shown_keeps laws head c inside fits table keeps)) sound at))

laid_among : {H A : Type 0} {m : Marking H A} (laws : WidthLaws m) (head : Head) (c : Content) (inside : Step H A)
    → KeepsInside m c.items inside → (widths : Option (List ℕ))
    → Steps (InRows widths) (InRows widths) (laid m head c inside)
laid_among {m = m} laws head c inside keeps widths x sound at =
    subst (λ place. IfSome (laid_at m head c place inside x) (Kept (InRows widths) x)) (sym at.is)
    (among_keeps laws head.info head c.items inside widths x keeps sound at)

laid_in_row : {H A : Type 0} {m : Marking H A} (laws : WidthLaws m) (head : Head) (c : Content) (inside : Step H A)
    → KeepsInside m c.items inside → (widths : Option (List ℕ))
    → Steps (InCells widths) (InCells widths) (laid m head c inside)
laid_in_row {m = m} laws head c inside keeps widths x sound at =
    subst (λ place. IfSome (laid_at m head c place inside x) (Kept (InCells widths) x)) (sym at.is)
    (in_row_keeps laws head.info head c.items inside widths x keeps sound at)

-- ---- values

-- every line that values give is within the width
pub lay_keeps : {H A : Type 0} {m : Marking H A} (laws : WidthLaws m) (w : Sizing) (values : Values)
    → AreNumbered values → KeepsInside m (number values) (lay m w values)
lay_keeps laws w none fits = record {
  flow = λ a marked in_cell. steps_by (At in_cell a);
  among = λ widths. steps_by (InRows widths);
  in_row = λ widths. steps_by (InCells widths);
}
lay_keeps {H} {A} {m} laws w (value head inside rest) fits =
    by (lay_keeps laws (within w head) inside fits.1.0) (lay_keeps laws w rest fits.1.1)
  where
    here : Step H A
    here = laid m head (content_of w head inside) (lay m (within w head) inside)

    by : KeepsInside m (number inside) (lay m (within w head) inside) → KeepsInside m (number rest) (lay m w rest)
        → KeepsInside m (suc (number rest)) (in_turn here (lay m w rest))
    by one other = record {
      flow = λ a marked. keeps_through a (next_around a) (around_after (number rest) (next_around a)) here
          (lay m w rest)
          (outside_keeps laws head (content_of w head inside) (lay m (within w head) inside) fits.0
          (record {
            table = table_sound w.measure laws.tables head.info inside;
            fits = content_fits laws.asked w head inside;
          }) one a marked.0)
          (other.flow (next_around a) marked.1);
      among = λ widths. steps_through (InRows widths) (InRows widths) (InRows widths) here (lay m w rest)
          (laid_among laws head (content_of w head inside) (lay m (within w head) inside) one widths)
          (other.among widths);
      in_row = λ widths. steps_through (InCells widths) (InCells widths) (InCells widths) here (lay m w rest)
          (laid_in_row laws head (content_of w head inside) (lay m (within w head) inside) one widths)
          (other.in_row widths);
    }

pub parts_stay : {H A : Type 0} {m : Marking H A} (laws : WidthLaws m) (w : Sizing) (values : Values)
    (p : Parts H A) → AreNumbered values → AreKeptWithin p
    → IfSome (option_map (λ l. l.parts) (lay m w values (on_page p))) (PartsStayWithin p)
parts_stay {H} {A} {m} laws w values p fits kept =
    mapped (Kept (At false (around_after (number values) Flow)) (on_page p)) (PartsStayWithin p)
    (λ (l : LayoutState H A). l.parts) (lay m w values (on_page p)) (λ l k. k.0)
    ((lay_keeps laws w values fits).flow Flow (flow_fits m (number values)) false (on_page p)
    (record { kept = kept }) (refl, refl))
