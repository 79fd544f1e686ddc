-- The end of a row keeps the width.
use Rattle.std.proofs.Common.{◌≡◌, ℕ, List, [], Option, Some, IfSome, refl, sym, subst}
use Rattle.block_trait.specs.Calls.{step}
use Rattle.block_trait.specs.Renderers.{Marking, Sub}
use Rattle.block_laws.specs.RendererLaws.{StaysWithin}
use Rattle.table_widths.specs.declared.slot.Slot.{Slot}
use Rattle.layout_state.specs.LayoutState.{LayoutState, cells, in_current, in_table, rows}
use Rattle.layout_state.specs.declared.around.Around.TheVariants.{Flow}
use Rattle.layout_tables.specs.Tables.{end_of_row, row_call, row_ended}
use Rattle.layout_laws.proofs.RowFitLemmas.{seats_of}
use Rattle.layout_laws.proofs.TableStates.{FitsCells, row_call_fits, row_leaves, row_made}
use Rattle.layout_laws.proofs.TableWidthLemmas.{InCells, InRows, rows_same}
use Rattle.layout_laws.proofs.WidthLemmas.{AreSound, Kept, Steps, WidthLaws, says_there}

end_keeps : {H A : Type 0} {m : Marking H A} (laws : WidthLaws m) (widths : Option (List ℕ))
    (more : List (List Slot)) (fragments : List (List ℕ)) (slots : List Slot) (made : List (Sub H A × ℕ))
    (x : LayoutState H A) → AreSound x.parts → x.around ≡ Flow
    → FitsCells widths more slots made x.parts.current.width (seats_of x.parts.current)
    → IfSome (end_of_row m (cells widths more fragments slots made) x) (Kept (InRows widths) x)
end_keeps {H} {A} {m} laws widths more fragments slots made x sound flows fits =
    says_there laws (InRows widths) (row_call widths (row_made m widths s slots made))
    (in_table (rows widths more []) x) sound
    (row_call_fits laws.seats m widths more slots made s (λ width. laws.part width s sound.kept.current) fits)
    trailing
  where
    s : Sub H A
    s = x.parts.current

    trailing : (new : Sub H A) → StaysWithin s new
        → step m (row_call widths (row_made m widths s slots made)) s ≡ Some new
        → InRows widths (in_current (in_table (rows widths more []) x) new)
    trailing new inside does = record {
      slots = more;
      fragments = [];
      flows = flows;
      is = refl;
      fits = rows_same widths more s.width new.width (seats_of new) (seats_of new) inside.1.0 refl
          (row_leaves laws.seats m widths more slots made s new fits does);
    }

pub row_ends : {H A : Type 0} {m : Marking H A} (laws : WidthLaws m) (widths : Option (List ℕ))
    → Steps (InCells widths) (InRows widths) (row_ended m)
unfolding row_ended
row_ends {m = m} laws widths x sound at =
    subst (λ place. IfSome (end_of_row m place x) (Kept (InRows widths) x)) (sym at.is)
    (end_keeps laws widths at.more at.fragments at.slots at.made x sound at.flows at.fits)
