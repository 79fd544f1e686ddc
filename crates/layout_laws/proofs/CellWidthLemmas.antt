-- Cells of a row keep the width.
use Rattle.std.proofs.Common.{◌≡◌, [], ◌∷◌, ◌++◌, ◌∙◌, Bool, IfSome, List, Option, false, refl, true, ℕ}
use Rattle.std.specs.Prelude.{if◌then◌else◌}
use Rattle.block_layout_laws.proofs.OptionLemmas.{chained}
use Rattle.block_trait.specs.Calls as calls
use Rattle.block_trait.specs.Renderers.{Marking, Sub}
use Rattle.table_widths.specs.Slots.{has_columns}
use Rattle.table_widths.specs.declared.slot.Slot.{Slot}
use Rattle.layout_state.specs.LayoutState.{LayoutState, Step, cells, goes_to, in_part, in_turn, says}
use Rattle.layout_state.specs.declared.around.Around.TheVariants.{Flow}
use Rattle.layout_tables.specs.Tables.{cell_begun, cell_ended, cell_laid, empties_before, empty_slots, from_cell}
use Rattle.layout_tables.specs.Tables.{in_cell, in_slot, slot_width, start_all}
use Rattle.layout_laws.proofs.RowFitLemmas.{seats_of}
use Rattle.layout_laws.proofs.TableStates.{FitsCells, empties_fit, made_fits, skip_fits}
use Rattle.layout_laws.proofs.TableWidthLemmas.{InCells}
use Rattle.layout_laws.proofs.WidthLemmas.{AreSound, At, Keeps, Kept, WidthLaws, keeps_by, keeps_through, says_keeps}
use Rattle.layout_laws.proofs.WidthLemmas.{sound_on, stays, weaker}

starts_keep : {H A : Type 0} {m : Marking H A} (laws : WidthLaws m) (names : List (List ℕ))
    → Keeps Flow Flow (start_all m names)
starts_keep laws [] = keeps_by Flow
starts_keep {m = m} laws (name ∷ names) =
    keeps_through Flow Flow Flow (says m (calls.starts_fragment name)) (start_all m names)
    (says_keeps laws Flow (calls.starts_fragment name) (λ s. tt)) (starts_keep laws names)

-- the renderer of a cell, beside the one outside
record IsCellIn {H A : Type 0} (width : ℕ) (x y : LayoutState H A) : Type 0 where
  pub sound : AreSound y.parts
  pub at : At true Flow y
  pub below : y.parts.below ≡ x.parts.below
  pub wide : y.parts.current.width ≡ width

cell_in : {H A : Type 0} {m : Marking H A} (laws : WidthLaws m) (width : ℕ) (x : LayoutState H A) → AreSound x.parts
    → IsCellIn width x (in_cell m width x)
unfolding in_cell in_part
cell_in laws width x sound = record {
  sound = record {
    kept = record { current = laws.part width x.parts.current sound.kept.current; below = sound.kept.below };
  };
  at = (refl, refl);
  below = refl;
  wide = refl;
}

cell_on : {H A : Type 0} (width : ℕ) (x y z : LayoutState H A) → IsCellIn width x y → Kept (At true Flow) y z
    → IsCellIn width x z
cell_on width x y z part k = record {
  sound = sound_on y.parts z.parts part.sound k.0;
  at = k.1;
  below = k.0.below ∙ part.below;
  wide = k.0.current.1.0 ∙ part.wide;
}

cell_ends : {H A : Type 0} (widths : Option (List ℕ)) (more : List (List Slot)) (s : Slot) (slots : List Slot)
    (made : List (Sub H A × ℕ)) (x z : LayoutState H A) → AreSound x.parts → has_columns s ≡ true
    → FitsCells widths more (s ∷ slots) made x.parts.current.width (seats_of x.parts.current)
    → IsCellIn (slot_width widths x.parts.current.width s) x z
    → IfSome (cell_ended x.parts.current widths more slots made s.rows z) (Kept (InCells widths) x)
unfolding cell_ended
cell_ends widths more s slots made x z sound some fits part = (
  record {
    current = (sound.kept.current, (refl, refl));
    below = part.below;
    kept = record { current = sound.kept.current; below = part.sound.kept.below };
  },
  record {
    more = more;
    fragments = [];
    slots = slots;
    made = made ++ (z.parts.current, s.rows) ∷ [];
    flows = part.at.0;
    is = refl;
    fits = made_fits widths more s slots made x.parts.current.width (seats_of x.parts.current) z.parts.current fits some
        part.sound.kept.current part.wide;
  },
)

inside_keeps : {H A : Type 0} {m : Marking H A} (laws : WidthLaws m) (widths : Option (List ℕ))
    (more : List (List Slot)) (fragments : List (List ℕ)) (s : Slot) (slots : List Slot) (made : List (Sub H A × ℕ))
    (inside : Step H A) (x : LayoutState H A) → Keeps Flow Flow inside → AreSound x.parts → has_columns s ≡ true
    → FitsCells widths more (s ∷ slots) made x.parts.current.width (seats_of x.parts.current)
    → IfSome (in_turn (cell_begun m (slot_width widths x.parts.current.width s) fragments)
    (in_turn inside (cell_ended x.parts.current widths more slots made s.rows)) x) (Kept (InCells widths) x)
unfolding cell_begun
inside_keeps {H} {A} {m} laws widths more fragments s slots made inside x keeps sound some fits =
    chained (IsCellIn width x) (Kept (InCells widths) x) (in_turn inside ended) (start_all m fragments begun)
    (λ y part. chained (IsCellIn width x) (Kept (InCells widths) x) ended (inside y)
    (λ z stood. cell_ends widths more s slots made x z sound some fits stood)
    (weaker (Kept (At true Flow) y) (IsCellIn width x) (inside y) (λ z k. cell_on width x y z part k)
    (keeps true y part.sound part.at)))
    (weaker (Kept (At true Flow) begun) (IsCellIn width x) (start_all m fragments begun)
    (λ y k. cell_on width x begun y first k) (starts_keep laws fragments true begun first.sound first.at))
  where
    width : ℕ
    width = slot_width widths x.parts.current.width s

    begun : LayoutState H A
    begun = in_cell m width x

    ended : Step H A
    ended = cell_ended x.parts.current widths more slots made s.rows

    first : IsCellIn width x begun
    first = cell_in laws width x sound

slot_keeps : {H A : Type 0} {m : Marking H A} (laws : WidthLaws m) (widths : Option (List ℕ))
    (more : List (List Slot)) (fragments : List (List ℕ)) (slots : List Slot) (made : List (Sub H A × ℕ))
    (inside : Step H A) (x : LayoutState H A) → Keeps Flow Flow inside → AreSound x.parts → x.around ≡ Flow
    → FitsCells widths more slots made x.parts.current.width (seats_of x.parts.current)
    → IfSome (in_slot m widths more fragments slots made inside x) (Kept (InCells widths) x)
slot_keeps laws widths more fragments [] made inside x keeps sound flows fits = (
  stays x.parts sound.kept,
  record { more = more; fragments = []; slots = []; made = made; flows = flows; is = refl; fits = fits },
)
slot_keeps {H} {A} {m} laws widths more fragments (s ∷ slots) made inside x keeps sound flows fits =
    by (has_columns s) refl
  where
    by : (b : Bool) → has_columns s ≡ b → IfSome (if b
        then in_turn (cell_begun m (slot_width widths x.parts.current.width s) fragments)
        (in_turn inside (cell_ended x.parts.current widths more slots made s.rows)) x
        else goes_to (cells widths more [] slots made) x) (Kept (InCells widths) x)
    by true e = inside_keeps laws widths more fragments s slots made inside x keeps sound e fits
    by false e = (
      stays x.parts sound.kept,
      record {
        more = more;
        fragments = [];
        slots = slots;
        made = made;
        flows = flows;
        is = refl;
        fits = skip_fits widths more s slots made x.parts.current.width (seats_of x.parts.current) fits e;
      },
    )

pub cell_keeps : {H A : Type 0} {m : Marking H A} (laws : WidthLaws m) (widths : Option (List ℕ))
    (more : List (List Slot)) (fragments : List (List ℕ)) (slots : List Slot) (made : List (Sub H A × ℕ))
    (inside : Step H A) (x : LayoutState H A) → Keeps Flow Flow inside → AreSound x.parts → x.around ≡ Flow
    → FitsCells widths more slots made x.parts.current.width (seats_of x.parts.current)
    → IfSome (cell_laid m widths more fragments slots made inside x) (Kept (InCells widths) x)
unfolding cell_laid
cell_keeps {m = m} laws widths more fragments slots made inside x keeps sound flows fits =
    slot_keeps laws widths more fragments (from_cell slots)
    (made ++ empty_slots m widths x.parts.current (empties_before slots)) inside x keeps sound flows
    (empties_fit m widths more slots made x.parts.current (seats_of x.parts.current)
    (λ width. laws.part width x.parts.current sound.kept.current) fits)
