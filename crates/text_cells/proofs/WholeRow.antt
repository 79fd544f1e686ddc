-- The parts of a row are what the definition says.
use Rattle.std.proofs.Common.{◌≡◌, ℕ, Bool, List, ◌++◌, map, length, take, drop, replicate, ap, ◌∙◌, refl}
use Rattle.std.specs.Prelude.{Option, None, Some, fold, is_some}
use Rattle.std.specs.Option.{option_map}
use Rattle.std.proofs.lemmas.List.{take_at}
use Rattle.text_lines.specs.Tagged.{Item}
use Rattle.text_borders.specs.Segments.{with_up, with_down}
use Rattle.text_borders.specs.Borders.{Border, horizontal, plain, stretched, change_to, with_segments}
use Rattle.text_borders.specs.Across.{Cell, Hanging, OpenCell, border_below, hanging_of, is_given, joined_to_row}
use Rattle.text_borders.specs.Across.{of_cells, opened, row_height, row_lines, row_of, row_width, sign_of, signs}
use Rattle.text_borders.specs.Across.{with_holes}
use Rattle.text_cells.specs.OpenCells.{after, seated_across}
use Rattle.text_cells.proofs.GoingLemmas.{holes_after, hanging_after}

pub given_is : {A B : Type 0} (f : A → B) (o : Option A) → is_some o ≡ is_given (option_map f o)
given_is f None = refl
given_is f (Some x) = refl

-- a list that was lent whole and written
pub written : {A : Type 0} (now first : List A) (n : ℕ) → length now ≡ n → take n (now ++ drop (length now) first) ≡ now
written now first n long = take_at now (drop (length now) first) n long

pub cells_are : {S : Type 0} (collapse given : Bool) (tag : S) (above : Option (Border S)) (seats : List (Cell S))
    (row : List (OpenCell S)) → given ≡ is_given above → row ≡ map (opened collapse given tag) seats
    → row ≡ map (opened collapse (is_given above) tag) seats
cells_are collapse given tag above seats row given_is row_is =
    row_is ∙ ap (λ b. map (opened collapse b tag) seats) given_is

pub above_is : {S : Type 0} (above joined : Option (Border S)) (row : List (OpenCell S)) (width : ℕ) (ks : List ℕ)
    → width ≡ row_width row → ks ≡ signs 0 row
    → joined ≡ option_map (λ b. with_segments (fold (change_to (option_map with_down)) (stretched width b.segments)
    (ks ++ of_cells (λ c. c.asks_above) 0 row)) b) above
    → joined ≡ option_map (joined_to_row row) above
above_is above joined row width ks width_is signs_are is =
    is ∙ ap (λ n. option_map (λ b. with_segments (fold (change_to (option_map with_down)) (stretched n b.segments)
    (ks ++ of_cells (λ c. c.asks_above) 0 row)) b) above) width_is
    ∙ ap (λ js. option_map (λ b. with_segments (fold (change_to (option_map with_down))
    (stretched (row_width row) b.segments) (js ++ of_cells (λ c. c.asks_above) 0 row)) b) above) signs_are

pub below_is : {S : Type 0} (tag : S) (row : List (OpenCell S)) (width : ℕ) (ks : List ℕ) (below : Border S)
    → width ≡ row_width row → ks ≡ signs 0 row
    → below ≡ with_segments (fold (change_to (option_map with_up)) (replicate width horizontal)
    (ks ++ of_cells (λ c. c.asks_below) 0 row)) (plain horizontal 0 tag)
    → below ≡ border_below tag row
below_is tag row width ks below width_is signs_are is =
    is ∙ ap (λ n. with_segments (fold (change_to (option_map with_up)) (replicate n horizontal)
    (ks ++ of_cells (λ c. c.asks_below) 0 row)) (plain horizontal 0 tag)) width_is
    ∙ ap (λ js. with_segments (fold (change_to (option_map with_up)) (replicate (row_width row) horizontal)
    (js ++ of_cells (λ c. c.asks_below) 0 row)) (plain horizontal 0 tag)) signs_are

pub lines_are : {S : Type 0} (draws : Bool) (tag : S) (row : List (OpenCell S)) (sign height : ℕ)
    (lines : List (List (Item S))) → sign ≡ sign_of draws → height ≡ row_height row
    → lines ≡ row_lines sign tag row 0 height → lines ≡ row_lines (sign_of draws) tag row 0 (row_height row)
lines_are draws tag row sign height lines sign_is height_is are =
    are ∙ ap (λ s. row_lines s tag row 0 height) sign_is ∙ ap (row_lines (sign_of draws) tag row 0) height_is

pub holes_are : {S : Type 0} (tag : S) (row left : List (OpenCell S)) (height : ℕ) (first below : Border S)
    → height ≡ row_height row → left ≡ map (after height) row → first ≡ border_below tag row
    → below ≡ with_holes tag 0 0 left first → below ≡ with_holes tag (row_height row) 0 row (border_below tag row)
holes_are tag row left height first below height_is taken first_is is =
    is ∙ ap (λ cs. with_holes tag 0 0 cs first) taken ∙ holes_after tag height 0 row first
    ∙ ap (λ n. with_holes tag n 0 row first) height_is
    ∙ ap (with_holes tag (row_height row) 0 row) first_is

pub hanging_are : {S : Type 0} (row left : List (OpenCell S)) (height : ℕ) (hanging : List (Hanging S))
    → height ≡ row_height row → left ≡ map (after height) row → hanging ≡ hanging_of 0 0 left
    → hanging ≡ hanging_of (row_height row) 0 row
hanging_are row left height hanging height_is taken are =
    are ∙ ap (hanging_of 0 0) taken ∙ hanging_after height 0 row ∙ ap (λ n. hanging_of n 0 row) height_is

pub row_is : {S : Type 0} (draws collapse : Bool) (tag : S) (above : Option (Border S)) (seats : List (Cell S))
    (row : List (OpenCell S)) (joined : Option (Border S)) (lines : List (List (Item S)))
    (below : Border S) (going : List (Hanging S)) → row ≡ map (opened collapse (is_given above) tag) seats
    → joined ≡ option_map (joined_to_row row) above → lines ≡ row_lines (sign_of draws) tag row 0 (row_height row)
    → below ≡ with_holes tag (row_height row) 0 row (border_below tag row) → going ≡ hanging_of (row_height row) 0 row
    → (record { above = joined; lines = lines; below = below; hanging = going })
    ≡ seated_across draws collapse tag above seats
row_is draws collapse tag above seats row joined lines below going cells_are above_is lines_are below_is
    hanging_are =
    ap (λ x. record { above = x; lines = lines; below = below; hanging = going }) above_is
    ∙ ap (λ x. record { above = option_map (joined_to_row row) above; lines = x; below = below; hanging = going })
    lines_are
    ∙ ap (λ x. record {
      above = option_map (joined_to_row row) above;
      lines = row_lines (sign_of draws) tag row 0 (row_height row);
      below = x;
      hanging = going;
    }) below_is
    ∙ ap (λ x. record {
      above = option_map (joined_to_row row) above;
      lines = row_lines (sign_of draws) tag row 0 (row_height row);
      below = with_holes tag (row_height row) 0 row (border_below tag row);
      hanging = x;
    }) hanging_are
    ∙ ap (row_of draws tag above) cells_are
