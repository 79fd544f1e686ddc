-- Tags have no say in borders and rows of cells: under other tags they are the same, with those tags.
use Rattle.std.proofs.Common.{◌≡◌, ◌+◌, ◌-◌, ◌/◌, [], ◌∷◌, ◌++◌, ◌∙◌, Bool, List, ap, drop, false, length, map, refl}
use Rattle.std.proofs.Common.{replicate, sym, take, true, ℕ}
use Prim.Native.Nat.{zero, suc}
use Rattle.std.specs.Prelude.{fold, if◌then◌else◌, ◌&&◌, max, nat_le, nat_lt, Option, None, Some}
use Rattle.std.specs.Option.{option_map}
use Rattle.std.proofs.lemmas.List.{map-append}
use Rattle.text_lines.specs.Tagged.{Item, character, marker, tagged, line_columns}
use Rattle.text_pieces.proofs.RetaggedItems.{chosen_by, replicate_mapped, drop_mapped, line_columns_retagged}
use Rattle.text_borders.specs.Segments.{Segment, with_down, with_up}
use Rattle.text_borders.specs.Borders.{Border, Hole, change_to, chopped_after, chopped_before, filled_to, glyphs}
use Rattle.text_borders.specs.Borders.{holes_end, horizontal, line_above, plain, punched, punched_at, shown, shown_from}
use Rattle.text_borders.specs.Borders.{stretched, with_hole, with_segments}
use Rattle.text_borders.specs.Lines.{BlockLine, text, border, line_shown}
use Rattle.text_borders.specs.Across.{Cell, CellLine, Hanging, OpenCell, Row, across, as_text, border_below}
use Rattle.text_borders.specs.Across.{cell_height, cell_items, close_after, close_last, close_line, empty_cell, further}
use Rattle.text_borders.specs.Across.{goes_on, hanging_of, is_given, joined_to_row, line_or, of_cells, open_first}
use Rattle.text_borders.specs.Across.{open_line, opened, retagged, row_cells, row_height, row_items, row_lines, row_of}
use Rattle.text_borders.specs.Across.{row_width, seated, seated_after, sign_of, signs, spaces, whole, widened}
use Rattle.text_borders.specs.Across.{with_holes}
use Rattle.text_borders.specs.Retagged.{reitem, rehole, reborder, reline, recell_line, recell, rehanging, reopen, rerow}

-- ---- borders

pub tagged_retagged : {A B : Type 0} (f : A → B) (cs : List ℕ) (tag : A) → tagged cs (f tag)
    ≡ map (reitem f) (tagged cs tag)
tagged_retagged f [] tag = refl
tagged_retagged f (c ∷ cs) tag = ap (λ items. character c (f tag) ∷ items) (tagged_retagged f cs tag)

pub spaces_retagged : {A B : Type 0} (f : A → B) (n : ℕ) (tag : A) → spaces n (f tag)
    ≡ map (reitem f) (spaces n tag)
spaces_retagged f n tag = replicate_mapped (reitem f) n (character 0x20 tag)

hole_retagged : {A B : Type 0} (f : A → B) (place : ℕ) (items : List (Item A)) (b : Border A)
    → with_hole place (map (reitem f) items) (reborder f b) ≡ reborder f (with_hole place items b)
hole_retagged f place items b =
    ap (λ holes. (let n : Border _ = record { segments = b.segments; tag = f b.tag; holes = holes } in n))
    (sym (map-append (rehole f) b.holes ((record { place = place; items = items }) ∷ [])))

punched_at_retagged : {A B : Type 0} (f : A → B) (place : ℕ) (items : List (Item A)) (b : Border A)
    → punched_at place (map (reitem f) items) (reborder f b) ≡ reborder f (punched_at place items b)
punched_at_retagged f place items b =
    let end = place + line_columns items in
    ap (λ n. with_hole place (map (reitem f) items) (chopped_after (place + n) (chopped_before place
    (with_segments (stretched (place + n) b.segments) (reborder f b))))) (line_columns_retagged f items)
    ∙ hole_retagged f place items
    (chopped_after end (chopped_before place (with_segments (stretched end b.segments) b)))

end_retagged : {A B : Type 0} (f : A → B) (holes : List (Hole A)) (at : ℕ) → holes_end at (map (rehole f) holes)
    ≡ holes_end at holes
end_retagged f [] at = refl
end_retagged f (h ∷ holes) at =
    ap (λ n. holes_end (h.place + n) (map (rehole f) holes)) (line_columns_retagged f h.items)
    ∙ end_retagged f holes (h.place + line_columns h.items)

pub punched_retagged : {A B : Type 0} (f : A → B) (place : ℕ) (items : List (Item A)) (b : Border A)
    → punched place (map (reitem f) items) (reborder f b) ≡ reborder f (punched place items b)
punched_retagged f place items b =
    ap (λ n. punched_at (max place n) (map (reitem f) items) (reborder f b)) (end_retagged f b.holes 0)
    ∙ punched_at_retagged f (max place (holes_end 0 b.holes)) items b

pub filled_to_retagged : {A B : Type 0} (f : A → B) (w : ℕ) (b : Border A) → filled_to w (reborder f b)
    ≡ reborder f (filled_to w b)
filled_to_retagged f w b =
    let n = length b.segments in
    let wide = with_segments (stretched w b.segments) b in
    chosen_by (reborder f) (nat_lt n w) (nat_lt n w) (with_hole n (spaces (w - n) b.tag) wide) b
    (with_hole n (spaces (w - n) (f b.tag)) (reborder f wide)) (reborder f b) refl
    (ap (λ items. with_hole n items (reborder f wide)) (spaces_retagged f (w - n) b.tag)
    ∙ hole_retagged f n (spaces (w - n) b.tag) wide)
    refl

shown_from_retagged : {A B : Type 0} (f : A → B) (tag : A) (at : ℕ) (segments : List Segment) (holes : List (Hole A))
    → shown_from (f tag) at segments (map (rehole f) holes) ≡ map (reitem f) (shown_from tag at segments holes)
shown_from_retagged f tag at segments [] = tagged_retagged f _ tag
shown_from_retagged f tag at segments (h ∷ holes) =
    let front = glyphs tag (take (h.place - at) segments) in
    let end = h.place + line_columns h.items in
    let rest = shown_from tag end (drop (end - at) segments) holes in
    ap (λ n. glyphs (f tag) (take (h.place - at) segments) ++ (map (reitem f) h.items
    ++ shown_from (f tag) (h.place + n) (drop (h.place + n - at) segments) (map (rehole f) holes)))
    (line_columns_retagged f h.items)
    ∙ ap (λ items. items ++ (map (reitem f) h.items
    ++ shown_from (f tag) end (drop (end - at) segments) (map (rehole f) holes))) (tagged_retagged f _ tag)
    ∙ ap (λ items. map (reitem f) front ++ (map (reitem f) h.items ++ items))
    (shown_from_retagged f tag end (drop (end - at) segments) holes)
    ∙ ap (λ items. map (reitem f) front ++ items) (sym (map-append (reitem f) h.items rest))
    ∙ sym (map-append (reitem f) front (h.items ++ rest))

pub shown_retagged : {A B : Type 0} (f : A → B) (b : Border A) → shown (reborder f b) ≡ map (reitem f) (shown b)
shown_retagged f b = shown_from_retagged f b.tag 0 b.segments b.holes

-- ---- lines

pub line_shown_retagged : {A B : Type 0} (f : A → B) (line : BlockLine A) → line_shown (reline f line)
    ≡ map (reitem f) (line_shown line)
line_shown_retagged f (text items) = refl
line_shown_retagged f (border b) = shown_retagged f b

under_retagged : {A B : Type 0} (f : A → B) (tag : A) (items : List (Item A)) → retagged (f tag) (map (reitem f) items)
    ≡ map (reitem f) (retagged tag items)
under_retagged f tag [] = refl
under_retagged f tag (character c old ∷ items) = ap (λ xs. character c (f tag) ∷ xs) (under_retagged f tag items)
under_retagged f tag (marker name ∷ items) = under_retagged f tag items

pub as_text_retagged : {A B : Type 0} (f : A → B) (tag : A) (line : BlockLine A) → as_text (f tag) (reline f line)
    ≡ map (reitem f) (as_text tag line)
as_text_retagged f tag (text items) = refl
as_text_retagged f tag (border b) = ap (retagged (f tag)) (shown_retagged f b) ∙ under_retagged f tag (shown b)

widened_retagged : {A B : Type 0} (f : A → B) (w : ℕ) (tag : A) (line : BlockLine A)
    → widened w (f tag) (reline f line) ≡ map (reitem f) (widened w tag line)
widened_retagged f w tag (text items) =
    ap (λ n. map (reitem f) items ++ spaces (w - n) (f tag)) (line_columns_retagged f items)
    ∙ ap (λ xs. map (reitem f) items ++ xs) (spaces_retagged f (w - line_columns items) tag)
    ∙ sym (map-append (reitem f) items (spaces (w - line_columns items) tag))
widened_retagged f w tag (border b) =
    let wide = with_segments (stretched w b.segments) b in
    ap (retagged (f tag)) (shown_retagged f wide) ∙ under_retagged f tag (shown wide)

-- ---- cells that are seated and opened

seated_after_retagged : {A B : Type 0} (f : A → B) (hanging : List (Hanging A)) (at : ℕ)
    → seated_after at (map (rehanging f) hanging) ≡ map (recell f) (seated_after at hanging)
seated_after_retagged f [] at = refl
seated_after_retagged f (h ∷ hanging) at =
    let next = max at h.place + h.cell.width + 1 in
    let front = if nat_lt at h.place then empty_cell (h.place - at - 1) ∷ h.cell ∷ [] else h.cell ∷ [] in
    ap (λ cells. cells ++ seated_after next (map (rehanging f) hanging))
    (chosen_by (map (recell f)) (nat_lt at h.place) (nat_lt at h.place)
    (empty_cell (h.place - at - 1) ∷ h.cell ∷ []) (h.cell ∷ [])
    (empty_cell (h.place - at - 1) ∷ recell f h.cell ∷ []) (recell f h.cell ∷ []) refl refl refl)
    ∙ ap (λ cells. map (recell f) front ++ cells) (seated_after_retagged f hanging next)
    ∙ sym (map-append (recell f) front (seated_after next hanging))

seated_retagged : {A B : Type 0} (f : A → B) (cells : List (Cell A)) (at : ℕ) (hanging : List (Hanging A))
    → seated at (map (recell f) cells) (map (rehanging f) hanging) ≡ map (recell f) (seated at cells hanging)
seated_retagged f [] at hanging = seated_after_retagged f hanging at
seated_retagged f (c ∷ cells) at [] = refl
seated_retagged f (c ∷ cells) at (h ∷ hanging) =
    let next = at + c.width + 1 in
    chosen_by (map (recell f)) (nat_le h.place at) (nat_le h.place at) (h.cell ∷ seated next cells hanging)
    (c ∷ seated next cells (h ∷ hanging))
    (recell f h.cell ∷ seated next (map (recell f) cells) (map (rehanging f) hanging))
    (recell f c ∷ seated next (map (recell f) cells) (map (rehanging f) (h ∷ hanging))) refl
    (ap (λ xs. recell f h.cell ∷ xs) (seated_retagged f cells next hanging))
    (ap (λ xs. recell f c ∷ xs) (seated_retagged f cells next (h ∷ hanging)))

abbrev opening : {S : Type 0} → ℕ → ℕ → List (CellLine S) → List (Item S) → List ℕ → List ℕ → OpenCell S
opening width rows lines filler above below = record {
  width = width;
  rows = rows;
  lines = lines;
  filler = filler;
  asks_above = above;
  asks_below = below;
}

whole_retagged : {A B : Type 0} (f : A → B) (tag : A) (c : Cell A) → whole (f tag) (recell f c)
    ≡ reopen f (whole tag c)
whole_retagged f tag c = ap (λ filler. opening c.width c.rows (map (recell_line f) c.lines) filler [] [])
    (spaces_retagged f c.width tag)

open_line_retagged : {A B : Type 0} (f : A → B) (line : BlockLine A) (rest : List (CellLine A)) (c : OpenCell A)
    → open_line (reline f line) (map (recell_line f) rest) (reopen f c) ≡ reopen f (open_line line rest c)
open_line_retagged f (text items) rest c = refl
open_line_retagged f (border b) rest c = refl

open_first_retagged : {A B : Type 0} (f : A → B) (lines : List (CellLine A)) (c : OpenCell A)
    → open_first (map (recell_line f) lines) (reopen f c) ≡ reopen f (open_first lines c)
open_first_retagged f [] c = refl
open_first_retagged f (l ∷ rest) c = open_line_retagged f l.line rest c

close_line_retagged : {A B : Type 0} (f : A → B) (tag : A) (line : BlockLine A) (front : List (CellLine A))
    (c : OpenCell A) → close_line (f tag) (reline f line) (map (recell_line f) front) (reopen f c)
    ≡ reopen f (close_line tag line front c)
close_line_retagged f tag (text items) front c = refl
close_line_retagged f tag (border b) front c =
    ap (λ filler. opening c.width c.rows (map (recell_line f) front) filler c.asks_above
    (close_line tag (border b) front c).asks_below)
    (tagged_retagged f (map line_above (stretched c.width b.segments)) tag)

close_after_retagged : {A B : Type 0} (f : A → B) (tag : A) (rest front : List (CellLine A)) (l : CellLine A)
    (c : OpenCell A)
    → close_after (f tag) (map (recell_line f) front) (recell_line f l) (map (recell_line f) rest) (reopen f c)
    ≡ reopen f (close_after tag front l rest c)
close_after_retagged f tag [] front l c = close_line_retagged f tag l.line front c
close_after_retagged f tag (m ∷ rest) front l c =
    ap (λ ls. close_after (f tag) ls (recell_line f m) (map (recell_line f) rest) (reopen f c))
    (sym (map-append (recell_line f) front (l ∷ [])))
    ∙ close_after_retagged f tag rest (front ++ l ∷ []) m c

close_last_retagged : {A B : Type 0} (f : A → B) (tag : A) (lines : List (CellLine A)) (c : OpenCell A)
    → close_last (f tag) (map (recell_line f) lines) (reopen f c) ≡ reopen f (close_last tag lines c)
close_last_retagged f tag [] c = refl
close_last_retagged f tag (l ∷ rest) c = close_after_retagged f tag rest [] l c

abbrev closed : {S : Type 0} → Bool → S → OpenCell S → OpenCell S
closed collapse tag c = if collapse then close_last tag c.lines c else c

closed_retagged : {A B : Type 0} (f : A → B) (collapse : Bool) (tag : A) (c : OpenCell A)
    → closed collapse (f tag) (reopen f c) ≡ reopen f (closed collapse tag c)
closed_retagged f true tag c = close_last_retagged f tag c.lines c
closed_retagged f false tag c = refl

opened_retagged : {A B : Type 0} (f : A → B) (collapse above : Bool) (tag : A) (c : Cell A)
    → opened collapse above (f tag) (recell f c) ≡ reopen f (opened collapse above tag c)
opened_retagged f collapse above tag c =
    let first = if collapse && above then open_first c.lines (whole tag c) else whole tag c in
    ap (closed collapse (f tag))
    (chosen_by (reopen f) (collapse && above) (collapse && above) (open_first c.lines (whole tag c)) (whole tag c)
    (open_first (map (recell_line f) c.lines) (whole (f tag) (recell f c))) (whole (f tag) (recell f c)) refl
    (ap (open_first (map (recell_line f) c.lines)) (whole_retagged f tag c)
    ∙ open_first_retagged f c.lines (whole tag c))
    (whole_retagged f tag c))
    ∙ closed_retagged f collapse tag first

all_opened : {A B : Type 0} (f : A → B) (collapse above : Bool) (tag : A) (cells : List (Cell A))
    → map (opened collapse above (f tag)) (map (recell f) cells)
    ≡ map (reopen f) (map (opened collapse above tag) cells)
all_opened f collapse above tag [] = refl
all_opened f collapse above tag (c ∷ cells) =
    ap (λ o. o ∷ map (opened collapse above (f tag)) (map (recell f) cells)) (opened_retagged f collapse above tag c)
    ∙ ap (λ os. reopen f (opened collapse above tag c) ∷ os) (all_opened f collapse above tag cells)

-- ---- where cells stand

width_retagged : {A B : Type 0} (f : A → B) (cells : List (OpenCell A)) → row_width (map (reopen f) cells)
    ≡ row_width cells
width_retagged f [] = refl
width_retagged f (c ∷ []) = refl
width_retagged f (c ∷ d ∷ cells) = ap (λ n. c.width + 1 + n) (width_retagged f (d ∷ cells))

signs_retagged : {A B : Type 0} (f : A → B) (cells : List (OpenCell A)) (at : ℕ) → signs at (map (reopen f) cells)
    ≡ signs at cells
signs_retagged f [] at = refl
signs_retagged f (c ∷ []) at = refl
signs_retagged f (c ∷ d ∷ cells) at = ap (λ ks. (at + c.width) ∷ ks) (signs_retagged f (d ∷ cells) (at + c.width + 1))

above_retagged : {A B : Type 0} (f : A → B) (cells : List (OpenCell A)) (at : ℕ)
    → of_cells (λ c. c.asks_above) at (map (reopen f) cells) ≡ of_cells (λ c. c.asks_above) at cells
above_retagged f [] at = refl
above_retagged f (c ∷ cells) at = ap (λ ks. map (λ k. at + k) c.asks_above ++ ks)
    (above_retagged f cells (at + c.width + 1))

below_retagged : {A B : Type 0} (f : A → B) (cells : List (OpenCell A)) (at : ℕ)
    → of_cells (λ c. c.asks_below) at (map (reopen f) cells) ≡ of_cells (λ c. c.asks_below) at cells
below_retagged f [] at = refl
below_retagged f (c ∷ cells) at = ap (λ ks. map (λ k. at + k) c.asks_below ++ ks)
    (below_retagged f cells (at + c.width + 1))

joined_retagged : {A B : Type 0} (f : A → B) (cells : List (OpenCell A)) (b : Border A)
    → joined_to_row (map (reopen f) cells) (reborder f b) ≡ reborder f (joined_to_row cells b)
joined_retagged f cells b =
    ap (λ n. with_segments (fold (change_to (option_map with_down)) (stretched n b.segments)
    (signs 0 (map (reopen f) cells) ++ of_cells (λ c. c.asks_above) 0 (map (reopen f) cells))) (reborder f b))
    (width_retagged f cells)
    ∙ ap (λ ks. with_segments (fold (change_to (option_map with_down)) (stretched (row_width cells) b.segments)
    (ks ++ of_cells (λ c. c.asks_above) 0 (map (reopen f) cells))) (reborder f b)) (signs_retagged f cells 0)
    ∙ ap (λ ks. with_segments (fold (change_to (option_map with_down)) (stretched (row_width cells) b.segments)
    (signs 0 cells ++ ks)) (reborder f b)) (above_retagged f cells 0)

above_joined : {A B : Type 0} (f : A → B) (cells : List (OpenCell A)) (above : Option (Border A))
    → option_map (joined_to_row (map (reopen f) cells)) (option_map (reborder f) above)
    ≡ option_map (reborder f) (option_map (joined_to_row cells) above)
above_joined f cells None = refl
above_joined f cells (Some b) = ap Some (joined_retagged f cells b)

border_below_retagged : {A B : Type 0} (f : A → B) (tag : A) (cells : List (OpenCell A))
    → border_below (f tag) (map (reopen f) cells) ≡ reborder f (border_below tag cells)
border_below_retagged f tag cells =
    ap (λ n. with_segments (fold (change_to (option_map with_up)) (replicate n horizontal)
    (signs 0 (map (reopen f) cells) ++ of_cells (λ c. c.asks_below) 0 (map (reopen f) cells)))
    (plain horizontal 0 (f tag))) (width_retagged f cells)
    ∙ ap (λ ks. with_segments (fold (change_to (option_map with_up)) (replicate (row_width cells) horizontal)
    (ks ++ of_cells (λ c. c.asks_below) 0 (map (reopen f) cells))) (plain horizontal 0 (f tag)))
    (signs_retagged f cells 0)
    ∙ ap (λ ks. with_segments (fold (change_to (option_map with_up)) (replicate (row_width cells) horizontal)
    (signs 0 cells ++ ks)) (plain horizontal 0 (f tag))) (below_retagged f cells 0)

-- ---- the lines of a row

line_or_retagged : {A B : Type 0} (f : A → B) (w : ℕ) (tag : A) (filler : List (Item A)) (lines : List (CellLine A))
    → line_or w (f tag) (map (reitem f) filler) (map (recell_line f) lines)
    ≡ map (reitem f) (line_or w tag filler lines)
line_or_retagged f w tag filler [] = refl
line_or_retagged f w tag filler (l ∷ rest) = widened_retagged f w tag l.line

cell_items_retagged : {A B : Type 0} (f : A → B) (tag : A) (i : ℕ) (c : OpenCell A)
    → cell_items (f tag) i (reopen f c) ≡ map (reitem f) (cell_items tag i c)
cell_items_retagged f tag i c =
    ap (line_or c.width (f tag) (map (reitem f) c.filler)) (drop_mapped (recell_line f) i c.lines)
    ∙ line_or_retagged f c.width tag c.filler (drop i c.lines)

row_items_retagged : {A B : Type 0} (f : A → B) (sign : ℕ) (tag : A) (i : ℕ) (cells : List (OpenCell A))
    → row_items sign (f tag) i (map (reopen f) cells) ≡ map (reitem f) (row_items sign tag i cells)
row_items_retagged f sign tag i [] = refl
row_items_retagged f sign tag i (c ∷ []) = cell_items_retagged f tag i c
row_items_retagged f sign tag i (c ∷ d ∷ cells) =
    ap (λ xs. xs ++ (character sign (f tag) ∷ row_items sign (f tag) i (map (reopen f) (d ∷ cells))))
    (cell_items_retagged f tag i c)
    ∙ ap (λ xs. map (reitem f) (cell_items tag i c) ++ (character sign (f tag) ∷ xs))
    (row_items_retagged f sign tag i (d ∷ cells))
    ∙ sym (map-append (reitem f) (cell_items tag i c) (character sign tag ∷ row_items sign tag i (d ∷ cells)))

length_mapped : {X Y : Type 0} (r : X → Y) (xs : List X) → length (map r xs) ≡ length xs
length_mapped r [] = refl
length_mapped r (x ∷ xs) = ap suc (length_mapped r xs)

height_retagged : {A B : Type 0} (f : A → B) (c : OpenCell A) → cell_height (reopen f c) ≡ cell_height c
height_retagged f c = ap (λ n. if nat_le c.rows 1 then n else n / c.rows) (length_mapped (recell_line f) c.lines)

heights_from : {A B : Type 0} (f : A → B) (cells : List (OpenCell A)) (n : ℕ)
    → fold (λ n c. max n (cell_height c)) n (map (reopen f) cells) ≡ fold (λ n c. max n (cell_height c)) n cells
heights_from f [] n = refl
heights_from f (c ∷ cells) n =
    ap (λ h. fold (λ n c. max n (cell_height c)) (max n h) (map (reopen f) cells)) (height_retagged f c)
    ∙ heights_from f cells (max n (cell_height c))

row_lines_retagged : {A B : Type 0} (f : A → B) (sign : ℕ) (tag : A) (cells : List (OpenCell A)) (n i : ℕ)
    → row_lines sign (f tag) (map (reopen f) cells) i n ≡ map (map (reitem f)) (row_lines sign tag cells i n)
row_lines_retagged f sign tag cells zero i = refl
row_lines_retagged f sign tag cells (suc n) i =
    ap (λ l. l ∷ row_lines sign (f tag) (map (reopen f) cells) (i + 1) n) (row_items_retagged f sign tag i cells)
    ∙ ap (λ ls. map (reitem f) (row_items sign tag i cells) ∷ ls) (row_lines_retagged f sign tag cells n (i + 1))

-- ---- what goes on

hole_at : {A B : Type 0} (f : A → B) (tag : A) (height at : ℕ) (c : OpenCell A) (b : Border A)
    → (if goes_on c then punched at (line_or c.width (f tag) (spaces c.width (f tag))
    (drop height (map (recell_line f) c.lines))) (reborder f b) else reborder f b)
    ≡ reborder f
    (if goes_on c then punched at (line_or c.width tag (spaces c.width tag) (drop height c.lines)) b else b)
hole_at f tag height at c b =
    let items = line_or c.width tag (spaces c.width tag) (drop height c.lines) in
    chosen_by (reborder f) (goes_on c) (goes_on c) (punched at items b) b
    (punched at (line_or c.width (f tag) (spaces c.width (f tag)) (drop height (map (recell_line f) c.lines)))
    (reborder f b)) (reborder f b) refl
    (ap (λ ls. punched at (line_or c.width (f tag) (spaces c.width (f tag)) ls) (reborder f b))
    (drop_mapped (recell_line f) height c.lines)
    ∙ ap (λ xs. punched at (line_or c.width (f tag) xs (map (recell_line f) (drop height c.lines))) (reborder f b))
    (spaces_retagged f c.width tag)
    ∙ ap (λ xs. punched at xs (reborder f b))
    (line_or_retagged f c.width tag (spaces c.width tag) (drop height c.lines))
    ∙ punched_retagged f at items b)
    refl

holes_retagged : {A B : Type 0} (f : A → B) (tag : A) (height : ℕ) (cells : List (OpenCell A)) (at : ℕ) (b : Border A)
    → with_holes (f tag) height at (map (reopen f) cells) (reborder f b)
    ≡ reborder f (with_holes tag height at cells b)
holes_retagged f tag height [] at b = refl
holes_retagged f tag height (c ∷ cells) at b =
    ap (with_holes (f tag) height (at + c.width + 1) (map (reopen f) cells)) (hole_at f tag height at c b)
    ∙ holes_retagged f tag height cells (at + c.width + 1)
    (if goes_on c then punched at (line_or c.width tag (spaces c.width tag) (drop height c.lines)) b else b)

abbrev celled : {S : Type 0} → ℕ → ℕ → List (CellLine S) → Cell S
celled width rows lines = record { width = width; rows = rows; lines = lines }

abbrev hung : {S : Type 0} → ℕ → Cell S → Hanging S
hung at cell = record { place = at; cell = cell }

further_retagged : {A B : Type 0} (f : A → B) (height : ℕ) (c : OpenCell A) → further height (reopen f c)
    ≡ recell f (further height c)
further_retagged f height c =
    ap (celled c.width (c.rows - 1)) (drop_mapped (recell_line f) (height + 1) c.lines)

hangs_at : {A B : Type 0} (f : A → B) (height at : ℕ) (c : OpenCell A)
    → (if goes_on c then hung at (further height (reopen f c)) ∷ [] else [])
    ≡ map (rehanging f) (if goes_on c then hung at (further height c) ∷ [] else [])
hangs_at f height at c =
    chosen_by (map (rehanging f)) (goes_on c) (goes_on c) (hung at (further height c) ∷ []) []
    (hung at (further height (reopen f c)) ∷ []) [] refl
    (ap (λ cell. hung at cell ∷ []) (further_retagged f height c)) refl

hanging_retagged : {A B : Type 0} (f : A → B) (height : ℕ) (cells : List (OpenCell A)) (at : ℕ)
    → hanging_of height at (map (reopen f) cells) ≡ map (rehanging f) (hanging_of height at cells)
hanging_retagged f height [] at = refl
hanging_retagged f height (c ∷ cells) at =
    let front = if goes_on c then hung at (further height c) ∷ [] else [] in
    ap (λ hs. hs ++ hanging_of height (at + c.width + 1) (map (reopen f) cells)) (hangs_at f height at c)
    ∙ ap (λ hs. map (rehanging f) front ++ hs) (hanging_retagged f height cells (at + c.width + 1))
    ∙ sym (map-append (rehanging f) front (hanging_of height (at + c.width + 1) cells))

-- ---- the row

abbrev rowed : {S : Type 0} → Option (Border S) → List (List (Item S)) → Border S → List (Hanging S) → Row S
rowed above lines below hanging = record { above = above; lines = lines; below = below; hanging = hanging }

row_of_retagged : {A B : Type 0} (f : A → B) (draws : Bool) (tag : A) (above : Option (Border A))
    (cells : List (OpenCell A))
    → row_of draws (f tag) (option_map (reborder f) above) (map (reopen f) cells)
    ≡ rerow f (row_of draws tag above cells)
row_of_retagged f draws tag above cells =
    let bs = map (reopen f) cells in
    let n = row_height cells in
    ap (λ h. rowed (option_map (joined_to_row bs) (option_map (reborder f) above))
    (row_lines (sign_of draws) (f tag) bs 0 h) (with_holes (f tag) h 0 bs (border_below (f tag) bs))
    (hanging_of h 0 bs)) (heights_from f cells 0)
    ∙ ap (λ b. rowed b (row_lines (sign_of draws) (f tag) bs 0 n)
    (with_holes (f tag) n 0 bs (border_below (f tag) bs)) (hanging_of n 0 bs)) (above_joined f cells above)
    ∙ ap (λ ls. rowed (option_map (reborder f) (option_map (joined_to_row cells) above)) ls
    (with_holes (f tag) n 0 bs (border_below (f tag) bs)) (hanging_of n 0 bs))
    (row_lines_retagged f (sign_of draws) tag cells n 0)
    ∙ ap (λ b. rowed (option_map (reborder f) (option_map (joined_to_row cells) above))
    (map (map (reitem f)) (row_lines (sign_of draws) tag cells 0 n)) b (hanging_of n 0 bs))
    (ap (with_holes (f tag) n 0 bs) (border_below_retagged f tag cells)
    ∙ holes_retagged f tag n cells 0 (border_below tag cells))
    ∙ ap (rowed (option_map (reborder f) (option_map (joined_to_row cells) above))
    (map (map (reitem f)) (row_lines (sign_of draws) tag cells 0 n))
    (reborder f (with_holes tag n 0 cells (border_below tag cells)))) (hanging_retagged f n cells 0)

given_retagged : {A B : Type 0} (f : A → B) (above : Option (Border A)) → is_given (option_map (reborder f) above)
    ≡ is_given above
given_retagged f None = refl
given_retagged f (Some b) = refl

pub across_retagged : {A B : Type 0} (f : A → B) (draws collapse : Bool) (tag : A) (above : Option (Border A))
    (cells : List (Cell A)) (hanging : List (Hanging A))
    → across draws collapse (f tag) (option_map (reborder f) above) (map (recell f) cells) (map (rehanging f) hanging)
    ≡ rerow f (across draws collapse tag above cells hanging)
across_retagged f draws collapse tag above cells hanging =
    let top = option_map (reborder f) above in
    ap (λ cs. row_of draws (f tag) top (map (opened collapse (is_given top) (f tag)) cs))
    (seated_retagged f cells 0 hanging)
    ∙ ap (λ g. row_of draws (f tag) top (map (opened collapse g (f tag)) (map (recell f) (seated 0 cells hanging))))
    (given_retagged f above)
    ∙ ap (row_of draws (f tag) top) (all_opened f collapse (is_given above) tag (seated 0 cells hanging))
    ∙ row_of_retagged f draws tag above (row_cells collapse tag above cells hanging)
