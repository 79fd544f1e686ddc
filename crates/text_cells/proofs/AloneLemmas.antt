-- A row of one cell.
use Rattle.std.specs.Prelude.{◌≡◌, ◌+◌, ◌≤◌, ◌&&◌, [], ◌∷◌, ◌++◌, if◌then◌else◌, ◌/◌, All, Bool, List, None, Option}
use Rattle.std.specs.Prelude.{drop, false, fold, length, map, max, nat_le, refl, replicate, suc, true, zero, ℕ}
use Rattle.std.specs.Option.{option_map}
use Rattle.std.proofs.Common.{sym, ap, subst, ◌∙◌, arith}
use Rattle.std.proofs.lemmas.Bool.Decides.{nat_tests}
use Rattle.std.proofs.lemmas.List.{append-nil, append_assoc, drop-drop, length_push}
use Rattle.text_lines.specs.Tagged.{Item, line_items}
use Rattle.text_borders.specs.Segments.{with_up, with_down, joins_above, joins_below}
use Rattle.text_borders.specs.Borders.{Border, change_to, horizontal, plain, punched, stretched, with_segments}
use Rattle.text_borders.specs.Lines.{BlockLine, border, line_shown, text}
use Rattle.text_borders.specs.Across.{CellLine, Hanging, OpenCell, border_below, close_after, close_last, close_line}
use Rattle.text_borders.specs.Across.{further, goes_on, joined_to_row, line_or, of_cells, open_first, open_line, opened}
use Rattle.text_borders.specs.Across.{row_height, row_lines, row_of, row_width, sign_of, signs, spaces, whole, widened}
use Rattle.text_borders.specs.Across.{with_holes}
use Rattle.text_cells.specs.Ends.{border_line, last_border, first_border, rest_after, without_first, without_last}
use Rattle.text_pieces.specs.Items.{has_text}
use Rattle.text_cells.specs.Texts.{laid_text_of, in_row}
use Rattle.text_cells.specs.declared.laid_line.LaidText.{LaidText}
use Rattle.text_cells.proofs.GoingLemmas.{ends_here}
use Rattle.text_cells.specs.OpenCells.{asked, bare_cell}
use Rattle.std.proofs.lemmas.List.Elements.{All-nil, All-cons}

-- ---- the last line

pub last_is : {S : Type 0} (front : List (CellLine S)) (l : CellLine S)
    → last_border (front ++ l ∷ []) ≡ border_line l.line
last_is front l = folded None front l
  where
    folded : {S : Type 0} (above : Option (Border S)) (front : List (CellLine S)) (l : CellLine S)
        → fold (λ _ l. border_line l.line) above (front ++ l ∷ []) ≡ border_line l.line
    folded above [] l = refl
    folded above (m ∷ front) l = folded (border_line m.line) front l

pub without_is : {S : Type 0} (front : List (CellLine S)) (l : CellLine S)
    → without_last (front ++ l ∷ []) ≡ front ++ rest_after l.line (l ∷ []) []
without_is [] l = refl
without_is (m ∷ []) l = refl
without_is (m ∷ n ∷ front) l = ap (λ ls. m ∷ ls) (without_is (n ∷ front) l)

pub without_none : {S : Type 0} (lines : List (CellLine S)) → last_border lines ≡ None → without_last lines ≡ lines
without_none [] e = refl
without_none (l ∷ []) e = by l.line e
  where
    by : {S : Type 0} {l : CellLine S} (line : BlockLine S) → border_line line ≡ None
        → rest_after line (l ∷ []) [] ≡ l ∷ []
    by (text items) e = refl
    by (border b) e = cc
without_none (l ∷ m ∷ rest) e = ap (λ ls. l ∷ ls) (without_none (m ∷ rest) e)

-- ---- a cell whose borders are taken out

-- what is left of a cell, and what it asks of the borders of its row
pub record IsOpened {S : Type 0} (c : OpenCell S) (width rows : ℕ) (lines : List (CellLine S))
    (top bottom : Option (Border S)) : Type 0 where
  pub width_is : c.width ≡ width
  pub rows_is : c.rows ≡ rows
  pub lines_are : c.lines ≡ lines
  pub above : c.asks_above ≡ asked joins_below top
  pub below : c.asks_below ≡ asked joins_above bottom

opened_line : {S : Type 0} (line : BlockLine S) (lines rest : List (CellLine S)) (tag : S) (width rows : ℕ)
    → IsOpened (open_line line rest (whole tag (record { width = width; rows = rows; lines = lines }))) width rows
    (rest_after line lines rest) (border_line line) None
opened_line (text items) lines rest tag width rows = record {
  width_is = refl;
  rows_is = refl;
  lines_are = refl;
  above = refl;
  below = refl;
}
opened_line (border b) lines rest tag width rows = record {
  width_is = refl;
  rows_is = refl;
  lines_are = refl;
  above = refl;
  below = refl;
}

opened_first : {S : Type 0} (lines : List (CellLine S)) (tag : S) (width rows : ℕ)
    → IsOpened (open_first lines (whole tag (record { width = width; rows = rows; lines = lines }))) width rows
    (without_first lines) (first_border lines) None
opened_first [] tag width rows = record {
  width_is = refl;
  rows_is = refl;
  lines_are = refl;
  above = refl;
  below = refl;
}
opened_first (l ∷ rest) tag width rows = opened_line l.line (l ∷ rest) rest tag width rows

opened_top : {S : Type 0} (opens : Bool) (lines : List (CellLine S)) (tag : S) (width rows : ℕ)
    → IsOpened (if opens then open_first lines (whole tag (record { width = width; rows = rows; lines = lines }))
    else whole tag (record { width = width; rows = rows; lines = lines })) width rows
    (if opens then without_first lines else lines) (if opens then first_border lines else None) None
opened_top true lines tag width rows = opened_first lines tag width rows
opened_top false lines tag width rows = record {
  width_is = refl;
  rows_is = refl;
  lines_are = refl;
  above = refl;
  below = refl;
}

closed_line : {S : Type 0} (line : BlockLine S) (front lines : List (CellLine S)) (l : CellLine S) (tag : S)
    (c : OpenCell S) (width rows : ℕ) (top : Option (Border S)) → IsOpened c width rows lines top None
    → lines ≡ front ++ l ∷ []
    → IsOpened (close_line tag line front c) width rows (front ++ rest_after line (l ∷ []) []) top (border_line line)
closed_line (text items) front lines l tag c width rows top h e = record {
  width_is = h.width_is;
  rows_is = h.rows_is;
  lines_are = h.lines_are ∙ e;
  above = h.above;
  below = h.below;
}
closed_line (border b) front lines l tag c width rows top h e = record {
  width_is = h.width_is;
  rows_is = h.rows_is;
  lines_are = sym (append-nil front);
  above = h.above;
  below = refl;
}

closed_after : {S : Type 0} (front rest lines : List (CellLine S)) (l : CellLine S) (tag : S) (c : OpenCell S)
    (width rows : ℕ) (top : Option (Border S)) → IsOpened c width rows lines top None
    → lines ≡ front ++ l ∷ rest
    → IsOpened (close_after tag front l rest c) width rows (front ++ without_last (l ∷ rest)) top
    (last_border (l ∷ rest))
closed_after front [] lines l tag c width rows top h e = closed_line l.line front lines l tag c width rows top h e
closed_after front (m ∷ rest) lines l tag c width rows top h e =
    subst (λ ls. IsOpened (close_after tag (front ++ l ∷ []) m rest c) width rows ls top (last_border (m ∷ rest)))
    (append_assoc front (l ∷ []) (without_last (m ∷ rest)))
    (closed_after (front ++ l ∷ []) rest lines m tag c width rows top h
    (e ∙ sym (append_assoc front (l ∷ []) (m ∷ rest))))

closed_last : {S : Type 0} (lines : List (CellLine S)) (tag : S) (c : OpenCell S) (width rows : ℕ)
    (top : Option (Border S)) → IsOpened c width rows lines top None
    → IsOpened (close_last tag lines c) width rows (without_last lines) top (last_border lines)
closed_last [] tag c width rows top h = h
closed_last (l ∷ rest) tag c width rows top h = closed_after [] rest (l ∷ rest) l tag c width rows top h refl

closed_bottom : {S : Type 0} (closes : Bool) (lines : List (CellLine S)) (tag : S) (c : OpenCell S) (width rows : ℕ)
    (top : Option (Border S)) → IsOpened c width rows lines top None
    → IsOpened (if closes then close_last tag c.lines c else c) width rows
    (if closes then without_last lines else lines) top (if closes then last_border lines else None)
closed_bottom true lines tag c width rows top h =
    subst (λ ls. IsOpened (close_last tag ls c) width rows (without_last lines) top (last_border lines))
    (sym h.lines_are) (closed_last lines tag c width rows top h)
closed_bottom false lines tag c width rows top h = h

pub opened_is : {S : Type 0} (collapse given : Bool) (lines : List (CellLine S)) (tag : S) (width rows : ℕ)
    → let opens = collapse && given in
    let first = if opens then without_first lines else lines in
    IsOpened (opened collapse given tag (record { width = width; rows = rows; lines = lines })) width rows
    (if collapse then without_last first else first) (if opens then first_border lines else None)
    (if collapse then last_border first else None)
opened_is collapse given lines tag width rows =
    let opens = collapse && given in
    closed_bottom collapse (if opens then without_first lines else lines) tag
    (if opens then open_first lines (whole tag (record { width = width; rows = rows; lines = lines }))
    else whole tag (record { width = width; rows = rows; lines = lines })) width rows
    (if opens then first_border lines else None) (opened_top opens lines tag width rows)

-- ---- the lines of a row of one cell

pub rows_hold : {T S : Type 0} (seen : T → S) (ts : List (LaidText T)) (width : ℕ) (tag : S) (ls : List (CellLine S))
    → map (laid_text_of seen) ts ≡ map (in_row width tag) ls
    → All (λ t. t.content ≡ has_text (line_items seen t.line)) ts
rows_hold seen [] width tag ls e = All-nil (λ t. t.content ≡ has_text (line_items seen t.line))
rows_hold seen (t ∷ ts) width tag [] e = cc
rows_hold seen (t ∷ ts) width tag (l ∷ ls) e =
    let here = head_is (laid_text_of seen t) (in_row width tag l) e in
    All-cons (λ t. t.content ≡ has_text (line_items seen t.line)) t ts
    (subst (λ x. x.content ≡ has_text (line_shown x.line)) (sym here) refl)
    (rows_hold seen ts width tag ls (tail_is (laid_text_of seen t) (in_row width tag l) e))
  where
    head_is : {A : Type 0} {xs ys : List A} (x y : A) → x ∷ xs ≡ y ∷ ys → x ≡ y
    head_is x y e = cc

    tail_is : {A : Type 0} {xs ys : List A} (x y : A) → x ∷ xs ≡ y ∷ ys → xs ≡ ys
    tail_is x y e = cc

shown_texts : {T S : Type 0} (seen : T → S) (ts : List (LaidText T))
    → map (λ t. line_items seen t.line) ts ≡ map (λ l. line_shown l.line) (map (laid_text_of seen) ts)
shown_texts seen [] = refl
shown_texts seen (t ∷ ts) = ap (λ ls. line_items seen t.line ∷ ls) (shown_texts seen ts)

shown_rows : {S : Type 0} (width : ℕ) (tag : S) (ls : List (CellLine S))
    → map (λ l. line_shown l.line) (map (in_row width tag) ls) ≡ map (λ l. widened width tag l.line) ls
shown_rows width tag [] = refl
shown_rows width tag (l ∷ ls) = ap (λ xs. widened width tag l.line ∷ xs) (shown_rows width tag ls)

pub items_are : {T S : Type 0} (seen : T → S) (ts : List (LaidText T)) (width : ℕ) (tag : S) (ls : List (CellLine S))
    → map (laid_text_of seen) ts ≡ map (in_row width tag) ls
    → map (λ t. line_items seen t.line) ts ≡ map (λ l. widened width tag l.line) ls
items_are seen ts width tag ls e =
    shown_texts seen ts ∙ ap (λ xs. map (λ l. line_shown l.line) xs) e ∙ shown_rows width tag ls

lines_from : {S : Type 0} (sign : ℕ) (tag : S) (c : OpenCell S) (i n : ℕ) (rest : List (CellLine S))
    → drop i c.lines ≡ rest → n ≡ length rest
    → row_lines sign tag (c ∷ []) i n ≡ map (λ l. widened c.width tag l.line) rest
lines_from sign tag c i zero [] e f = refl
lines_from sign tag c i (suc n) [] e f = (let no : ⊥ = omega (arith, f) in elim no [ ])
lines_from sign tag c i zero (l ∷ rest) e f = (let no : ⊥ = omega (arith, f) in elim no [ ])
lines_from sign tag c i (suc n) (l ∷ rest) e f =
    ap (λ ls. line_or c.width tag c.filler ls ∷ row_lines sign tag (c ∷ []) (i + 1) n) e
    ∙ ap (λ ls. widened c.width tag l.line ∷ ls) (lines_from sign tag c (i + 1) n rest
    (sym (drop-drop 1 i c.lines) ∙ ap (λ ls. drop 1 ls) e) (omega (arith, f)))

height_is : {S : Type 0} (c : OpenCell S) → c.rows ≤ 1 → row_height (c ∷ []) ≡ length c.lines
height_is c last =
    ap (λ b. max 0 (if b then length c.lines else length c.lines / c.rows)) (here c.rows last)
    ∙ least (length c.lines)
  where
    here : (n : ℕ) → n ≤ 1 → nat_le n 1 ≡ true
    here n h = grind (arith, nat_tests, h)

    least : (n : ℕ) → max 0 n ≡ n
    least n = omega arith

lines_alone : {S : Type 0} (sign : ℕ) (tag : S) (c : OpenCell S) (width rows : ℕ) (ls : List (CellLine S))
    (top bottom : Option (Border S)) → IsOpened c width rows ls top bottom → rows ≤ 1
    → row_lines sign tag (c ∷ []) 0 (row_height (c ∷ [])) ≡ map (λ l. widened width tag l.line) ls
lines_alone sign tag c width rows ls top bottom is last =
    ap (λ n. row_lines sign tag (c ∷ []) 0 n) (height_is c (subst (λ n. n ≤ 1) (sym is.rows_is) last))
    ∙ lines_from sign tag c 0 (length c.lines) c.lines refl refl
    ∙ ap (λ n. map (λ l. widened n tag l.line) c.lines) is.width_is
    ∙ ap (λ xs. map (λ l. widened width tag l.line) xs) is.lines_are

-- ---- the row

abbrev above_by : {S : Type 0} → Option (Border S) → ℕ → List ℕ → Option (Border S)
above_by above width ks =
    option_map (λ b. with_segments (fold (change_to (option_map with_down)) (stretched width b.segments) ks) b) above

abbrev below_by : {S : Type 0} → S → ℕ → List ℕ → Border S
below_by tag width ks =
    with_segments (fold (change_to (option_map with_up)) (replicate width horizontal) ks) (plain horizontal 0 tag)

pub row_alone : {S : Type 0} (draws : Bool) (tag fill : S) (above joined : Option (Border S)) (width rows : ℕ)
    (ls : List (CellLine S)) (top bottom : Option (Border S)) (c : OpenCell S) (row : List (OpenCell S)) (wide : ℕ)
    (ks : List ℕ) (lines : List (List (Item S))) (below : Border S) (hanging : List (Hanging S))
    → IsOpened c width rows ls top bottom → rows ≤ 1 → row ≡ bare_cell width rows fill top bottom ∷ []
    → wide ≡ row_width row → ks ≡ signs 0 row
    → joined ≡ option_map (λ b. with_segments (fold (change_to (option_map with_down)) (stretched wide b.segments)
    (ks ++ of_cells (λ c. c.asks_above) 0 row)) b) above
    → below ≡ with_segments (fold (change_to (option_map with_up)) (replicate wide horizontal)
    (ks ++ of_cells (λ c. c.asks_below) 0 row)) (plain horizontal 0 tag)
    → lines ≡ map (λ l. widened width tag l.line) ls → hanging ≡ []
    → record { above = joined; lines = lines; below = below; hanging = hanging } ≡ row_of draws tag above (c ∷ [])
row_alone draws tag fill above joined width rows ls top bottom c row wide ks lines below hanging is last row_is wide_is
    ks_are joined_is below_is lines_are none =
    let goes : goes_on c ≡ false = ends_here c (subst (λ n. n ≤ 1) (sym is.rows_is) last) in
    let wide_c : wide ≡ c.width = wide_is ∙ ap (λ cs. row_width cs) row_is ∙ sym is.width_is in
    let ks_c : ks ≡ [] = ks_are ∙ ap (λ cs. signs 0 cs) row_is in
    let tops : ks ++ of_cells (λ c. c.asks_above) 0 row ≡ of_cells (λ c. c.asks_above) 0 (c ∷ []) =
    ap (λ js. js ++ of_cells (λ c. c.asks_above) 0 row) ks_c ∙ ap (λ cs. of_cells (λ c. c.asks_above) 0 cs) row_is
    ∙ ap (λ js. map (λ k. 0 + k) js ++ []) (sym is.above) in
    let bottoms : ks ++ of_cells (λ c. c.asks_below) 0 row ≡ of_cells (λ c. c.asks_below) 0 (c ∷ []) =
    ap (λ js. js ++ of_cells (λ c. c.asks_below) 0 row) ks_c ∙ ap (λ cs. of_cells (λ c. c.asks_below) 0 cs) row_is
    ∙ ap (λ js. map (λ k. 0 + k) js ++ []) (sym is.below) in
    let height = row_height (c ∷ []) in
    ap (λ x. record { above = x; lines = lines; below = below; hanging = hanging })
    (joined_is ∙ ap (λ n. above_by above n (ks ++ of_cells (λ c. c.asks_above) 0 row)) wide_c
    ∙ ap (λ js. above_by above c.width js) tops)
    ∙ ap (λ x. record { above = option_map (joined_to_row (c ∷ [])) above; lines = x; below = below; hanging = hanging })
    (lines_are ∙ sym (lines_alone (sign_of draws) tag c width rows ls top bottom is last))
    ∙ ap (λ x. record {
      above = option_map (joined_to_row (c ∷ [])) above;
      lines = row_lines (sign_of draws) tag (c ∷ []) 0 height;
      below = x;
      hanging = hanging;
    }) (below_is ∙ ap (λ n. below_by tag n (ks ++ of_cells (λ c. c.asks_below) 0 row)) wide_c
    ∙ ap (λ js. below_by tag c.width js) bottoms ∙ sym (ap (λ b. if b then punched 0 (line_or c.width tag
    (spaces c.width tag) (drop height c.lines)) (border_below tag (c ∷ [])) else border_below tag (c ∷ [])) goes))
    ∙ ap (λ x. record {
      above = option_map (joined_to_row (c ∷ [])) above;
      lines = row_lines (sign_of draws) tag (c ∷ []) 0 height;
      below = with_holes tag height 0 (c ∷ []) (border_below tag (c ∷ []));
      hanging = x;
    }) (none ∙ sym (ap (λ b. (if b then (record { place = 0; cell = further height c }) ∷ [] else []) ++ []) goes))

-- ---- the only cell

pub only_one : {A : Type 0} (all front : List A) (x : A) → all ≡ front ++ x ∷ [] → length all ≡ 1 → all ≡ x ∷ []
only_one all [] x e f = e
only_one all (y ∷ front) x e f =
    (let no : ⊥ = omega (arith, f, ap (λ xs. length xs) e, length_push front x) in elim no [ ])

pub opened_by : {S : Type 0} (collapse given some : Bool) (first mid last : List (CellLine S)) (tag : S)
    (width rows : ℕ) (top bottom : Option (Border S)) → some ≡ given
    → top ≡ (if collapse && some then first_border first else None)
    → mid ≡ (if collapse && some then without_first first else first)
    → bottom ≡ (if collapse then last_border mid else None)
    → last ≡ (if collapse then without_last mid else mid)
    → IsOpened (opened collapse given tag (record { width = width; rows = rows; lines = first })) width rows last top
    bottom
opened_by collapse given some first mid last tag width rows top bottom same top_is mid_is bottom_is last_is =
    let c = opened collapse given tag (record { width = width; rows = rows; lines = first }) in
    let mid_as = mid_is ∙ ap (λ b. if collapse && b then without_first first else first) same in
    let top_as = top_is ∙ ap (λ b. if collapse && b then first_border first else None) same in
    let bottom_as = bottom_is ∙ ap (λ ls. if collapse then last_border ls else None) mid_as in
    let last_as = last_is ∙ ap (λ ls. if collapse then without_last ls else ls) mid_as in
    let is = opened_is collapse given first tag width rows in
    record {
      width_is = is.width_is;
      rows_is = is.rows_is;
      lines_are = is.lines_are ∙ sym last_as;
      above = is.above ∙ ap (λ b. asked joins_below b) (sym top_as);
      below = is.below ∙ ap (λ b. asked joins_above b) (sym bottom_as);
    }
