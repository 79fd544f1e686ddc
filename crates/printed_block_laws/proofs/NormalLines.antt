-- No line of normal text holds a control character.
use Rattle.std.proofs.Common.{◌≡◌, ◌&&◌, [], ◌∷◌, ◌++◌, ◌∙◌, All, Bool, List, None, Some, ap, false, filter, inl}
use Rattle.std.proofs.Common.{is_some, map, not, refl, subst, sym, true, ℕ}
use Rattle.std.proofs.lemmas.Bool.{cond_both}
use Rattle.std.proofs.lemmas.List.Elements.{All-cons, All-head, All-nil, All-tail, All-weaker, filter_passes}
use Rattle.text_lines.specs.Columns.{columns_of}
use Rattle.text_lines.specs.Tagged.{Item, character}
use Rattle.text_pieces.specs.Sources.{Source, is_break_point}
use Rattle.text_pieces.specs.Items.{has_text}
use Rattle.text_normal.specs.Units.{Letter, units}
use Rattle.text_normal.specs.Layout.{Joint, Mark, cuttable, following_items, gap_items, inside, joined_lines}
use Rattle.text_normal.specs.Layout.{marks_items, opens, starts}
use Rattle.text_normal.specs.Greedy.{add_units, all_lines}
use Rattle.text_normal.specs.Riders.{Rider, carried, normal_lines, note, plain, settled_lines, shown_item, shown_lines}
use Rattle.text_normal.proofs.LayoutFilling.{filled_is_fullest, letters_there}
use Rattle.text_normal.proofs.UnitsLetters.{stands, units_have_letters, units_letters}
use Rattle.text_normal_laws.proofs.MarkedKept.{letters_in, units_marked}
use Rattle.printed_block_laws.specs.Printed.{ArePrinted, IsPrinted}
use Rattle.printed_block_laws.proofs.ControlWidths.{printed_with_columns}
use Rattle.printed_block_laws.proofs.PrintedItems.{none_printed, printed_both, printed_more}

-- ---- letters of units

abbrev IsPrintedLetter : {S : Type 0} → Letter S → Type 0
IsPrintedLetter l = IsPrinted l.code

has_width : (breaks shown : Bool) → (not breaks && shown) ≡ true → shown ≡ true
has_width true shown h = cc
has_width false shown h = h

standing_printed : {S : Type 0} (read : List (Letter S)) → All IsPrintedLetter (filter stands read)
standing_printed read = All-weaker (λ l. stands l ≡ true) IsPrintedLetter
    (λ l h. printed_with_columns l.code (has_width (is_break_point l.code) (is_some (columns_of l.code)) h))
    (filter stands read) (filter_passes stands read)

-- ---- marks

abbrev AreMarksPrinted : {S : Type 0} → List (Mark S) → Type 0
AreMarksPrinted [] = Unit {0}
AreMarksPrinted (m ∷ ms) = IsPrinted m.letter.code × AreMarksPrinted ms

marks_printed : {S : Type 0} (ms : List (Mark S)) → All IsPrintedLetter (letters_in ms) → AreMarksPrinted ms
marks_printed [] h = tt
marks_printed (m ∷ ms) h = (
  All-head IsPrintedLetter m.letter (letters_in ms) h,
  marks_printed ms (All-tail IsPrintedLetter m.letter (letters_in ms) h),
)

marks_front : {S : Type 0} (xs ys : List (Mark S)) → AreMarksPrinted (xs ++ ys) → AreMarksPrinted xs
marks_front [] ys h = tt
marks_front (x ∷ xs) ys h = (h.0, marks_front xs ys h.1)

marks_back : {S : Type 0} (xs ys : List (Mark S)) → AreMarksPrinted (xs ++ ys) → AreMarksPrinted ys
marks_back [] ys h = h
marks_back (x ∷ xs) ys h = marks_back xs ys h.1

-- ---- what is shown of a line

shown_more : {S : Type 0} (c : ℕ) (tag : Rider S) (items : List (Item (Rider S))) → IsPrinted c
    → ArePrinted (map shown_item items) → ArePrinted (map shown_item (character c tag ∷ items))
shown_more c (plain tag) items here rest = printed_more c tag (map shown_item items) here rest
shown_more c (note name) items here rest = rest

after_gap : {S : Type 0} (joint : Joint (Rider S)) (items : List (Item (Rider S))) → ArePrinted (map shown_item items)
    → ArePrinted (map shown_item (gap_items joint ++ items))
after_gap (opens None) items h = h
after_gap (opens (Some tag)) items h = shown_more 0x20 tag items refl h
after_gap starts items h = h
after_gap inside items h = h
after_gap cuttable items h = h

following_printed : {S : Type 0} (ms : List (Mark (Rider S))) → AreMarksPrinted ms
    → ArePrinted (map shown_item (following_items ms))
following_printed [] h = none_printed
following_printed (m ∷ ms) h =
    after_gap m.joint (character m.letter.code m.letter.tag ∷ following_items ms)
    (shown_more m.letter.code m.letter.tag (following_items ms) h.0 (following_printed ms h.1))

line_printed : {S : Type 0} (ms : List (Mark (Rider S))) → AreMarksPrinted ms
    → ArePrinted (map shown_item (marks_items ms))
line_printed [] h = none_printed
line_printed (m ∷ ms) h =
    shown_more m.letter.code m.letter.tag (following_items ms) h.0 (following_printed ms h.1)

lines_printed : {S : Type 0} (lines : List (List (Mark (Rider S)))) → AreMarksPrinted (joined_lines lines)
    → All ArePrinted (map (map shown_item) (map marks_items lines))
lines_printed [] h = All-nil ArePrinted
lines_printed (line ∷ lines) h =
    All-cons ArePrinted (map shown_item (marks_items line)) (map (map shown_item) (map marks_items lines))
    (line_printed line (marks_front line (joined_lines lines) h))
    (lines_printed lines (marks_back line (joined_lines lines) h))

letters_printed : {S : Type 0} (width : ℕ) (ls : List (Letter (Rider S))) → All ArePrinted (shown_lines width ls)
letters_printed width ls =
    let lines = all_lines (add_units width (units ls)) in
    let whole = (filled_is_fullest width true (units ls) (inl refl)
    (letters_there (units ls) (units_have_letters ls))).layout.whole in
    lines_printed lines (marks_printed (joined_lines lines) (subst (All IsPrintedLetter)
    (sym (ap letters_in whole ∙ units_marked width (units ls) ∙ units_letters ls)) (standing_printed ls)))

-- ---- the lines of the text

settled_printed : {S : Type 0} (front : List (Item S)) (lines : List (List (Item S))) → ArePrinted front
    → All ArePrinted lines → All ArePrinted (settled_lines front lines)
settled_printed front [] before all = All-nil ArePrinted
settled_printed front (line ∷ lines) before all =
    let here = printed_both front line before (All-head ArePrinted line lines all) in
    let rest = All-tail ArePrinted line lines all in
    cond_both (has_text line) ((front ++ line) ∷ settled_lines [] lines) (settled_lines (front ++ line) lines)
    (All ArePrinted)
    (λ e. All-cons ArePrinted (front ++ line) (settled_lines [] lines) here
    (settled_printed [] lines none_printed rest))
    (λ e. settled_printed (front ++ line) lines here rest)

pub normal_lines_printed : {S : Type 0} (width : ℕ) (source : List (Source S))
    → All ArePrinted (normal_lines width source)
unfolding normal_lines
normal_lines_printed width source =
    settled_printed [] (shown_lines width (carried width source).letters) none_printed
    (letters_printed width (carried width source).letters)
