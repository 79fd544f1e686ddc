-- What a block makes of what was read is the fullest layout, and what it refuses has none.
use Rattle.std.proofs.Common.{◌≡◌, ◌≤◌, ◌⊎◌, ◌||◌, ◌++◌, ◌∙◌, Bool, List, ap, append_assoc, arith, false, get_or, inl}
use Rattle.std.proofs.Common.{inr, map, nat_le, refl, subst, sym, true, ℕ}
use Rattle.std.specs.Prelude.{Result, Ok, Err, IfOk, All}
use Rattle.std.proofs.lemmas.Bool.Decides.{nat_tests}
use Rattle.text_lines.specs.Columns.{width_of}
use Rattle.text_lines.specs.Tagged.{Item, line_columns}
use Rattle.text_normal.specs.Units.{Letter, is_break_point, units}
use Rattle.text_normal.specs.Layout.{AreLinesOf, NeverFits, HasNoLayout, marks, marks_items}
use Rattle.text_normal.specs.Greedy.{all_lines, add_units}
use Rattle.text_normal.specs.Filling.{read_letters, nothing_read, lines_read, last_filled}
use Rattle.text_normal.specs.NormalStates.{HasRead, HasWider, AllHaveRoom, HoldsLines, Moves, lay_read}
use Rattle.text_normal.specs.declared.normal.NormalText.{NormalText}
use Rattle.text_normal.proofs.NormalReading.{laid_lines}
use Rattle.text_normal.proofs.LayoutWidths.{no_layout_of_wider, lines_keep_the_width}
use Rattle.std.proofs.lemmas.List.Elements.{All-map}
use Rattle.text_normal.proofs.LayoutFilling.{filled_is_fullest, letters_there}
use Rattle.text_normal.proofs.UnitsLetters.{unit_letters_fit, units_have_letters}
use Rattle.text_normal.proofs.UnitsMarks.{are_lines, never_fits}
use Rattle.text_normal.proofs.UnitsReading.{read_is_units}

-- ---- the lines

low_test : (b : Bool) (n w : ℕ) → (b || nat_le n w) ≡ true → b ≡ false → n ≤ w
low_test true n w h e = cc
low_test false n w h e = grind (arith, nat_tests)

pub letters_fit : {S : Type 0} (width : ℕ) (overflow : Bool) (read : List (Letter S)) → AllHaveRoom width overflow read
    → (overflow ≡ true) ⊎ All (λ l. is_break_point l.code ≡ false → width_of l.code ≤ width) read
letters_fit width true read h = inl refl
letters_fit width false read h = inr (λ k d inside. low_test (is_break_point (get_or read k d).code)
    (width_of (get_or read k d).code) width (h k d inside))

pub units_fit : {S : Type 0} (width : ℕ) (overflow : Bool) (read : List (Letter S)) → (overflow ≡ true) ⊎ All
    (λ l. is_break_point l.code ≡ false → width_of l.code ≤ width) read
    → (overflow ≡ true) ⊎ All (λ p. All (λ l. width_of l.code ≤ width) p.letters) (units read)
units_fit width overflow read (inl over) = inl over
units_fit width overflow read (inr fit) = inr (unit_letters_fit width read fit)

pub lines_are : {S : Type 0} (width : ℕ) (overflow : Bool) (read : List (Letter S)) → AllHaveRoom width overflow read
    → AreLinesOf width overflow read (map marks_items (lines_read width (read_letters width nothing_read read)))
lines_are width overflow read room =
    are_lines width overflow read (filled_is_fullest width overflow (units read)
    (units_fit width overflow read (letters_fit width overflow read room))
    (letters_there (units read) (units_have_letters read)))

-- ---- what is refused

pub wider_never : {S : Type 0} (width : ℕ) (overflow : Bool) (ls : List (Letter S)) → HasWider width overflow ls
    → NeverFits width false ls
wider_never width overflow ls w = never_fits width (no_layout_of_wider width) ls w.front w.back w.letter w.whole
    w.stands w.wider

pub never_after : {S : Type 0} (width : ℕ) (read ls : List (Letter S)) → NeverFits width false ls
    → NeverFits width false (read ++ ls)
never_after width read ls never before after =
    subst (λ xs. HasNoLayout width false (marks width xs)) (append_assoc before read (ls ++ after)
    ∙ ap (λ xs. before ++ xs) (sym (append_assoc read ls after))) (never (before ++ read) after)

pub never_before : {S : Type 0} (width : ℕ) (ls rest : List (Letter S)) → NeverFits width false ls
    → NeverFits width false (ls ++ rest)
never_before width ls rest never before after =
    subst (λ xs. HasNoLayout width false (marks width xs)) (ap (λ xs. before ++ xs) (sym (append_assoc ls rest after)))
    (never before (rest ++ after))

-- ---- the code's lines

pub filled_lines : {T S : Type 0} (seen : T → S) (old mid : NormalText T) (lines : List (List (Item S)))
    → Moves seen old mid lay_read
    → ((width : ℕ) (overflow : Bool) (f : _) → HoldsLines seen width overflow mid.lines f → lines ≡ map marks_items
    (all_lines f))
    → (width : ℕ) (overflow : Bool) (read : List (Letter S)) → HasRead seen width overflow read old
    → lines ≡ map marks_items (all_lines (add_units width (units read)))
filled_lines seen old mid lines laid given width overflow read h =
    given width overflow (last_filled width (read_letters width nothing_read read))
    (laid_lines seen old mid laid width overflow read h) ∙ ap (map marks_items) (read_is_units width read)

-- ---- the width

pub lines_within : {S : Type 0} (width : ℕ) (read : List (Letter S)) (lines : List (List (Item S)))
    → AreLinesOf width false read lines → All (λ items. line_columns items ≤ width) lines
lines_within width read lines are =
    subst (All (λ items. line_columns items ≤ width)) (sym are.shown)
    (All-map (λ items. line_columns items ≤ width) marks_items are.layout
    (lines_keep_the_width width (marks width read) are.layout are.fullest.layout))

pub if_ok_map : {T E : Type 0} (P Q : T → Type 0) (r : Result T E) → ((x : T) → P x → Q x) → IfOk r P → IfOk r Q
if_ok_map P Q (Ok x) f h = f x h
if_ok_map P Q (Err e) f h = tt
