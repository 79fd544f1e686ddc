-- A space after a text that ends in visible ASCII changes none of its lines; and lines that end with a text.
use Rattle.std.proofs.Common.{◌≡◌, ◌≢◌, ◌<◌, [], ◌∷◌, ◌++◌, ◌∙◌, Bool, List, ap, append-nil, append_assoc, arith, false}
use Rattle.std.proofs.Common.{inl, inr, length, map, refl, subst, sym, true, ℕ}
use Rattle.std.specs.Prelude.{Result, Ok, Err, IfOk, Option, Some, is_some, All, IsTrue, if◌then◌else◌}
use Rattle.std.proofs.lemmas.List.{length-append, map-append}
use Rattle.std.proofs.lemmas.List.Sums.{fold-append}
use Rattle.text_lines.specs.Columns.{columns_of, columns_of-one, width_of}
use Rattle.text_lines.specs.Tagged.{line_items, IsJoined}
use Rattle.text_lines.specs.declared.tagged_line.TaggedLine.{TaggedLine}
use Rattle.text_pieces.specs.Sources.{is_filled}
use Rattle.text_normal.specs.SpacedWords.{IsVisible, EndsVisibly, IsEnded}
use Rattle.text_normal.specs.Units.{Letter, first_of, has_columns, is_break_point, lettered, letters_columns, piece}
use Rattle.text_normal.specs.Units.{space_of, units}
use Rattle.text_normal.specs.Layout.{marks_items}
use Rattle.text_normal.specs.Greedy.{Filled, all_lines, add_unit, add_units}
use Rattle.text_normal.specs.Filling.{Reading, reading, read_letter, read_letters, nothing_read, lines_read}
use Rattle.text_normal.specs.NormalStates.{HasRead, HasWider, AllHaveRoom, has_room, EndsAs}
use Rattle.text_normal.specs.declared.normal.NormalText.{NormalText}
use Rattle.text_normal.proofs.NormalFilling.{if_true}
use Rattle.text_normal.proofs.NormalReading.{positive, other_same, width_read}
use Rattle.text_normal.proofs.NormalRuns.{no_break_point}
use Rattle.text_normal.proofs.UnitsReading.{letters_columns-append, read_is_units}
use Rattle.text_normal.proofs.PieceLemmas.{all_parts}

-- ---- the lines

some_filled : {S : Type 0} (ls : List (Letter S)) (l : Letter S) → is_filled (ls ++ l ∷ []) ≡ true
some_filled [] l = refl
some_filled (x ∷ ls) l = refl

-- a space after a word with columns ends it, as the end does
space_ends : {S : Type 0} (width : ℕ) (lines : Filled S) (space : Option S) (ls : List (Letter S)) (l s : Letter S)
    → width_of l.code ≡ 1 → is_break_point s.code ≡ true
    → lines_read width (read_letter width (reading lines space (ls ++ l ∷ [])) s)
    ≡ lines_read width (reading lines space (ls ++ l ∷ []))
space_ends width lines space ls l s one breaks =
    let all = ls ++ l ∷ [] in
    let laid = add_unit width lines (piece space all) in
    let some : letters_columns all ≢ 0 = λ e. omega (arith, e, one, letters_columns-append ls (l ∷ [])) in
    ap (lines_read width)
    (if_true (is_break_point s.code) (if has_columns all then reading laid (space_of s) []
    else reading lines (first_of space (space_of s)) all)
    (reading lines space (if is_some (columns_of s.code) then all ++ s ∷ [] else all)) breaks
    ∙ if_true (has_columns all) (reading laid (space_of s) []) (reading lines (first_of space (space_of s)) all)
    (positive (letters_columns all) some))
    ∙ ap all_lines (sym (if_true (is_filled all) laid lines (some_filled ls l)))

visible_width : (c : ℕ) → IsVisible c → columns_of c ≡ Some 1
visible_width c visible = columns_of-one c (inr (omega (arith, visible.0), visible.1))

last_is_read : {S : Type 0} (width : ℕ) (read : List (Letter S)) (front : List ℕ) (last : ℕ) (tag : S) → IsVisible last
    → (r : Reading S) → r ≡ read_letters width nothing_read (read ++ lettered front tag)
    → read_letters width nothing_read (read ++ lettered (front ++ last ∷ []) tag)
    ≡ reading r.lines r.space (r.letters ++ record { code = last; tag = tag } ∷ [])
last_is_read width read front last tag visible r r_is =
    let l : Letter _ = record { code = last; tag = tag } in
    ap (λ ls. read_letters width nothing_read (read ++ ls)) (map-append _ front (last ∷ []))
    ∙ ap (read_letters width nothing_read) (sym (append_assoc read (lettered front tag) (l ∷ [])))
    ∙ fold-append (read_letter width) nothing_read (read ++ lettered front tag) (l ∷ [])
    ∙ ap (λ q. read_letter width q l) (sym r_is)
    ∙ other_same width r l true (no_break_point last visible.0 visible.1) (ap is_some (visible_width last visible))

visible_ends : {S : Type 0} (width : ℕ) (read : List (Letter S)) (cs : List ℕ) (tag : S) → EndsVisibly cs
    → lines_read width (read_letters width nothing_read (read ++ lettered (cs ++ 0x20 ∷ []) tag))
    ≡ lines_read width (read_letters width nothing_read (read ++ lettered cs tag))
visible_ends width read cs tag ends =
    let s : Letter _ = record { code = 0x20; tag = tag } in
    let l : Letter _ = record { code = ends.last; tag = tag } in
    let r = read_letters width nothing_read (read ++ lettered ends.front tag) in
    let held = ap (λ xs. read_letters width nothing_read (read ++ lettered xs tag)) ends.whole
    ∙ last_is_read width read ends.front ends.last tag ends.visible r refl in
    ap (λ ls. lines_read width (read_letters width nothing_read (read ++ ls))) (map-append _ cs (0x20 ∷ []))
    ∙ ap (λ ls. lines_read width (read_letters width nothing_read ls))
    (sym (append_assoc read (lettered cs tag) (s ∷ [])))
    ∙ ap (lines_read width) (fold-append (read_letter width) nothing_read (read ++ lettered cs tag) (s ∷ []))
    ∙ ap (λ q. lines_read width (read_letter width q s)) held
    ∙ space_ends width r.lines r.space r.letters l s
    (width_read ends.last 1 (visible_width ends.last ends.visible)) refl
    ∙ ap (lines_read width) (sym held)

ended_reads : {S : Type 0} (width : ℕ) (read : List (Letter S)) (cs ended : List ℕ) (tag : S) → IsEnded cs ended
    → lines_read width (read_letters width nothing_read (read ++ lettered ended tag))
    ≡ lines_read width (read_letters width nothing_read (read ++ lettered cs tag))
ended_reads width read cs ended tag (inl same) =
    ap (λ xs. lines_read width (read_letters width nothing_read (read ++ lettered xs tag))) same
ended_reads width read cs ended tag (inr is) =
    ap (λ xs. lines_read width (read_letters width nothing_read (read ++ lettered xs tag))) is.1
    ∙ visible_ends width read cs tag is.0

ended_lines : {S : Type 0} (width : ℕ) (read : List (Letter S)) (cs ended : List ℕ) (tag : S) → IsEnded cs ended
    → all_lines (add_units width (units (read ++ lettered ended tag)))
    ≡ all_lines (add_units width (units (read ++ lettered cs tag)))
ended_lines width read cs ended tag is =
    sym (read_is_units width (read ++ lettered ended tag)) ∙ ended_reads width read cs ended tag is
    ∙ read_is_units width (read ++ lettered cs tag)

-- ---- room

ended_room : {S : Type 0} (width : ℕ) (overflow : Bool) (read : List (Letter S)) (cs ended : List ℕ) (tag : S)
    → IsEnded cs ended → AllHaveRoom width overflow (read ++ lettered ended tag)
    → AllHaveRoom width overflow (read ++ lettered cs tag)
ended_room width overflow read cs ended tag (inl same) h =
    subst (λ xs. AllHaveRoom width overflow (read ++ lettered xs tag)) same h
ended_room width overflow read cs ended tag (inr is) h =
    let s : Letter _ = record { code = 0x20; tag = tag } in
    (all_parts (λ x. IsTrue (has_room width overflow x)) (read ++ lettered cs tag) (s ∷ [])
    (subst (AllHaveRoom width overflow)
    (ap (λ xs. read ++ lettered xs tag) is.1 ∙ ap (λ ls. read ++ ls) (map-append _ cs (0x20 ∷ []))
    ∙ sym (append_assoc read (lettered cs tag) (s ∷ []))) h)).0

wider_here : {S : Type 0} (width : ℕ) (overflow : Bool) (x l : Letter S) (xs : List (Letter S)) → x ≡ l
    → overflow ≡ false → is_break_point l.code ≡ false → width < width_of l.code → HasWider width overflow (x ∷ xs)
wider_here width overflow x l xs same not_allowed stands wider =
    record {
      front = [];
      letter = l;
      back = xs;
      whole = ap (λ y. y ∷ xs) same;
      not_allowed = not_allowed;
      stands = stands;
      wider = wider;
    }

wider_later : {S : Type 0} (width : ℕ) (overflow : Bool) (x : Letter S) (xs : List (Letter S))
    → HasWider width overflow xs → HasWider width overflow (x ∷ xs)
wider_later width overflow x xs h =
    record {
      front = x ∷ h.front;
      letter = h.letter;
      back = h.back;
      whole = ap (λ ys. x ∷ ys) h.whole;
      not_allowed = h.not_allowed;
      stands = h.stands;
      wider = h.wider;
    }

-- what is wider than the width is not a break point at the end
not_last : {S : Type 0} (width : ℕ) (overflow : Bool) (xs front back : List (Letter S)) (s l : Letter S)
    → is_break_point s.code ≡ true → xs ++ s ∷ [] ≡ front ++ l ∷ back → overflow ≡ false
    → is_break_point l.code ≡ false → width < width_of l.code → HasWider width overflow xs
not_last width overflow [] [] back s l breaks e not_allowed stands wider =
    let same : s ≡ l = cc in
    absurd (apart (is_break_point s.code) (is_break_point l.code) (ap (λ x. is_break_point x.code) same) breaks stands)
  where
    apart : (a b : Bool) → a ≡ b → a ≡ true → b ≡ false → ⊥
    apart a b same is not = cc
not_last width overflow [] (f ∷ front) back s l breaks e not_allowed stands wider =
    absurd (omega (arith, ap length e, length-append front (l ∷ back)))
not_last width overflow (x ∷ xs) [] back s l breaks e not_allowed stands wider =
    let same : x ≡ l = cc in wider_here width overflow x l xs same not_allowed stands wider
not_last width overflow (x ∷ xs) (f ∷ front) back s l breaks e not_allowed stands wider =
    let rest : xs ++ s ∷ [] ≡ front ++ l ∷ back = cc in
    wider_later width overflow x xs (not_last width overflow xs front back s l breaks rest not_allowed stands wider)

pub ended_wider : {S : Type 0} (width : ℕ) (overflow : Bool) (cs ended : List ℕ) (tag : S) → IsEnded cs ended
    → HasWider width overflow (lettered ended tag) → HasWider width overflow (lettered cs tag)
ended_wider width overflow cs ended tag (inl same) h =
    subst (λ xs. HasWider width overflow (lettered xs tag)) same h
ended_wider width overflow cs ended tag (inr is) h =
    let s : Letter _ = record { code = 0x20; tag = tag } in
    not_last width overflow (lettered cs tag) h.front h.back s h.letter refl
    (sym (ap (λ xs. lettered xs tag) is.1 ∙ map-append _ cs (0x20 ∷ [])) ∙ h.whole) h.not_allowed h.stands h.wider

-- ---- what lines end with

pub if_ok_two : {T E : Type 0} (P Q R : T → Type 0) (r : Result T E) → ((x : T) → P x → Q x → R x) → IfOk r P
    → IfOk r Q → IfOk r R
if_ok_two P Q R (Ok x) f p q = f x p q
if_ok_two P Q R (Err e) f p q = tt

pub ends_ended : {T S : Type 0} (seen : T → S) (block new : NormalText T) (cs ended : List ℕ) (tag : S)
    (lines : List (TaggedLine T)) → IsEnded cs ended
    → ((width : ℕ) (overflow : Bool) (read : List (Letter S)) → HasRead seen width overflow read block
    → HasRead seen width overflow (read ++ lettered ended tag) new)
    → ((width : ℕ) (overflow : Bool) (read : List (Letter S)) → HasRead seen width overflow read new
    → map (line_items seen) lines ≡ map marks_items (all_lines (add_units width (units read))))
    → ((width : ℕ) (overflow : Bool) (read : List (Letter S)) → HasRead seen width overflow read new
    → All (IsJoined seen) lines) → EndsAs seen block (lettered cs tag) lines
ends_ended seen block new cs ended tag lines is reads laid joined =
    record {
      laid = λ width overflow read h.
          laid width overflow (read ++ lettered ended tag) (reads width overflow read h)
          ∙ ap (map marks_items) (ended_lines width read cs ended tag is);
      room = λ width overflow read h.
          ended_room width overflow read cs ended tag is (reads width overflow read h).room;
      joined = λ width overflow read h.
          joined width overflow (read ++ lettered ended tag) (reads width overflow read h);
    }

-- lines without more after them
pub ends_here : {T S : Type 0} (seen : T → S) (block : NormalText T) (lines : List (TaggedLine T))
    → ((width : ℕ) (overflow : Bool) (read : List (Letter S)) → HasRead seen width overflow read block
    → map (line_items seen) lines ≡ map marks_items (all_lines (add_units width (units read))))
    → ((width : ℕ) (overflow : Bool) (read : List (Letter S)) → HasRead seen width overflow read block
    → All (IsJoined seen) lines) → EndsAs seen block [] lines
ends_here seen block lines laid joined =
    record {
      laid = λ width overflow read h.
          laid width overflow read h
          ∙ ap (λ ls. map marks_items (all_lines (add_units width (units ls)))) (sym (append-nil read));
      room = λ width overflow read h. subst (AllHaveRoom width overflow) (sym (append-nil read)) h.room;
      joined = joined;
    }

-- lines with a text after another
pub ends_after : {T S : Type 0} (seen : T → S) (block new : NormalText T) (front back all : List (Letter S))
    (lines : List (TaggedLine T)) → all ≡ front ++ back
    → ((width : ℕ) (overflow : Bool) (read : List (Letter S)) → HasRead seen width overflow read block
    → HasRead seen width overflow (read ++ front) new) → EndsAs seen new back lines → EndsAs seen block all lines
ends_after seen block new front back all lines all_is reads ends =
    let whole = λ (read : List (Letter _)). append_assoc read front back ∙ ap (λ ls. read ++ ls) (sym all_is) in
    record {
      laid = λ width overflow read h.
          ends.laid width overflow (read ++ front) (reads width overflow read h)
          ∙ ap (λ ls. map marks_items (all_lines (add_units width (units ls)))) (whole read);
      room = λ width overflow read h.
          subst (AllHaveRoom width overflow) (whole read)
          (ends.room width overflow (read ++ front) (reads width overflow read h));
      joined = λ width overflow read h. ends.joined width overflow (read ++ front) (reads width overflow read h);
    }
