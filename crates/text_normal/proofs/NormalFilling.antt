-- The lines of the code are those of the filling functions.
use Rattle.std.proofs.Common.{◌≡◌, ◌+◌, ◌<◌, ◌≤◌, [], ◌∷◌, ◌++◌, ◌∙◌, Bool, List, ap, append_assoc, arith, false, fold}
use Rattle.std.proofs.Common.{get_or, length, map, nat_le, refl, subst, sym, take, true, ℕ}
use Rattle.std.specs.Prelude.{Option, All, if◌then◌else◌}
use Rattle.std.proofs.lemmas.List.{append-nil, map-append}
use Rattle.std.proofs.lemmas.List.Elements.{All-push}
use Rattle.std.proofs.lemmas.List.Sums.{fold-append}
use Rattle.std.proofs.lemmas.Bool.Decides.{nat_tests}
use Rattle.text_lines.specs.Columns.{width_of}
use Rattle.text_lines.specs.Tagged.{IsJoined, Item, character, element_items, elements_items, line_columns, line_items}
use Rattle.text_lines.specs.Tagged.{marker, tagged}
use Rattle.text_lines.specs.declared.tagged_string.TaggedLineElement.{TaggedLineElement}
use Rattle.text_lines.specs.declared.tagged_line.TaggedLine.{TaggedLine}
use Rattle.text_lines.proofs.Joins.{elements_items-append}
use Rattle.text_normal.specs.Units.{Letter, letters_columns}
use Rattle.text_normal.specs.Layout.{Mark, columns, cuttable, following_columns, gap, inside, marked, marks_items}
use Rattle.text_normal.specs.Layout.{opens, starts}
use Rattle.text_normal.specs.Greedy.{Filled, filled, ended, all_lines, add_marks, add_mark}
use Rattle.text_normal.specs.NormalStates.{AreGapless, Cuts, HoldsLines, Lays, LaysCut, LaysUnit, LaysWhole, ShowsAs}
use Rattle.text_normal.specs.NormalStates.{letter_items, space_after, space_columns, with_room}
use Rattle.text_normal.specs.declared.filling.Filling.{Filling}
use Rattle.text_pieces.proofs.ElementLemmas.{next_taken}
use Rattle.text_normal.proofs.NormalItems.{after_items, columns_after, cut_shows, items_after, letters_counted}
use Rattle.text_normal.proofs.NormalItems.{lone_columns, lone_items, marks_counted, unit_columns, unit_items}

pub if_true : {A : Type 0} (b : Bool) (x y : A) → b ≡ true → (if b then x else y) ≡ x
if_true true x y h = refl
if_true false x y h = cc

pub if_false : {A : Type 0} (b : Bool) (x y : A) → b ≡ false → (if b then x else y) ≡ y
if_false true x y h = cc
if_false false x y h = refl

if_same : {A : Type 0} (b : Bool) (x y z : A) → x ≡ z → y ≡ z → (if b then x else y) ≡ z
if_same true x y z hx hy = hx
if_same false x y z hx hy = hy

pub below : (a b : ℕ) → a ≤ b → nat_le a b ≡ true
below a b h = grind (arith, nat_tests)

above : (a b : ℕ) → b < a → nat_le a b ≡ false
above a b h = grind (arith, nat_tests)

-- ---- room on a line

room_test : {T S : Type 0} (seen : T → S) (width : ℕ) (overflow : Bool) (filling : Filling T) (f : Filled S) (more : ℕ)
    → HoldsLines seen width overflow filling f
    → nat_le (line_columns (line_items seen filling.line) + more) filling.width ≡ nat_le (columns f.line + more) width
room_test seen width overflow filling f more h =
    ap (λ w. nat_le (line_columns (line_items seen filling.line) + more) w) h.same_width
    ∙ ap (λ n. nat_le (n + more) width) (ap line_columns h.line ∙ marks_counted f.line)

pub roomy : {T S : Type 0} (seen : T → S) (old : Filling T) (more : ℕ)
    → true ≡ nat_le (line_columns (line_items seen old.line) + more) old.width → Lays seen old old (with_room more)
roomy seen old more test =
    record {
      lays = λ width overflow f h.
          subst (HoldsLines seen width overflow old)
          (sym (if_true (nat_le (columns f.line + more) width) f (filled (all_lines f) [])
          (sym (room_test seen width overflow old f more h) ∙ sym test))) h;
    }

pub without_room : {T S : Type 0} (seen : T → S) (old new : Filling T) (more : ℕ)
    → false ≡ nat_le (line_columns (line_items seen old.line) + more) old.width
    → Lays seen old new (λ width f. filled (all_lines f) [])
    → Lays seen old new (with_room more)
without_room seen old new more test ended_line =
    record {
      lays = λ width overflow f h.
          subst (HoldsLines seen width overflow new)
          (sym (if_false (nat_le (columns f.line + more) width) f (filled (all_lines f) [])
          (sym (room_test seen width overflow old f more h) ∙ sym test))) (ended_line.lays width overflow f h);
    }

-- letters after those of the line at hand
abbrev pub pushed : {S : Type 0} → Filled S → List (Mark S) → Filled S
pushed f ms = filled f.done (f.line ++ ms)

same_filled : {S : Type 0} (done other : List (List (Mark S))) (line : List (Mark S)) → done ≡ other
    → filled done line ≡ filled other line
same_filled done other line h = ap (λ d. filled d line) h

push_if : {S : Type 0} (b : Bool) (f g : Filled S) (ms : List (Mark S))
    → pushed (if b then f else g) ms ≡ (if b then pushed f ms else pushed g ms)
push_if true f g ms = refl
push_if false f g ms = refl

-- letters are added where room was made
add_by_room : {S : Type 0} (width : ℕ) (done : List (List (Mark S))) (line ms : List (Mark S)) (more : ℕ)
    → following_columns ms ≡ more
    → add_marks width (filled done line) ms ≡ pushed (with_room more width (filled done line)) ms
add_by_room width done [] ms more h =
    let none = append-nil done in
    let left = if_same (nat_le (columns ms) width) (filled done ms) (filled (done ++ []) ms) (filled done ms) refl
    (same_filled (done ++ []) done ms none) in
    let right = push_if (nat_le (0 + more) width) (filled done []) (filled (done ++ []) []) ms
    ∙ if_same (nat_le (0 + more) width) (filled done ms) (filled (done ++ []) ms) (filled done ms) refl
    (same_filled (done ++ []) done ms none) in
    left ∙ sym right
add_by_room width done (n ∷ ns) ms more h =
    let test = ap (λ k. nat_le k width) (columns_after n ns ms ∙ ap (λ k. columns (n ∷ ns) + k) h) in
    ap (λ b. if b then filled done ((n ∷ ns) ++ ms) else filled (done ++ (n ∷ ns) ∷ []) ms) test
    ∙ sym (push_if (nat_le (columns (n ∷ ns) + more) width) (filled done (n ∷ ns)) (filled (done ++ (n ∷ ns) ∷ []) [])
    ms)

-- what a call holds that added letters to the line
pub holds_pushed : {T S : Type 0} (seen : T → S) (width : ℕ) (overflow : Bool) (old new : Filling T) (f : Filled S)
    (ms : List (Mark S)) → HoldsLines seen width overflow old f → new.width ≡ old.width
    → new.allow_overflow ≡ old.allow_overflow → new.done.items ≡ old.done.items
    → line_items seen new.line ≡ line_items seen old.line ++ after_items f.line ms
    → (IsJoined seen old.line → IsJoined seen new.line) → HoldsLines seen width overflow new (pushed f ms)
holds_pushed seen width overflow old new f ms h w o d added joins =
    record {
      same_width = w ∙ h.same_width;
      same_overflow = o ∙ h.same_overflow;
      done = ap (map (line_items seen)) d ∙ h.done;
      line = added ∙ ap (λ items. items ++ after_items f.line ms) h.line ∙ sym (items_after f.line ms);
      joined = record { done = subst (All (IsJoined seen)) (sym d) h.joined.done; line = joins h.joined.line };
    }

-- ---- the line is ended

ended_shows : {S : Type 0} (line : List (Mark S)) (items : List (Item S)) → items ≡ marks_items line → (items ≡ [] → ⊥)
    → items ∷ [] ≡ map marks_items (ended line)
ended_shows [] items is some = absurd (some is)
ended_shows (m ∷ ms) items is some = ap (λ i. i ∷ []) is

pub line_ended : {T S : Type 0} (seen : T → S) (old new : Filling T) (line : TaggedLine T) → line ≡ old.line
    → new.width ≡ old.width → new.allow_overflow ≡ old.allow_overflow
    → new.done.items ≡ old.done.items ++ line ∷ [] → (line_items seen old.line ≡ [] → ⊥) → line_items seen new.line ≡ []
    → IsJoined seen new.line → Lays seen old new (λ width f. filled (all_lines f) [])
line_ended seen old new line line_is w o d some none joined =
    let pushed_is : new.done.items ≡ old.done.items ++ old.line ∷ [] = d ∙ ap (λ l. old.done.items ++ l ∷ []) line_is in
    record {
      lays = λ width overflow f h.
          record {
            same_width = w ∙ h.same_width;
            same_overflow = o ∙ h.same_overflow;
            done = ap (map (line_items seen)) pushed_is ∙ map-append (line_items seen) old.done.items (old.line ∷ [])
                ∙ ap (λ front. front ++ line_items seen old.line ∷ []) h.done
                ∙ ap (λ last. map marks_items f.done ++ last)
                (ended_shows f.line (line_items seen old.line) h.line some)
                ∙ sym (map-append marks_items f.done (ended f.line));
            line = none;
            joined = record {
              done = subst (All (IsJoined seen)) (sym pushed_is)
                  (All-push (IsJoined seen) old.done.items old.line h.joined.done h.joined.line);
              line = joined;
            };
          };
    }

-- ---- a unit that fits a line

pub unit_pushed : {T S : Type 0} (seen : T → S) (old mid new : Filling T) (space : Option S) (word : List (Item S))
    (gap_columns word_columns : ℕ)
    → gap_columns ≡ space_columns space → word_columns ≡ line_columns word
    → Lays seen old mid (with_room (gap_columns + word_columns))
    → new.width ≡ mid.width → new.allow_overflow ≡ mid.allow_overflow → new.done.items ≡ mid.done.items
    → line_items seen new.line ≡ line_items seen mid.line ++ space_after (line_items seen mid.line) space ++ word
    → (IsJoined seen mid.line → IsJoined seen new.line)
    → LaysWhole seen old new space word
unit_pushed seen old mid new space word gap_columns word_columns gap_is word_is made w o d added joins =
    record {
      lays_whole = λ l ls is.
          record {
            lays = λ width overflow f h.
                let ms = marked (opens space) inside (l ∷ ls) in
                let more = unit_columns space ls l ∙ ap (λ k. k + letters_columns (l ∷ ls)) (sym gap_is)
                ∙ ap (λ k. gap_columns + k) (sym (word_is ∙ ap line_columns is ∙ letters_counted (l ∷ ls))) in
                let g = with_room (gap_columns + word_columns) width f in
                let held = made.lays width overflow f h in
                let items = added ∙ append_assoc (line_items seen mid.line)
                (space_after (line_items seen mid.line) space) word
                ∙ ap (λ line. line_items seen mid.line ++ (space_after line space ++ word)) held.line
                ∙ ap (λ rest. line_items seen mid.line ++ (space_after (marks_items g.line) space ++ rest)) is
                ∙ ap (λ rest. line_items seen mid.line ++ rest) (sym (unit_items g.line space l ls)) in
                subst (HoldsLines seen width overflow new)
                (sym (add_by_room width f.done f.line ms (gap_columns + word_columns) more))
                (holds_pushed seen width overflow mid new g ms held w o d items joins);
          };
    }

-- ---- a unit that is cut

-- letters that show as two lists of items, divided as these are
record Divided {S : Type 0} (ms : List (Mark S)) (xs ys : List (Item S)) : Type 0 where
  front : List (Mark S)
  rest : List (Mark S)
  whole : ms ≡ front ++ rest
  first : ShowsAs front xs
  second : ShowsAs rest ys

further : {S : Type 0} (m : Mark S) (ms : List (Mark S)) (x : Item S) (xs ys : List (Item S)) → gap m.joint ≡ 0
    → character m.letter.code m.letter.tag ≡ x → Divided ms xs ys → Divided (m ∷ ms) (x ∷ xs) ys
further m ms x xs ys gapless same d =
    record {
      front = m ∷ d.front;
      rest = d.rest;
      whole = ap (λ rest. m ∷ rest) d.whole;
      first = record {
        gapless = (gapless, d.first.gapless);
        shown = ap
            (λ i. i ∷ map (λ (n : Mark _). character n.letter.code n.letter.tag) d.front) same
            ∙ ap (λ rest. x ∷ rest) d.first.shown;
      };
      second = d.second;
    }

divided : {S : Type 0} (ms : List (Mark S)) (xs ys : List (Item S)) → AreGapless ms
    → map (λ (m : Mark S). character m.letter.code m.letter.tag) ms ≡ xs ++ ys → Divided ms xs ys
divided ms [] ys gapless shown = record {
  front = [];
  rest = ms;
  whole = refl;
  first = record { gapless = tt; shown = refl };
  second = record { gapless = gapless; shown = shown };
}
divided [] (x ∷ xs) ys gapless shown = cc
divided (m ∷ ms) (x ∷ xs) ys gapless shown =
    let head : character m.letter.code m.letter.tag ≡ x = cc in
    let tail : map (λ (n : Mark _). character n.letter.code n.letter.tag) ms ≡ xs ++ ys = cc in
    further m ms x xs ys gapless.0 head (divided ms xs ys gapless.1 tail)

pub cuts_more : {T S : Type 0} (seen : T → S) (old mid new : Filling T) (xs ys : List (Item S)) → Cuts seen old mid xs
    → Cuts seen mid new ys → Cuts seen old new (xs ++ ys)
cuts_more seen old mid new xs ys first second =
    record {
      cuts = λ ms shows.
          let d = divided ms xs ys shows.gapless shows.shown in
          record {
            lays = λ width overflow f h.
                subst (HoldsLines seen width overflow new)
                (sym (ap (fold (add_mark width) f) d.whole ∙ fold-append (add_mark width) f d.front d.rest))
                (((second.cuts d.rest d.second).lays) width overflow (fold (add_mark width) f d.front)
                (((first.cuts d.front d.first).lays) width overflow f h));
          };
    }

nothing_shown : {S : Type 0} (ms : List (Mark S)) → map (λ (m : Mark S). character m.letter.code m.letter.tag) ms ≡ []
    → ms ≡ []
nothing_shown [] h = refl
nothing_shown (m ∷ ms) h = cc

pub cuts_nothing : {T S : Type 0} (seen : T → S) (old : Filling T) → Cuts seen old old []
cuts_nothing seen old =
    record {
      cuts = λ ms shows. record {
        lays = λ width overflow f h. subst (HoldsLines seen width overflow old)
            (sym (ap (fold (add_mark width) f) (nothing_shown ms shows.shown))) h;
      };
    }

no_marker : {S : Type 0} (ms : List (Mark S)) (name : List ℕ)
    → map (λ (m : Mark S). character m.letter.code m.letter.tag) ms ≡ marker name ∷ [] → ⊥
no_marker [] name h = cc
no_marker (m ∷ ms) name h = cc

-- a word has no markers
pub cuts_marker : {T S : Type 0} (seen : T → S) (old : Filling T) (name : List ℕ) → Cuts seen old old (marker name ∷ [])
cuts_marker seen old name = record { cuts = λ ms shows. absurd (no_marker ms name shows.shown) }

lone : {T S : Type 0} (seen : T → S) (old mid new : Filling T) (m : Mark S) (code : ℕ) (tag : S) (letter_columns : ℕ)
    → gap m.joint ≡ 0 → m.letter.code ≡ code → m.letter.tag ≡ tag → letter_columns ≡ width_of code
    → Lays seen old mid (with_room (0 + letter_columns))
    → new.width ≡ mid.width → new.allow_overflow ≡ mid.allow_overflow → new.done.items ≡ mid.done.items
    → line_items seen new.line ≡ line_items seen mid.line ++ character code tag ∷ []
    → (IsJoined seen mid.line → IsJoined seen new.line)
    → (width : ℕ) (overflow : Bool) (f : Filled S) → HoldsLines seen width overflow old f
    → HoldsLines seen width overflow new (add_mark width f m)
lone seen old mid new m code tag letter_columns gapless code_is tag_is columns_are made w o d added joins width overflow
    f h =
    let more = lone_columns m gapless ∙ ap (λ c. 0 + width_of c) code_is ∙ ap (λ k. 0 + k) (sym columns_are) in
    let g = with_room (0 + letter_columns) width f in
    let items = added ∙ ap (λ c. line_items seen mid.line ++ character c tag ∷ []) (sym code_is)
    ∙ ap (λ t. line_items seen mid.line ++ character m.letter.code t ∷ []) (sym tag_is)
    ∙ ap (λ rest. line_items seen mid.line ++ rest) (sym (lone_items g.line m gapless)) in
    subst (HoldsLines seen width overflow new) (sym (add_by_room width f.done f.line (m ∷ [])
    (0 + letter_columns) more))
    (holds_pushed seen width overflow mid new g (m ∷ []) (made.lays width overflow f h) w o d items joins)

lone_list : {T S : Type 0} (seen : T → S) (old mid new : Filling T) (ms : List (Mark S)) (code : ℕ) (tag : S)
    (letter_columns : ℕ)
    → AreGapless ms → map (λ (m : Mark S). character m.letter.code m.letter.tag) ms ≡ character code tag ∷ []
    → letter_columns ≡ width_of code → Lays seen old mid (with_room (0 + letter_columns))
    → new.width ≡ mid.width → new.allow_overflow ≡ mid.allow_overflow → new.done.items ≡ mid.done.items
    → line_items seen new.line ≡ line_items seen mid.line ++ character code tag ∷ []
    → (IsJoined seen mid.line → IsJoined seen new.line)
    → (width : ℕ) (overflow : Bool) (f : Filled S) → HoldsLines seen width overflow old f
    → HoldsLines seen width overflow new (fold (add_mark width) f ms)
lone_list seen old mid new [] code tag letter_columns gapless shown columns_are made w o d added joins width overflow f
    h = cc
lone_list seen old mid new (m ∷ n ∷ ms) code tag letter_columns gapless shown columns_are made w o d added joins width
    overflow f h = cc
lone_list seen old mid new (m ∷ []) code tag letter_columns gapless shown columns_are made w o d added joins width
    overflow f h =
    let code_is : m.letter.code ≡ code = cc in
    let tag_is : m.letter.tag ≡ tag = cc in
    lone seen old mid new m code tag letter_columns gapless.0 code_is tag_is columns_are made w o d added joins width
    overflow f h

pub cuts_letter : {T S : Type 0} (seen : T → S) (old mid new : Filling T) (code : ℕ) (tag : S) (letter_columns : ℕ)
    → letter_columns ≡ width_of code → Lays seen old mid (with_room (0 + letter_columns))
    → new.width ≡ mid.width → new.allow_overflow ≡ mid.allow_overflow → new.done.items ≡ mid.done.items
    → line_items seen new.line ≡ line_items seen mid.line ++ tagged (code ∷ []) tag
    → (IsJoined seen mid.line → IsJoined seen new.line)
    → Cuts seen old new (tagged (code ∷ []) tag)
cuts_letter seen old mid new code tag letter_columns columns_are made w o d added joins =
    record {
      cuts = λ ms shows. record {
        lays = lone_list seen old mid new ms code tag letter_columns shows.gapless
            shows.shown columns_are made w o d added joins;
      };
    }

pub cut_laid : {T S : Type 0} (seen : T → S) (old mid new : Filling T) (items : List (Item S))
    → Lays seen old mid (λ width f. filled (all_lines f) []) → Cuts seen mid new items → LaysCut seen old new items
cut_laid seen old mid new items fresh cut =
    record {
      lays_cut = λ ms shows. record {
        lays = λ width overflow f h. ((cut.cuts ms shows).lays) width overflow
            (filled (all_lines f) []) (fresh.lays width overflow f h);
      };
    }

-- ---- whole or cut

fits_line : {S : Type 0} (word : List (Item S)) (ls : List (Letter S)) (n w width : ℕ) → n ≡ line_columns word
    → word ≡ letter_items ls → w ≡ width → n ≤ w → nat_le (letters_columns ls) width ≡ true
fits_line word ls n w width word_is is same low =
    let all = word_is ∙ ap line_columns is ∙ letters_counted ls in
    below (letters_columns ls) width (omega (arith, all, same, low))

wider_line : {S : Type 0} (word : List (Item S)) (ls : List (Letter S)) (n w width : ℕ) → n ≡ line_columns word
    → word ≡ letter_items ls → w ≡ width → w < n → nat_le (letters_columns ls) width ≡ false
wider_line word ls n w width word_is is same high =
    let all = word_is ∙ ap line_columns is ∙ letters_counted ls in
    above (letters_columns ls) width (omega (arith, all, same, high))

pub whole_unit : {T S : Type 0} (seen : T → S) (old new : Filling T) (space : Option S) (word : List (Item S)) (n : ℕ)
    → n ≡ line_columns word → n ≤ old.width → LaysWhole seen old new space word → LaysUnit seen old new space word
whole_unit seen old new space word n word_is low laid =
    record {
      lays_unit = λ l ls is.
          record {
            lays = λ width overflow f h.
                subst (HoldsLines seen width overflow new)
                (sym (if_true (nat_le (letters_columns (l ∷ ls)) width)
                (add_marks width f (marked (opens space) inside (l ∷ ls)))
                (fold (add_mark width) (filled (all_lines f) []) (marked starts cuttable (l ∷ ls)))
                (fits_line word (l ∷ ls) n old.width width word_is is h.same_width low)))
                (((laid.lays_whole l ls is).lays) width overflow f h);
          };
    }

pub cut_unit : {T S : Type 0} (seen : T → S) (old new : Filling T) (space : Option S) (word : List (Item S)) (n : ℕ)
    → n ≡ line_columns word → old.width < n → LaysCut seen old new word → LaysUnit seen old new space word
cut_unit seen old new space word n word_is high laid =
    record {
      lays_unit = λ l ls is.
          record {
            lays = λ width overflow f h.
                subst (HoldsLines seen width overflow new)
                (sym (if_false (nat_le (letters_columns (l ∷ ls)) width)
                (add_marks width f (marked (opens space) inside (l ∷ ls)))
                (fold (add_mark width) (filled (all_lines f) []) (marked starts cuttable (l ∷ ls)))
                (wider_line word (l ∷ ls) n old.width width word_is is h.same_width high)))
                (((laid.lays_cut (marked starts cuttable (l ∷ ls))
                (subst (λ items. ShowsAs (marked starts cuttable (l ∷ ls)) items) (sym is) (cut_shows l ls))).lays)
                width overflow f h);
          };
    }

-- ---- loops

pub next_letter : {T S Y : Type 0} (seen : T → S) (old mid new : Filling T) (cs : List ℕ) (ys : List Y) (y : Y) (c : ℕ)
    (tag : S) → (length ys < length cs) × (c ≡ get_or cs (length ys) c)
    → Cuts seen old mid (tagged (take (length ys) cs) tag) → Cuts seen mid new (tagged (c ∷ []) tag)
    → Cuts seen old new (tagged (take (length (ys ++ y ∷ [])) cs) tag)
next_letter seen old mid new cs ys y c tag turn so_far cut =
    subst (Cuts seen old new) (sym (ap (λ front. tagged front tag) (next_taken cs ys y c turn)
    ∙ map-append (λ code. character code tag) (take (length ys) cs) (c ∷ [])))
    (cuts_more seen old mid new (tagged (take (length ys) cs) tag) (tagged (c ∷ []) tag) so_far cut)

pub next_element : {T S Y : Type 0} (seen : T → S) (old mid new : Filling T) (es : List (TaggedLineElement T))
    (ys : List Y) (y : Y) (e : TaggedLineElement T) → (length ys < length es) × (e ≡ get_or es (length ys) e)
    → Cuts seen old mid (elements_items seen (take (length ys) es)) → Cuts seen mid new (element_items seen e)
    → Cuts seen old new (elements_items seen (take (length (ys ++ y ∷ [])) es))
next_element seen old mid new es ys y e turn so_far cut =
    subst (Cuts seen old new) (sym (ap (elements_items seen) (next_taken es ys y e turn) ∙ elements_items-append seen
    (take (length ys) es) (e ∷ []) ∙ ap (λ last. elements_items seen (take (length ys) es) ++ last)
    (append-nil (element_items seen e))))
    (cuts_more seen old mid new (elements_items seen (take (length ys) es)) (element_items seen e) so_far cut)
