-- Words after single spaces: how they are read, and laid on a line at once.
use Rattle.std.proofs.Common.{◌≡◌, ◌≢◌, ◌+◌, ◌≤◌, ◌||◌, [], ◌∷◌, ◌++◌, ◌∙◌, Bool, IsUtf8, List, ap, append-nil}
use Rattle.std.proofs.Common.{append_assoc, arith, chars, encode_utf8, false, fold, inr, length, nat_le, refl, subst}
use Rattle.std.proofs.Common.{sym, true, ℕ}
use Rattle.std.specs.Prelude.{Some, IsTrue, All}
use Rattle.std.specs.Option.{option_map}
use Rattle.std.proofs.lemmas.List.{length-append, map-append}
use Rattle.std.proofs.lemmas.List.Elements.{All-nil, All-cons, All-head, All-tail, All-append}
use Rattle.std.proofs.lemmas.List.Sums.{fold-append, sum_by-cons}
use Rattle.std.proofs.lemmas.Str.{chars_past_char}
use Rattle.text_lines.specs.Columns.{text_columns, width_of, columns_of-one}
use Rattle.text_lines.specs.Tagged.{character, line_items, line_columns, tagged, IsJoined}
use Rattle.text_normal.specs.SpacedWords.{IsVisible, IsWord, spaced, closed, HasWords}
use Rattle.text_normal.specs.Units.{Letter, piece, lettered, letters_columns}
use Rattle.text_normal.specs.Layout.{Mark, opens, inside, marked, columns, following_items}
use Rattle.text_normal.specs.Greedy.{Filled, filled, add_unit}
use Rattle.text_normal.specs.Filling.{Reading, reading, read_letter, read_letters}
use Rattle.text_normal.specs.NormalStates.{AllHaveRoom, AwaitsWord, HoldsLines, HoldsReading, JoinsWord, LaysWords}
use Rattle.text_normal.specs.NormalStates.{Reads, ReadsFront, TakesMore, has_room, word_pieces}
use Rattle.text_normal.specs.declared.filling.Filling.{Filling}
use Rattle.text_normal.specs.declared.normal.NormalText.{NormalText}
use Rattle.text_normal.proofs.NormalItems.{after_items, columns_after, following_items-append, marks_counted}
use Rattle.text_normal.proofs.NormalItems.{unit_columns, unit_items}
use Rattle.text_normal.proofs.NormalFilling.{if_true, below, pushed, holds_pushed}
use Rattle.text_normal.proofs.NormalReading.{break_room, width_read}
use Rattle.text_normal.proofs.NormalRuns.{visible_joins, run_room, lettered_items}
use Rattle.text_normal.proofs.NormalWords.{whole_read, lettered_columns, no_letters}

-- ---- columns of words

pub visible_columns : (cs : List ℕ) → All IsVisible cs → text_columns cs ≡ length cs
visible_columns [] all = refl
visible_columns (c ∷ cs) all =
    let head = All-head IsVisible c cs all in
    let one = width_read c 1 (columns_of-one c (inr (omega (arith, head.0), head.1))) in
    omega (arith, sum_by-cons width_of c cs, one, visible_columns cs (All-tail IsVisible c cs all))

pub some_columns : (cs : List ℕ) → IsWord cs → text_columns cs ≢ 0
some_columns [] w none = w.some refl
some_columns (c ∷ cs) w none = omega (arith, none, visible_columns (c ∷ cs) w.visible)

space_columns : width_of 0x20 ≡ 1
space_columns = width_read 0x20 1 (columns_of-one 0x20 (inr (omega arith, omega arith)))

pub text_columns-append : (xs ys : List ℕ) → text_columns (xs ++ ys) ≡ text_columns xs + text_columns ys
text_columns-append [] ys = omega arith
text_columns-append (x ∷ xs) ys =
    omega (arith, sum_by-cons width_of x (xs ++ ys), sum_by-cons width_of x xs, text_columns-append xs ys)

pub spaced_columns : (ws : List (List ℕ)) → All IsWord ws → text_columns (spaced ws) ≡ length (spaced ws)
spaced_columns [] all = refl
spaced_columns (w ∷ ws) all =
    let word = visible_columns w (All-head IsWord w ws all).visible in
    let rest = spaced_columns ws (All-tail IsWord w ws all) in
    omega (
      arith,
      sum_by-cons width_of 0x20 (w ++ spaced ws),
      space_columns,
      text_columns-append w (spaced ws),
      word,
      rest,
      length-append w (spaced ws),
    )

-- ---- words are read

pub all_join : {T : Type 0} (block : NormalText T) → (block.lines.allow_overflow || nat_le 1 block.lines.width) ≡ true
    → (cs : List ℕ) → All IsVisible cs → All (JoinsWord block) cs
all_join block room [] all = All-nil (JoinsWord block)
all_join block room (c ∷ cs) all =
    All-cons (JoinsWord block) c cs
    (visible_joins block c (block.lines.allow_overflow || nat_le 1 block.lines.width) (All-head IsVisible c cs all) refl
    room) (all_join block room cs (All-tail IsVisible c cs all))

pub words_read : {T S : Type 0} (block : NormalText T) (width : ℕ) (lines : Filled S) (tag : S) (ws : List (List ℕ))
    → (block.lines.allow_overflow || nat_le 1 block.lines.width) ≡ true → All IsWord ws
    → read_letters width (reading lines (Some tag) []) (lettered (closed ws) tag)
    ≡ reading (fold (add_unit width) lines (word_pieces tag ws)) (Some tag) []
words_read block width lines tag [] room all = refl
words_read block width lines tag (w ∷ ws) room all =
    let r = reading lines (Some tag) [] in
    let word = All-head IsWord w ws all in
    ap (read_letters width r) (map-append _ (w ++ 0x20 ∷ []) (closed ws))
    ∙ fold-append (read_letter width) r (lettered (w ++ 0x20 ∷ []) tag) (lettered (closed ws) tag)
    ∙ ap (λ q. read_letters width q (lettered (closed ws) tag))
    (whole_read block width r w 0x20 tag (all_join block room w word.visible) refl (some_columns w word) refl)
    ∙ words_read block width (add_unit width lines (piece (Some tag) (lettered w tag))) tag ws room
    (All-tail IsWord w ws all)

pub words_room : {T S : Type 0} (seen : T → S) (width : ℕ) (overflow : Bool) (old : NormalText T) (r : Reading S)
    (tag : S)
    (ws : List (List ℕ)) → HoldsReading seen width overflow old r
    → (old.lines.allow_overflow || nat_le 1 old.lines.width) ≡ true → All IsWord ws
    → AllHaveRoom width overflow (lettered (closed ws) tag)
words_room seen width overflow old r tag [] h room all = All-nil (λ x. IsTrue (has_room width overflow x))
words_room seen width overflow old r tag (w ∷ ws) h room all =
    let l : Letter _ = record { code = 0x20; tag = tag } in
    let fit : Letter _ → Type 0 = λ x. IsTrue (has_room width overflow x) in
    let word = All-head IsWord w ws all in
    let first = All-append fit (lettered w tag) (l ∷ [])
    (run_room seen width overflow old r w tag h (all_join old room w word.visible))
    (break_room width overflow l refl) in
    subst (AllHaveRoom width overflow) (sym (map-append _ (w ++ 0x20 ∷ []) (closed ws)))
    (All-append fit (lettered (w ++ 0x20 ∷ []) tag) (lettered (closed ws) tag)
    (subst (AllHaveRoom width overflow) (sym (map-append _ w (0x20 ∷ []))) first)
    (words_room seen width overflow old r tag ws h room (All-tail IsWord w ws all)))

-- ---- words are laid

pub tagged-append : {S : Type 0} (xs ys : List ℕ) (tag : S) → tagged (xs ++ ys) tag ≡ tagged xs tag ++ tagged ys tag
tagged-append xs ys tag = map-append _ xs ys

-- what words add to a line
pub record Fills {S : Type 0} (width : ℕ) (f : Filled S) (tag : S) (ws : List (List ℕ)) : Type 0 where
  pub marks : List (Mark S)
  pub whole : fold (add_unit width) f (word_pieces tag ws) ≡ pushed f marks
  pub items : after_items f.line marks ≡ tagged (spaced ws) tag

word_fits : {S : Type 0} (width : ℕ) (done : List (List (Mark S))) (n : Mark S) (ns : List (Mark S)) (tag : S) (c : ℕ)
    (cs : List ℕ) → columns (n ∷ ns) + (1 + letters_columns (lettered (c ∷ cs) tag)) ≤ width
    → (add_unit width (filled done (n ∷ ns)) (piece (Some tag) (lettered (c ∷ cs) tag))
    ≡ filled done ((n ∷ ns) ++ marked (opens (Some tag)) inside (lettered (c ∷ cs) tag)))
    × (columns ((n ∷ ns) ++ marked (opens (Some tag)) inside (lettered (c ∷ cs) tag))
    ≡ columns (n ∷ ns) + (1 + letters_columns (lettered (c ∷ cs) tag)))
word_fits width done n ns tag c cs fits =
    let ls = lettered (c ∷ cs) tag in
    let ms = marked (opens (Some tag)) inside ls in
    let more = unit_columns (Some tag) (lettered cs tag) (record { code = c; tag = tag }) in
    let counted : columns ((n ∷ ns) ++ ms) ≡ columns (n ∷ ns) + (1 + letters_columns ls) =
    columns_after n ns ms ∙ ap (λ k. columns (n ∷ ns) + k) more in
    let left = below (letters_columns ls) width (omega (arith, fits)) in
    let right = below (columns ((n ∷ ns) ++ ms)) width (omega (arith, fits, counted)) in (
      if_true (nat_le (letters_columns ls) width) _ _ left ∙
          if_true (nat_le (columns ((n ∷ ns) ++ ms)) width) _ _ right,
      counted,
    )

pub words_fill : {S : Type 0} (width : ℕ) (done : List (List (Mark S))) (line : List (Mark S)) (tag : S)
    (ws : List (List ℕ)) → columns line ≢ 0 → All IsWord ws → columns line + length (spaced ws) ≤ width
    → Fills width (filled done line) tag ws
words_fill width done [] tag ws some all fits = absurd (some refl)
words_fill width done (n ∷ ns) tag [] some all fits =
    record { marks = []; whole = ap (λ l. filled done l) (sym (append-nil (n ∷ ns))); items = refl }
words_fill width done (n ∷ ns) tag ([] ∷ ws) some all fits = absurd ((All-head IsWord [] ws all).some refl)
words_fill width done (n ∷ ns) tag ((c ∷ cs) ∷ ws) some all fits =
    let w = c ∷ cs in
    let l : Letter _ = record { code = c; tag = tag } in
    let ms = marked (opens (Some tag)) inside (lettered w tag) in
    let word = All-head IsWord w ws all in
    let counted = lettered_columns w tag ∙ visible_columns w word.visible in
    let total = length-append w (spaced ws) in
    let one = word_fits width done n ns tag c cs (omega (arith, fits, counted, total)) in
    let rest = words_fill width done ((n ∷ ns) ++ ms) tag ws (λ e. some (omega (arith, e, one.1)))
    (All-tail IsWord w ws all) (omega (arith, fits, counted, total, one.1)) in
    record {
      marks = ms ++ rest.marks;
      whole = ap (λ g. fold (add_unit width) g (word_pieces tag ws)) one.0 ∙ rest.whole
          ∙ ap (λ line. filled done line) (append_assoc (n ∷ ns) ms rest.marks);
      items = following_items-append ms rest.marks
          ∙ ap (λ i. i ++ following_items rest.marks) (unit_items (n ∷ ns) (Some tag) l (lettered cs tag))
          ∙ ap (λ i. character 0x20 tag ∷ (i ++ following_items rest.marks)) (sym (lettered_items w tag))
          ∙ ap (λ i. character 0x20 tag ∷ (tagged w tag ++ i)) rest.items
          ∙ ap (λ i. character 0x20 tag ∷ i) (sym (tagged-append w (spaced ws) tag));
    }

pub words_pushed : {T S : Type 0} (seen : T → S) (old new : Filling T) (text : List ℕ) (tag : S)
    → new.width ≡ old.width → new.allow_overflow ≡ old.allow_overflow → new.done.items ≡ old.done.items
    → line_items seen new.line ≡ line_items seen old.line ++ tagged text tag
    → (IsJoined seen old.line → IsJoined seen new.line) → LaysWords seen old new text tag
words_pushed seen old new text tag w o d added joins =
    record {
      lays_words = λ words all text_is more.
          record {
            lays = λ width overflow f h.
                let same = ap line_columns h.line ∙ marks_counted f.line in
                let fills = words_fill width f.done f.line tag words (λ e. more.some (same ∙ e)) all
                (omega (arith, more.fits, same, h.same_width)) in
                subst (HoldsLines seen width overflow new) (sym fills.whole)
                (holds_pushed seen width overflow old new f fills.marks h w o d
                (added ∙ ap (λ i. line_items seen old.line ++ i) (ap (λ cs. tagged cs tag) text_is ∙ sym fills.items))
                joins);
          };
    }

-- ---- the call

pub closed_spaced : (ws : List (List ℕ)) (ys : List ℕ) → spaced ws ++ 0x20 ∷ ys ≡ 0x20 ∷ (closed ws ++ ys)
closed_spaced [] ys = refl
closed_spaced (w ∷ ws) ys =
    ap (λ l. 0x20 ∷ l) (append_assoc w (spaced ws) (0x20 ∷ ys) ∙ ap (λ l. w ++ l) (closed_spaced ws ys)
    ∙ sym (append_assoc w (0x20 ∷ []) (closed ws ++ ys)) ∙ sym (append_assoc (w ++ 0x20 ∷ []) (closed ws) ys))

same_tail : (xs ys : List ℕ) → 0x20 ∷ xs ≡ 0x20 ∷ ys → xs ≡ ys
same_tail xs ys e = cc

one_fits : {T S : Type 0} (seen : T → S) (filling : Filling T) (more : ℕ) → TakesMore seen filling more
    → (filling.allow_overflow || nat_le 1 filling.width) ≡ true
one_fits seen filling more t =
    either filling.allow_overflow (nat_le 1 filling.width) (below 1 filling.width (omega (arith, t.some, t.fits)))
  where
    either : (b c : Bool) → c ≡ true → (b || c) ≡ true
    either true c h = refl
    either false c h = h

pub words_moved : {T S : Type 0} (seen : T → S) (old new : NormalText T) (words : List (List ℕ)) (text : List ℕ)
    (tag : S)
    → AwaitsWord seen old tag → All IsWord words → text ≡ spaced words
    → TakesMore seen old.lines (length (spaced words)) → LaysWords seen old.lines new.lines text tag
    → new.width ≡ old.width → new.space ≡ old.space → new.word ≡ old.word
    → Reads seen old new (lettered (closed words) tag)
words_moved seen old new words text tag awaits all text_is more laid w s o =
    let room = one_fits seen old.lines (length (spaced words)) more in
    record {
      moves = record {
        moves = λ width overflow r h.
            let space_is = sym h.space ∙ awaits.space in
            let none = no_letters r.letters (sym h.word ∙ awaits.none_held) in
            let read = ap (λ s. read_letters width (reading r.lines s r.letters) (lettered (closed words) tag)) space_is
            ∙ ap (λ ls. read_letters width (reading r.lines (Some tag) ls) (lettered (closed words) tag)) none
            ∙ words_read old width r.lines tag words room all in
            subst (HoldsReading seen width overflow new) (sym read)
            (record {
              same_width = w ∙ h.same_width;
              lines = (laid.lays_words words all text_is more).lays width overflow r.lines h.lines;
              space = ap (option_map seen) s ∙ awaits.space;
              word = ap (line_items seen) o ∙ awaits.none_held;
            });
      };
      room = λ width overflow r h. words_room seen width overflow old r tag words h room all;
    }

-- the words in front of a text are read, with the space after them
pub words_taken : {T S : Type 0} (seen : T → S) (old new : NormalText T) (text after here rest back trailing : List ℕ)
    (n room read c : ℕ) (tag : S) → AwaitsWord seen old tag → IsUtf8 text → IsUtf8 back →
    text ≡ encode_utf8 read ++ after → read ≡ 0x20
    → HasWords text rest n room → ((front : List ℕ) → text ≡ front ++ rest → here ≡ front)
    → chars text ≡ chars here ++ chars back → back ≡ encode_utf8 c ++ trailing → c ≡ 0x20 → n ≢ 0
    → ((k : ℕ) → k ≢ 0 → k ≤ room → TakesMore seen old.lines k)
    → LaysWords seen old.lines new.lines (chars here) tag
    → new.width ≡ old.width → new.space ≡ old.space → new.word ≡ old.word
    → ReadsFront seen old new after trailing tag
words_taken seen old new text after here rest back trailing n room read c tag awaits utf8 back_utf8 begins read_is has
    only
    parts split is_space some takes laid w s o =
    let words_are : chars here ≡ spaced has.words = ap chars (only has.parts.front has.parts.whole) ∙ has.whole in
    let back_is = chars_past_char back trailing c back_utf8 split ∙ ap (λ x. x ∷ chars trailing) is_space in
    let text_is = chars_past_char text after read utf8 begins ∙ ap (λ x. x ∷ chars after) read_is in
    let whole = sym text_is ∙ parts
    ∙ ap (λ l. l ++ chars back) words_are ∙ ap (λ l. spaced has.words ++ l) back_is
    ∙ closed_spaced has.words (chars trailing) in
    record {
      front = closed has.words;
      whole = same_tail (chars after) (closed has.words ++ chars trailing) whole;
      reads = words_moved seen old new has.words (chars here) tag awaits has.are_words words_are
          (subst (TakesMore seen old.lines) has.counted (takes n some has.fits)) laid w s o;
    }

-- the words are as long as was counted
pub words_counted : (text here rest : List ℕ) (n room : ℕ) → HasWords text rest n room
    → ((front : List ℕ) → text ≡ front ++ rest → here ≡ front) → n ≡ text_columns (chars here)
words_counted text here rest n room has only =
    has.counted ∙ sym (ap text_columns (ap chars (only has.parts.front has.parts.whole) ∙ has.whole)
    ∙ spaced_columns has.words has.are_words)
