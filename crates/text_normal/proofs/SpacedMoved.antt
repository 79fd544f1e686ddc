-- Words that are moved onto a line in the text that they came in, and the end of a text that is moved.
use Rattle.std.proofs.Common.{◌≡◌, ◌≤◌, ◌||◌, [], ◌∷◌, ◌++◌, ◌∙◌, Bool, IsUtf8, List, ap, append-nil, append_assoc}
use Rattle.std.proofs.Common.{arith, chars, encode_utf8, fold, length, nat_le, refl, subst, sym, true, ℕ}
use Rattle.std.specs.Prelude.{Option, None, Some, IsNone, IsTrue, All}
use Rattle.std.specs.Option.{option_map}
use Rattle.std.proofs.lemmas.List.{length-append, map-append}
use Rattle.std.proofs.lemmas.List.Elements.{All-append}
use Rattle.std.proofs.lemmas.List.Sums.{fold-append}
use Rattle.std.proofs.lemmas.Str.{chars-nil, chars_past_char}
use Rattle.text_lines.specs.Columns.{text_columns}
use Rattle.text_lines.specs.Tagged.{line_items, tagged, IsJoined}
use Rattle.text_normal.specs.SpacedWords.{EndsInSpace, IsLineAndSpace, IsWord, IsWordsAndSpace, closed, spaced}
use Rattle.text_normal.specs.Units.{Letter, piece, lettered, letters_columns}
use Rattle.text_normal.specs.Layout.{Mark, opens, inside, marked, columns, marks_items}
use Rattle.text_normal.specs.Greedy.{Filled, filled, add_unit}
use Rattle.text_normal.specs.Filling.{Reading, reading, read_letter, read_letters}
use Rattle.text_normal.specs.NormalStates.{AllHaveRoom, FillsLine, FillsOn, GoesOnWith, HoldsLines, HoldsReading, Reads}
use Rattle.text_normal.specs.NormalStates.{ReadsFront, TakesMore, has_room, word_pieces}
use Rattle.text_normal.specs.declared.filling.Filling.{Filling}
use Rattle.text_normal.specs.declared.normal.NormalText.{NormalText}
use Rattle.text_normal.proofs.NormalItems.{after_items, items_after, unit_columns, unit_items}
use Rattle.text_normal.proofs.NormalFilling.{if_true, below, pushed, holds_pushed}
use Rattle.text_normal.proofs.NormalReading.{or_right, break_room, reads_nothing, reads_more}
use Rattle.text_normal.proofs.NormalRuns.{run_room, lettered_items}
use Rattle.text_normal.proofs.NormalWords.{whole_read, lettered_columns, no_letters}
use Rattle.text_normal.proofs.SpacedLaying.{all_join, closed_spaced, some_columns, spaced_columns, tagged-append}
use Rattle.text_normal.proofs.SpacedLaying.{text_columns-append, visible_columns, words_fill, words_moved, words_pushed}
use Rattle.text_normal.proofs.SpacedLaying.{words_read, words_room}

-- ---- columns

pub words_end_in_space : (text : List ℕ) (n : ℕ) → IsWordsAndSpace text n → EndsInSpace text n
words_end_in_space text n w =
    record {
      front = spaced w.words;
      whole = w.whole;
      counted = w.counted ∙ sym (spaced_columns w.words w.are_words);
    }

line_columns_are : (first : List ℕ) (words : List (List ℕ)) (n : ℕ) → IsWord first → All IsWord words
    → n ≡ length (first ++ spaced words) → n ≡ text_columns (first ++ spaced words)
line_columns_are first words n word all counted =
    omega (
      arith,
      counted,
      length-append first (spaced words),
      text_columns-append first (spaced words),
      visible_columns first word.visible,
      spaced_columns words all,
    )

pub line_ends_in_space : (text : List ℕ) (n : ℕ) → IsLineAndSpace text n → EndsInSpace text n
line_ends_in_space text n w =
    record {
      front = w.first ++ spaced w.words;
      whole = w.whole;
      counted = line_columns_are w.first w.words n w.is_word w.are_words w.counted;
    }

pub text_pushed : {T S : Type 0} (seen : T → S) (old new : Filling T) (front text : List ℕ) (tag : S)
    → new.width ≡ old.width → new.allow_overflow ≡ old.allow_overflow → new.done.items ≡ old.done.items
    → line_items seen new.line ≡ line_items seen old.line ++ tagged text tag
    → (IsJoined seen old.line → IsJoined seen new.line) → text ≡ front → GoesOnWith seen old new front tag
text_pushed seen old new front text tag w o d added joins is =
    record {
      same_width = w;
      same_overflow = o;
      same_done = d;
      line = added ∙ ap (λ cs. line_items seen old.line ++ tagged cs tag) is;
      joins = joins;
    }

-- ---- after other words

same_rest : (a b : ℕ) (xs ys : List ℕ) → a ∷ xs ≡ b ∷ ys → xs ≡ ys
same_rest a b xs ys e = cc

pub more_moved : {T S : Type 0} (seen : T → S) (old new : NormalText T) (text : List ℕ) (n : ℕ) (tag : S)
    → FillsOn seen old text n tag
    → ((front : List ℕ) → text ≡ front ++ 0x20 ∷ [] → GoesOnWith seen old.lines new.lines front tag)
    → new.width ≡ old.width → new.space ≡ old.space → new.word ≡ old.word
    → (first : ℕ) (after : List ℕ) → text ≡ first ∷ after → Reads seen old new (lettered after tag)
more_moved seen old new text n tag fills goes_on w s o first after text_is =
    let ws = fills.words in
    let g = goes_on (spaced ws.words) ws.whole in
    let laid =
    words_pushed seen old.lines new.lines (spaced ws.words) tag g.same_width g.same_overflow g.same_done g.line
    g.joins in
    let more = subst (TakesMore seen old.lines) ws.counted fills.more in
    let after_is : after ≡ closed ws.words =
    same_rest first 0x20 after (closed ws.words ++ []) (sym text_is ∙ ws.whole ∙ closed_spaced ws.words [])
    ∙ append-nil (closed ws.words) in
    subst (λ cs. Reads seen old new (lettered cs tag)) (sym after_is)
    (words_moved seen old new ws.words (spaced ws.words) tag fills.awaits ws.are_words refl more laid w s o)

-- ---- on an empty line

-- what a line's words add to an empty line
record FillsFresh {S : Type 0} (width : ℕ) (f : Filled S) (space : Option S) (tag : S) (first : List ℕ)
    (words : List (List ℕ)) : Type 0 where
  marks : List (Mark S)
  whole : fold (add_unit width) (add_unit width f (piece space (lettered first tag))) (word_pieces tag words)
      ≡ pushed f marks
  items : after_items f.line marks ≡ tagged (first ++ spaced words) tag

first_laid : {S : Type 0} (width : ℕ) (done : List (List (Mark S))) (space : Option S) (tag : S) (c : ℕ) (cs : List ℕ)
    → letters_columns (lettered (c ∷ cs) tag) ≤ width
    → (add_unit width (filled done []) (piece space (lettered (c ∷ cs) tag))
    ≡ filled done (marked (opens space) inside (lettered (c ∷ cs) tag)))
    × (columns (marked (opens space) inside (lettered (c ∷ cs) tag)) ≡ letters_columns (lettered (c ∷ cs) tag))
first_laid width done space tag c cs fits =
    let l : Letter _ = record { code = c; tag = tag } in
    let ls = lettered (c ∷ cs) tag in
    let ms = marked (opens space) inside ls in
    let counted : columns ms ≡ letters_columns ls =
    omega (arith, unit_columns None (lettered cs tag) l) in (
      if_true (nat_le (letters_columns ls) width) _ _ (below (letters_columns ls) width fits)
          ∙ if_true (nat_le (columns ms) width) _ _ (below (columns ms) width (omega (arith, counted, fits))),
      counted,
    )

fresh_filled : {S : Type 0} (width : ℕ) (done : List (List (Mark S))) (space : Option S) (tag : S) (first : List ℕ)
    (words : List (List ℕ)) → IsWord first → All IsWord words → length (first ++ spaced words) ≤ width
    → FillsFresh width (filled done []) space tag first words
fresh_filled width done space tag [] words word all fits = absurd (word.some refl)
fresh_filled width done space tag (c ∷ cs) words word all fits =
    let w = c ∷ cs in
    let l : Letter _ = record { code = c; tag = tag } in
    let ls = lettered w tag in
    let ms = marked (opens space) inside ls in
    let counted = lettered_columns w tag ∙ visible_columns w word.visible in
    let total = length-append w (spaced words) in
    let one = first_laid width done space tag c cs (omega (arith, counted, total, fits)) in
    let rest = words_fill width done ms tag words (λ e. omega (arith, e, one.1, counted)) all
    (omega (arith, one.1, counted, total, fits)) in
    record {
      marks = ms ++ rest.marks;
      whole = ap (λ g. fold (add_unit width) g (word_pieces tag words)) one.0 ∙ rest.whole;
      items = items_after ms rest.marks ∙ ap (λ i. marks_items ms ++ i) rest.items
          ∙ ap (λ i. i ++ tagged (spaced words) tag)
          (unit_items [] space l (lettered cs tag) ∙ sym (lettered_items w tag))
          ∙ sym (tagged-append w (spaced words) tag);
    }

no_marks : {S : Type 0} (ms : List (Mark S)) → marks_items ms ≡ [] → ms ≡ []
no_marks [] h = refl
no_marks (m ∷ ms) h = cc

line_is : (first : List ℕ) (words : List (List ℕ)) (text : List ℕ) → text ≡ (first ++ spaced words) ++ 0x20 ∷ []
    → text ≡ (first ++ 0x20 ∷ []) ++ closed words
line_is first words text whole =
    whole ∙ append_assoc first (spaced words) (0x20 ∷ [])
    ∙ ap (λ l. first ++ l) (closed_spaced words [] ∙ ap (λ l. 0x20 ∷ l) (append-nil (closed words)))
    ∙ sym (append_assoc first (0x20 ∷ []) (closed words))

some_room : {T S : Type 0} (seen : T → S) (width : ℕ) (overflow : Bool) (old : NormalText T) (r : Reading S)
    (first : List ℕ) (words : List (List ℕ)) (n : ℕ) → IsWord first → n ≡ length (first ++ spaced words)
    → n ≤ old.width → HoldsReading seen width overflow old r
    → (old.lines.allow_overflow || nat_le 1 old.lines.width) ≡ true
some_room seen width overflow old r [] words n word counted fits h = absurd (word.some refl)
some_room seen width overflow old r (c ∷ cs) words n word counted fits h =
    or_right old.lines.allow_overflow (nat_le 1 old.lines.width)
    (below 1 old.lines.width (omega (arith, counted, fits, h.same_width, h.lines.same_width)))

line_read : {T S : Type 0} (block : NormalText T) (width : ℕ) (r : Reading S) (tag : S) (first : List ℕ)
    (words : List (List ℕ)) (text : List ℕ) → text ≡ (first ++ 0x20 ∷ []) ++ closed words
    → (block.lines.allow_overflow || nat_le 1 block.lines.width) ≡ true → IsWord first → All IsWord words
    → r.letters ≡ [] → read_letters width r (lettered text tag)
    ≡ reading (fold (add_unit width) (add_unit width r.lines (piece r.space (lettered first tag)))
    (word_pieces tag words))
    (Some tag) []
line_read block width r tag first words text text_is room word all none =
    ap (λ cs. read_letters width r (lettered cs tag)) text_is
    ∙ ap (read_letters width r) (map-append _ (first ++ 0x20 ∷ []) (closed words))
    ∙ fold-append (read_letter width) r (lettered (first ++ 0x20 ∷ []) tag) (lettered (closed words) tag)
    ∙ ap (λ q. read_letters width q (lettered (closed words) tag))
    (whole_read block width r first 0x20 tag (all_join block room first word.visible) none
    (some_columns first word) refl)
    ∙ words_read block width (add_unit width r.lines (piece r.space (lettered first tag))) tag words room all

line_room : {T S : Type 0} (seen : T → S) (width : ℕ) (overflow : Bool) (old : NormalText T) (r : Reading S) (tag : S)
    (first : List ℕ) (words : List (List ℕ)) (text : List ℕ) → text ≡ (first ++ 0x20 ∷ []) ++ closed words
    → (old.lines.allow_overflow || nat_le 1 old.lines.width) ≡ true → IsWord first → All IsWord words
    → HoldsReading seen width overflow old r → AllHaveRoom width overflow (lettered text tag)
line_room seen width overflow old r tag first words text text_is room word all h =
    let l : Letter _ = record { code = 0x20; tag = tag } in
    let fit : Letter _ → Type 0 = λ x. IsTrue (has_room width overflow x) in
    let front = All-append fit (lettered first tag) (l ∷ [])
    (run_room seen width overflow old r first tag h (all_join old room first word.visible))
    (break_room width overflow l refl) in
    subst (AllHaveRoom width overflow)
    (sym (ap (λ cs. lettered cs tag) text_is ∙ map-append _ (first ++ 0x20 ∷ []) (closed words)))
    (All-append fit (lettered (first ++ 0x20 ∷ []) tag) (lettered (closed words) tag)
    (subst (AllHaveRoom width overflow) (sym (map-append _ first (0x20 ∷ []))) front)
    (words_room seen width overflow old r tag words h room all))

fresh_held : {T S : Type 0} (seen : T → S) (width : ℕ) (overflow : Bool) (old new : Filling T) (f : Filled S)
    (space : Option S) (tag : S) (first : List ℕ) (words : List (List ℕ)) → IsWord first → All IsWord words
    → length (first ++ spaced words) ≤ width → line_items seen old.line ≡ []
    → GoesOnWith seen old new (first ++ spaced words) tag → HoldsLines seen width overflow old f
    → HoldsLines seen width overflow new
    (fold (add_unit width) (add_unit width f (piece space (lettered first tag))) (word_pieces tag words))
fresh_held seen width overflow old new f space tag first words word all fits empty g h =
    let fresh = no_marks f.line (sym h.line ∙ empty) in
    let fills = subst (λ line. FillsFresh width (filled f.done line) space tag first words) (sym fresh)
    (fresh_filled width f.done space tag first words word all fits) in
    subst (HoldsLines seen width overflow new) (sym fills.whole)
    (holds_pushed seen width overflow old new f fills.marks h g.same_width g.same_overflow g.same_done
    (g.line ∙ ap (λ i. line_items seen old.line ++ i) (sym fills.items)) g.joins)

pub line_moved : {T S : Type 0} (seen : T → S) (old new : NormalText T) (text : List ℕ) (n : ℕ) (tag : S)
    → FillsLine seen old text n
    → ((front : List ℕ) → text ≡ front ++ 0x20 ∷ [] → GoesOnWith seen old.lines new.lines front tag)
    → new.width ≡ old.width → option_map seen new.space ≡ Some tag → new.word ≡ old.word
    → Reads seen old new (lettered text tag)
line_moved seen old new text n tag fills goes_on w s o =
    let ws = fills.words in
    let text_is = line_is ws.first ws.words text ws.whole in
    record {
      moves = record {
        moves = λ width overflow r h.
            let none = no_letters r.letters (sym h.word ∙ fills.none_held) in
            let room = some_room seen width overflow old r ws.first ws.words n ws.is_word ws.counted fills.fits h in
            subst (HoldsReading seen width overflow new)
            (sym (line_read old width r tag ws.first ws.words text text_is room ws.is_word ws.are_words none))
            (record {
              same_width = w ∙ h.same_width;
              lines = fresh_held seen width overflow old.lines new.lines r.lines r.space tag ws.first ws.words
                  ws.is_word
                  ws.are_words (omega (arith, ws.counted, fills.fits, h.same_width)) fills.fresh
                  (goes_on (ws.first ++ spaced ws.words) ws.whole) h.lines;
              space = s;
              word = ap (line_items seen) o ∙ fills.none_held;
            });
      };
      room = λ width overflow r h.
          line_room seen width overflow old r tag ws.first ws.words text text_is
          (some_room seen width overflow old r ws.first ws.words n ws.is_word ws.counted fills.fits h) ws.is_word
          ws.are_words h;
    }

-- ---- texts, part by part

pub front_then : {T S : Type 0} (seen : T → S) (old mid new : NormalText T) (text rest : List ℕ) (tag : S)
    → ReadsFront seen old mid text rest tag → Reads seen mid new (lettered (chars rest) tag)
    → Reads seen old new (lettered (chars text) tag)
front_then seen old mid new text rest tag first second =
    subst (Reads seen old new)
    (sym (ap (λ cs. lettered cs tag) first.whole ∙ map-append _ first.front (chars rest)))
    (reads_more seen old mid new (lettered first.front tag) (lettered (chars rest) tag) first.reads second)

pub spaced_reads : {T S : Type 0} (seen : T → S) (old mid new : NormalText T) (text after : List ℕ) (c : ℕ) (tag : S)
    → IsUtf8 text → text ≡ encode_utf8 c ++ after → Reads seen old mid (lettered (c ∷ []) tag)
    → ((first : ℕ) (rest : List ℕ) → chars text ≡ first ∷ rest → Reads seen mid new (lettered rest tag))
    → Reads seen old new (lettered (chars text) tag)
spaced_reads seen old mid new text after c tag utf8 split one more =
    let text_is = chars_past_char text after c utf8 split in
    subst (λ cs. Reads seen old new (lettered cs tag)) (sym text_is)
    (reads_more seen old mid new (lettered (c ∷ []) tag) (lettered (chars after) tag) one
    (more c (chars after) text_is))

pub nothing_there : {X T S : Type 0} (seen : T → S) (old : NormalText T) (o : Option X) (text bytes : List ℕ) (tag : S)
    → ((x : X) → o ≡ Some x → ⊥) → (IsNone o → text ≡ []) → text ≡ bytes
    → Reads seen old old (lettered (chars bytes) tag)
nothing_there seen old None text bytes tag no_more none same =
    subst (λ cs. Reads seen old old (lettered cs tag)) (sym (ap chars (sym same ∙ none refl) ∙ chars-nil))
    (reads_nothing seen old)
nothing_there seen old (Some x) text bytes tag no_more none same = absurd (no_more x refl)
