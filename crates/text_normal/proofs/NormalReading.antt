-- What a block holds follows from what was read.
use Rattle.std.proofs.Common.{◌≡◌, ◌+◌, ◌<◌, ◌||◌, [], ◌∷◌, ◌++◌, ◌∙◌, Bool, List, ap, append_assoc, arith, drop, false}
use Rattle.std.proofs.Common.{get_or, length, nat_le, nat_lt, refl, subst, sym, take, true, ℕ}
use Rattle.std.specs.Prelude.{Result, Ok, Err, OnOk, Option, None, Some, is_some, unwrap_or, if◌then◌else◌, IsTrue}
use Rattle.std.specs.Option.{option_map}
use Rattle.std.proofs.lemmas.List.{map-append, take-append-drop, drop_more}
use Rattle.std.proofs.lemmas.List.Elements.{All-append, All-nil, All-cons}
use Rattle.std.proofs.lemmas.List.Sums.{fold-append}
use Rattle.std.proofs.lemmas.Bool.Decides.{nat_tests}
use Rattle.text_lines.specs.Columns.{columns_of, width_of}
use Rattle.text_lines.specs.Tagged.{Item, line_items, line_columns}
use Rattle.text_normal.specs.Units.{Letter, first_of, has_columns, is_break_point, lettered, letters_columns, piece}
use Rattle.text_normal.specs.Units.{space_of}
use Rattle.text_pieces.specs.Sources.{is_filled}
use Rattle.text_normal.specs.Greedy.{Filled, add_unit}
use Rattle.text_normal.specs.Filling.{Reading, reading, read_letter, read_letters, nothing_read, last_filled}
use Rattle.text_normal.specs.NormalStates.{AllHaveRoom, HasRead, HasWider, HoldsLines, HoldsReading, LaysUnit}
use Rattle.text_normal.specs.NormalStates.{MeetsWider, Moves, Reads, end_read, has_room, lay_read, space_read}
use Rattle.text_normal.specs.NormalStates.{word_read}
use Rattle.text_normal.specs.declared.normal.NormalText.{NormalText}
use Rattle.text_normal.proofs.NormalItems.{letters_counted}
use Rattle.text_pieces.proofs.ElementLemmas.{next_taken}
use Rattle.text_normal.proofs.NormalFilling.{if_true, if_false, below}

-- ---- a word is laid

lay_held : {T S : Type 0} (seen : T → S) (width : ℕ) (overflow : Bool) (old new : NormalText T) (lines : Filled S)
    (space : Option S) (letters : List (Letter S))
    → (line_items seen old.word ≡ [] → ⊥) → LaysUnit seen old.lines new.lines (option_map seen old.space)
    (line_items seen old.word) → new.width ≡ old.width
    → option_map seen new.space ≡ None → line_items seen new.word ≡ []
    → HoldsReading seen width overflow old (reading lines space letters) → HoldsReading seen width overflow new
    (lay_read width (reading lines space letters))
lay_held seen width overflow old new lines space [] some laid w no_space no_word h = absurd (some h.word)
lay_held seen width overflow old new lines space (l ∷ ls) some laid w no_space no_word h =
    record {
      same_width = w ∙ h.same_width;
      lines = subst (λ s. HoldsLines seen width overflow new.lines (add_unit width lines (piece s (l ∷ ls)))) h.space
          (((laid.lays_unit l ls h.word).lays) width overflow lines h.lines);
      space = no_space;
      word = no_word;
    }

pub lay_moved : {T S : Type 0} (seen : T → S) (old new : NormalText T) (space : Option S) (word : List (Item S))
    → space ≡ option_map seen old.space → word ≡ line_items seen old.word
    → (line_items seen old.word ≡ [] → ⊥) → LaysUnit seen old.lines new.lines space word → new.width ≡ old.width
    → option_map seen new.space ≡ None → line_items seen new.word ≡ [] → Moves seen old new lay_read
lay_moved seen old new space word space_is word_is some laid w no_space no_word =
    let same = subst (λ s. LaysUnit seen old.lines new.lines s (line_items seen old.word)) space_is
    (subst (λ i. LaysUnit seen old.lines new.lines space i) word_is laid) in
    record {
      moves = λ width overflow r h. lay_held seen width overflow old new r.lines r.space r.letters some same w
          no_space no_word h;
    }

-- ---- a word is ended

pub positive : (n : ℕ) → (n ≡ 0 → ⊥) → nat_lt 0 n ≡ true
positive n h = grind (arith, nat_tests)

not_positive : (n : ℕ) → n ≡ 0 → nat_lt 0 n ≡ false
not_positive n h = grind (arith, nat_tests)

word_columns : {T S : Type 0} (seen : T → S) (width : ℕ) (overflow : Bool) (old : NormalText T) (r : Reading S)
    (n : ℕ) → n ≡ line_columns (line_items seen old.word) → HoldsReading seen width overflow old r
    → n ≡ letters_columns r.letters
word_columns seen width overflow old r n n_is h = n_is ∙ ap line_columns h.word ∙ letters_counted r.letters

pub no_columns : {T S : Type 0} (seen : T → S) (old : NormalText T) (n : ℕ)
    → n ≡ line_columns (line_items seen old.word) → n ≡ 0 → Moves seen old old end_read
no_columns seen old n n_is none =
    record {
      moves = λ width overflow r h.
          let test = not_positive (letters_columns r.letters) (sym (word_columns seen width overflow old r n n_is h)
          ∙ none) in
          subst (HoldsReading seen width overflow old)
          (sym (if_false (has_columns r.letters) (reading (add_unit width r.lines (piece r.space r.letters))
          None []) r test)) h;
    }

filled_test : {S : Type 0} (ls : List (Letter S)) → (letters_columns ls ≡ 0 → ⊥) → is_filled ls ≡ true
filled_test [] h = absurd (h refl)
filled_test (l ∷ ls) h = refl

pub some_columns : {T S : Type 0} (seen : T → S) (old new : NormalText T) (n : ℕ)
    → n ≡ line_columns (line_items seen old.word) → (n ≡ 0 → ⊥) → Moves seen old new lay_read
    → Moves seen old new end_read
some_columns seen old new n n_is some laid =
    record {
      moves = λ width overflow r h.
          let ended = reading (add_unit width r.lines (piece r.space r.letters)) None [] in
          let same = word_columns seen width overflow old r n n_is h in
          let not_none : letters_columns r.letters ≡ 0 → ⊥ = λ e. some (same ∙ e) in
          subst (HoldsReading seen width overflow new)
          (if_true (is_filled r.letters) ended r (filled_test r.letters not_none)
          ∙ sym (if_true (has_columns r.letters) ended r (positive (letters_columns r.letters) not_none)))
          (laid.moves width overflow r h);
    }

-- ---- a letter

or_left : (b c : Bool) → b ≡ true → (b || c) ≡ true
or_left true c h = refl
or_left false c h = cc

pub or_right : (b c : Bool) → c ≡ true → (b || c) ≡ true
or_right true c h = refl
or_right false c h = h

pub or_skips : (a b c : Bool) → b ≡ false → (a || (b || c)) ≡ (a || c)
or_skips a true c h = cc
or_skips a false c h = refl

neither : (b c : Bool) → (b || c) ≡ false → (b ≡ false) × (c ≡ false)
neither true c h = cc
neither false c h = (refl, h)

wider_than : (a b : ℕ) → nat_le a b ≡ false → b < a
wider_than a b h = grind (arith, nat_tests)

lone_room : {S : Type 0} (width : ℕ) (overflow : Bool) (l : Letter S) → has_room width overflow l ≡ true
    → AllHaveRoom width overflow (l ∷ [])
lone_room width overflow l h = All-cons (λ x. IsTrue (has_room width overflow x)) l [] h
    (All-nil (λ x. IsTrue (has_room width overflow x)))

pub break_room : {S : Type 0} (width : ℕ) (overflow : Bool) (l : Letter S) → is_break_point l.code ≡ true
    → AllHaveRoom width overflow (l ∷ [])
break_room width overflow l is_break =
    lone_room width overflow l (or_right overflow (is_break_point l.code || nat_le (width_of l.code) width)
    (or_left (is_break_point l.code) (nat_le (width_of l.code) width) is_break))

break_same : {S : Type 0} (b : Bool) (r : Reading S) (lines : Filled S) (space : Option S)
    → (if b then reading lines space [] else reading r.lines (first_of r.space space) r.letters)
    ≡ (let q = if b then reading lines None [] else r in reading q.lines (first_of q.space space) q.letters)
break_same true r lines space = refl
break_same false r lines space = refl

pub break_read : {T S : Type 0} (seen : T → S) (old mid new : NormalText T) (code : ℕ) (tag : S)
    → is_break_point code ≡ true → Moves seen old mid end_read → Moves seen mid new (space_read code tag)
    → Reads seen old new (lettered (code ∷ []) tag)
break_read seen old mid new code tag is_break ended kept =
    let l : Letter _ = record { code = code; tag = tag } in
    record {
      moves = record {
        moves = λ width overflow r h.
            let whole = reading (add_unit width r.lines (piece r.space r.letters)) (space_of l) [] in
            let first = reading r.lines (first_of r.space (space_of l)) r.letters in
            subst (HoldsReading seen width overflow new)
            (sym (break_same (has_columns r.letters) r (add_unit width r.lines (piece r.space r.letters)) (space_of l))
            ∙ sym (if_true (is_break_point code) (if has_columns r.letters then whole else first)
            (reading r.lines r.space (if is_some (columns_of code) then r.letters ++ l ∷ [] else r.letters))
            is_break))
            (kept.moves width overflow (end_read width r) (ended.moves width overflow r h));
      };
      room = λ width overflow r h. break_room width overflow l is_break;
    }

-- a letter that is no break point
pub other_same : {S : Type 0} (width : ℕ) (r : Reading S) (l : Letter S) (b : Bool) → is_break_point l.code ≡ false
    → is_some (columns_of l.code) ≡ b
    → read_letter width r l ≡ reading r.lines r.space (if b then r.letters ++ l ∷ [] else r.letters)
other_same width r l b no_break some =
    if_false (is_break_point l.code) (if has_columns r.letters then reading
    (add_unit width r.lines (piece r.space r.letters)) (space_of l) [] else reading r.lines
    (first_of r.space (space_of l)) r.letters)
    (reading r.lines r.space (if is_some (columns_of l.code) then r.letters ++ l ∷ [] else r.letters)) no_break
    ∙ ap (λ t. reading r.lines r.space (if t then r.letters ++ l ∷ [] else r.letters)) some

pub width_read : (code n : ℕ) → columns_of code ≡ Some n → width_of code ≡ n
unfolding width_of
width_read code n h = ap (λ o. unwrap_or o 0) h

no_width_read : (code : ℕ) → columns_of code ≡ None → width_of code ≡ 0
unfolding width_of
no_width_read code h = ap (λ o. unwrap_or o 0) h

room_test : {T S : Type 0} (seen : T → S) (width : ℕ) (overflow : Bool) (old : NormalText T) (r : Reading S)
    (code n : ℕ) (tag : S) → is_break_point code ≡ false → columns_of code ≡ Some n
    → HoldsReading seen width overflow old r
    → has_room {S = S} width overflow (record { code = code; tag = tag }) ≡ (old.lines.allow_overflow || nat_le n
    old.lines.width)
room_test seen width overflow old r code n tag no_break columns_are h =
    or_skips overflow (is_break_point code) (nat_le (width_of code) width) no_break
    ∙ ap (λ w. overflow || nat_le w width) (width_read code n columns_are)
    ∙ ap (λ o. o || nat_le n width) (sym h.lines.same_overflow) ∙ ap (λ w. old.lines.allow_overflow || nat_le n w)
    (sym h.lines.same_width)

pub letter_read : {T S : Type 0} (seen : T → S) (old new : NormalText T) (code n : ℕ) (tag : S)
    → is_break_point code ≡ false → columns_of code ≡ Some n → Moves seen old new (word_read code tag)
    → (old.lines.allow_overflow || nat_le n old.lines.width) ≡ true → Reads seen old new (lettered (code ∷ []) tag)
letter_read seen old new code n tag no_break columns_are moved fits =
    let l : Letter _ = record { code = code; tag = tag } in
    record {
      moves = record {
        moves = λ width overflow r h. subst (HoldsReading seen width overflow new)
            (sym (other_same width r l true no_break (ap is_some columns_are))) (moved.moves width overflow r h);
      };
      room = λ width overflow r h. lone_room width overflow l
          (room_test seen width overflow old r code n tag no_break columns_are h ∙ fits);
    }

pub letter_wider : {T S : Type 0} (seen : T → S) (old : NormalText T) (code n : ℕ) (tag : S)
    → is_break_point code ≡ false → columns_of code ≡ Some n
    → (old.lines.allow_overflow || nat_le n old.lines.width) ≡ false → MeetsWider seen old (lettered (code ∷ []) tag)
letter_wider seen old code n tag no_break columns_are wider =
    let l : Letter _ = record { code = code; tag = tag } in
    record {
      wider = λ width overflow r h.
          let no_room = room_test seen width overflow old r code n tag no_break columns_are h ∙ wider in
          let parts = neither overflow (is_break_point code || nat_le (width_of code) width) no_room in
          record {
            front = [];
            letter = l;
            back = [];
            whole = refl;
            not_allowed = parts.0;
            stands = no_break;
            wider = wider_than (width_of code) width (neither (is_break_point code) (nat_le (width_of code) width)
                parts.1).1;
          };
    }

pub no_width : {T S : Type 0} (seen : T → S) (old : NormalText T) (code : ℕ) (tag : S) → is_break_point code ≡ false
    → columns_of code ≡ None → Reads seen old old (lettered (code ∷ []) tag)
no_width seen old code tag no_break columns_are =
    let l : Letter _ = record { code = code; tag = tag } in
    record {
      moves = record {
        moves = λ width overflow r h. subst (HoldsReading seen width overflow old)
            (sym (other_same width r l false no_break (ap is_some columns_are))) h;
      };
      room = λ width overflow r h.
          lone_room width overflow l
          (or_skips overflow (is_break_point code) (nat_le (width_of code) width) no_break
          ∙ or_right overflow (nat_le (width_of code) width)
          (below (width_of code) width (omega (arith, no_width_read code columns_are))));
    }

-- ---- letters, one after another

pub reads_nothing : {T S : Type 0} (seen : T → S) (old : NormalText T) → Reads seen old old []
reads_nothing seen old = record {
  moves = record { moves = λ width overflow r h. h };
  room = λ width overflow r h. All-nil (λ x. IsTrue (has_room width overflow x));
}

pub reads_more : {T S : Type 0} (seen : T → S) (old mid new : NormalText T) (xs ys : List (Letter S))
    → Reads seen old mid xs → Reads seen mid new ys → Reads seen old new (xs ++ ys)
reads_more seen old mid new xs ys first second =
    record {
      moves = record {
        moves = λ width overflow r h.
            subst (HoldsReading seen width overflow new) (sym (fold-append (read_letter width) r xs ys))
            (second.moves.moves width overflow (read_letters width r xs) (first.moves.moves width overflow r h));
      };
      room = λ width overflow r h.
          All-append (λ x. IsTrue (has_room width overflow x)) xs ys (first.room width overflow r h)
          (second.room width overflow (read_letters width r xs) (first.moves.moves width overflow r h));
    }

pub wider_within : {S : Type 0} (width : ℕ) (overflow : Bool) (before ls after all : List (Letter S))
    → all ≡ before ++ (ls ++ after) → HasWider width overflow ls → HasWider width overflow all
wider_within width overflow before ls after all all_is w =
    record {
      front = before ++ w.front;
      letter = w.letter;
      back = w.back ++ after;
      whole = all_is ∙ ap (λ x. before ++ (x ++ after)) w.whole ∙ ap (λ x. before ++ x)
          (append_assoc w.front (w.letter ∷ w.back) after)
          ∙ sym (append_assoc before w.front (w.letter ∷ (w.back ++ after)));
      not_allowed = w.not_allowed;
      stands = w.stands;
      wider = w.wider;
    }

pub next_read : {T S Y : Type 0} (seen : T → S) (old mid new : NormalText T) (cs : List ℕ) (ys : List Y) (y : Y)
    (c : ℕ) (tag : S) → (length ys < length cs) × (c ≡ get_or cs (length ys) c)
    → Reads seen old mid (lettered (take (length ys) cs) tag) → Reads seen mid new (lettered (c ∷ []) tag)
    → Reads seen old new (lettered (take (length (ys ++ y ∷ [])) cs) tag)
next_read seen old mid new cs ys y c tag turn so_far read =
    subst (Reads seen old new) (sym (ap (λ front. lettered front tag) (next_taken cs ys y c turn)
    ∙ map-append _ (take (length ys) cs) (c ∷ [])))
    (reads_more seen old mid new (lettered (take (length ys) cs) tag) (lettered (c ∷ []) tag) so_far read)

pub next_wider : {T S Y : Type 0} (seen : T → S) (old mid : NormalText T) (cs : List ℕ) (ys : List Y) (c : ℕ)
    (tag : S) → (length ys < length cs) × (c ≡ get_or cs (length ys) c)
    → Reads seen old mid (lettered (take (length ys) cs) tag) → MeetsWider seen mid (lettered (c ∷ []) tag)
    → MeetsWider seen old (lettered cs tag)
next_wider seen old mid cs ys c tag turn so_far w =
    let n = length ys in
    let split : cs ≡ take n cs ++ (c ∷ drop (n + 1) cs) = sym (take-append-drop n cs) ∙ ap (λ d. take n cs ++ d)
    (drop_more cs n c turn.0) ∙ ap (λ x. take n cs ++ x ∷ drop (n + 1) cs) (sym turn.1) in
    let mapped = ap (λ x. lettered x tag) split ∙ map-append _ (take n cs) (c ∷ drop (n + 1) cs) in
    record {
      wider = λ width overflow r h.
          wider_within width overflow (lettered (take n cs) tag) (lettered (c ∷ []) tag)
          (lettered (drop (n + 1) cs) tag) (lettered cs tag) mapped
          (w.wider width overflow (read_letters width r (lettered (take n cs) tag))
          (so_far.moves.moves width overflow r h));
    }

-- ---- what was read since the block was made

pub read_more : {T S : Type 0} (seen : T → S) (old new : NormalText T) (ls : List (Letter S)) → Reads seen old new ls
    → (width : ℕ) (overflow : Bool) (read : List (Letter S)) → HasRead seen width overflow read old
    → HasRead seen width overflow (read ++ ls) new
read_more seen old new ls reads width overflow read h =
    record {
      state = subst (HoldsReading seen width overflow new) (sym (fold-append (read_letter width) nothing_read read ls))
          (reads.moves.moves width overflow (read_letters width nothing_read read) h.state);
      room = All-append (λ x. IsTrue (has_room width overflow x)) read ls h.room
          (reads.room width overflow (read_letters width nothing_read read) h.state);
    }

last_same : {S : Type 0} (width : ℕ) (lines : Filled S) (space : Option S) (letters : List (Letter S))
    → (lay_read width (reading lines space letters)).lines ≡ last_filled width (reading lines space letters)
last_same width lines space [] = refl
last_same width lines space (l ∷ ls) = refl

pub laid_lines : {T S : Type 0} (seen : T → S) (old new : NormalText T) → Moves seen old new lay_read
    → (width : ℕ) (overflow : Bool) (read : List (Letter S)) → HasRead seen width overflow read old
    → HoldsLines seen width overflow new.lines (last_filled width (read_letters width nothing_read read))
laid_lines seen old new laid width overflow read h =
    let r = read_letters width nothing_read read in
    subst (HoldsLines seen width overflow new.lines) (last_same width r.lines r.space r.letters)
    ((laid.moves width overflow r h.state).lines)

-- ---- results

pub both_ok : {T E : Type 0} (P Q : Type 0) (r : Result T E) → OnOk r P → OnOk r Q → OnOk r (P × Q)
both_ok P Q (Ok x) p q = (p, q)
both_ok P Q (Err e) p q = tt

pub text_read : {T S E : Type 0} (seen : T → S) (r : Result (Unit {0}) E) (old new : NormalText T)
    (ls : List (Letter S))
    → OnOk r (Reads seen old new ls)
    → OnOk r ((width : ℕ) (overflow : Bool) (read : List (Letter S)) → HasRead seen width overflow read old
    → HasRead seen width overflow (read ++ ls) new)
text_read seen (Err e) old new ls reads = tt
text_read seen (Ok x) old new ls reads = λ width overflow read h. read_more seen old new ls reads width overflow read h

pub text_wider : {T S : Type 0} (seen : T → S) (old : NormalText T) (ls : List (Letter S)) → MeetsWider seen old ls
    → (width : ℕ) (overflow : Bool) (read : List (Letter S)) → HasRead seen width overflow read old
    → HasWider width overflow ls
text_wider seen old ls w width overflow read h = w.wider width overflow (read_letters width nothing_read read) h.state
