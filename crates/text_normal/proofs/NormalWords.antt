-- Whole words that are laid without being held, and texts read front by front.
use Rattle.std.proofs.Common.{◌≡◌, ◌≢◌, ◌+◌, ◌<◌, ◌≤◌, [], ◌∷◌, ◌++◌, ◌∙◌, Bool, IsUtf8, List, ap, append-nil}
use Rattle.std.proofs.Common.{append_assoc, arith, chars, encode_utf8, length, refl, subst, sym, true, ℕ}
use Rattle.std.specs.Prelude.{Option, None, Some, is_some, IsTrue, All, if◌then◌else◌}
use Rattle.std.specs.Option.{option_map}
use Rattle.std.proofs.lemmas.List.{map-append, length-append}
use Rattle.std.proofs.lemmas.List.Elements.{All-append}
use Rattle.std.proofs.lemmas.List.Sums.{fold-append, sum_by-cons}
use Rattle.std.proofs.lemmas.Str.{chars-nil, chars_past_char}
use Rattle.text_lines.specs.Columns.{columns_of, text_columns, width_of}
use Rattle.text_lines.specs.Tagged.{line_items, tagged}
use Rattle.text_normal.specs.Units.{Letter, first_of, has_columns, is_break_point, is_white_space, lettered}
use Rattle.text_normal.specs.Units.{letters_columns, piece, space_of}
use Rattle.text_normal.specs.Greedy.{Filled, add_unit}
use Rattle.text_normal.specs.Filling.{Reading, reading, read_letter, read_letters}
use Rattle.text_normal.specs.NormalStates.{AllHaveRoom, EndsWord, HoldsLines, HoldsReading, JoinsWord, LaysUnit}
use Rattle.text_normal.specs.NormalStates.{LaysWord, MeetsWider, Moves, Reads, ReadsFront, ReadsRun, RunsTo, has_room}
use Rattle.text_normal.specs.NormalStates.{letter_items, space_read}
use Rattle.text_normal.specs.declared.normal.NormalText.{NormalText}
use Rattle.text_normal.proofs.NormalFilling.{if_true}
use Rattle.text_normal.proofs.NormalReading.{positive, break_room, reads_nothing, reads_more, wider_within}
use Rattle.text_normal.proofs.NormalRuns.{letters_run, run_room, lettered_items, run_reads}

-- ---- a whole word is laid

unit_laid : {T S : Type 0} (seen : T → S) (old mid : NormalText T) (width : ℕ) (overflow : Bool) (lines : Filled S)
    (space given : Option S) (cs : List ℕ) (tag : S) → given ≡ space
    → LaysUnit seen old.lines mid.lines given (tagged cs tag) → HoldsLines seen width overflow old.lines lines
    → cs ≢ [] → HoldsLines seen width overflow mid.lines (add_unit width lines (piece space (lettered cs tag)))
unit_laid seen old mid width overflow lines space given [] tag same laid h some = absurd (some refl)
unit_laid seen old mid width overflow lines space given (c ∷ cs) tag same laid h some =
    subst (λ s. HoldsLines seen width overflow mid.lines (add_unit width lines (piece s (lettered (c ∷ cs) tag)))) same
    ((laid.lays_unit (record { code = c; tag = tag }) (lettered cs tag) (lettered_items (c ∷ cs) tag)).lays width
    overflow lines h)

pub word_laid : {T S : Type 0} (seen : T → S) (old mid new : NormalText T) (space : Option S) (cs : List ℕ) (code : ℕ)
    (tag : S) → space ≡ option_map seen old.space → LaysUnit seen old.lines mid.lines space (tagged cs tag)
    → mid.width ≡ old.width → option_map seen mid.space ≡ None → mid.word ≡ old.word
    → (is_break_point code ≡ true → Moves seen mid new (space_read code tag)) → LaysWord seen old new cs code tag
word_laid seen old mid new space cs code tag space_is laid w no_space word kept =
    record {
      lays = λ width overflow r h none some is_break.
          (kept is_break).moves width overflow
          (reading (add_unit width r.lines (piece r.space (lettered cs tag))) None []) (record {
            same_width = w ∙ h.same_width;
            lines = unit_laid seen old mid width overflow r.lines r.space space cs tag (space_is ∙ h.space) laid h.lines
                some;
            space = no_space;
            word = ap (line_items seen) word ∙ h.word ∙ ap letter_items none;
          });
    }

-- ---- a whole word is read

pub no_letters : {S : Type 0} (ls : List (Letter S)) → letter_items ls ≡ [] → ls ≡ []
no_letters [] h = refl
no_letters (l ∷ ls) h = cc

pub lettered_columns : {S : Type 0} (cs : List ℕ) (tag : S) → letters_columns (lettered cs tag) ≡ text_columns cs
lettered_columns [] tag = refl
lettered_columns (c ∷ cs) tag = ap (λ n. width_of c + n) (lettered_columns cs tag) ∙ sym (sum_by-cons width_of c cs)

some_letters : (cs : List ℕ) → text_columns cs ≢ 0 → cs ≢ []
some_letters [] some e = some refl
some_letters (c ∷ cs) some e = cc

pub whole_read : {T S : Type 0} (block : NormalText T) (width : ℕ) (r : Reading S) (cs : List ℕ) (code : ℕ) (tag : S)
    → All (JoinsWord block) cs → r.letters ≡ [] → text_columns cs ≢ 0 → is_break_point code ≡ true
    → read_letters width r (lettered (cs ++ code ∷ []) tag)
    ≡ reading (add_unit width r.lines (piece r.space (lettered cs tag))) (if is_white_space code then Some tag
    else None)
    []
whole_read block width r cs code tag all none some is_break =
    let l : Letter _ = record { code = code; tag = tag } in
    let ls = lettered cs tag in
    let whole = reading (add_unit width r.lines (piece r.space ls)) (space_of l) [] in
    let first = reading r.lines (first_of r.space (space_of l)) ls in
    ap (read_letters width r) (map-append _ cs (code ∷ [])) ∙ fold-append (read_letter width) r ls (l ∷ [])
    ∙ ap (λ q. read_letter width q l)
    (letters_run block width r cs tag all ∙ ap (λ held. reading r.lines r.space (held ++ ls)) none)
    ∙ if_true (is_break_point code) (if has_columns ls then whole else first)
    (reading r.lines r.space (if is_some (columns_of code) then ls ++ l ∷ [] else ls)) is_break
    ∙ if_true (has_columns ls) whole first
    (positive (letters_columns ls) (λ e. some (sym (lettered_columns cs tag) ∙ e)))

word_reads : {T S : Type 0} (seen : T → S) (old new : NormalText T) (cs : List ℕ) (code : ℕ) (tag : S)
    → All (JoinsWord old) cs → text_columns cs ≢ 0 → line_items seen old.word ≡ [] → is_break_point code ≡ true
    → LaysWord seen old new cs code tag → Reads seen old new (lettered (cs ++ code ∷ []) tag)
word_reads seen old new cs code tag all some empty is_break laid =
    let l : Letter _ = record { code = code; tag = tag } in
    record {
      moves = record {
        moves = λ width overflow r h.
            let none = no_letters r.letters (sym h.word ∙ empty) in
            subst (HoldsReading seen width overflow new)
            (sym (whole_read old width r cs code tag all none some is_break))
            (laid.lays width overflow r h none (some_letters cs some) is_break);
      };
      room = λ width overflow r h.
          subst (AllHaveRoom width overflow) (sym (map-append _ cs (code ∷ [])))
          (All-append (λ x. IsTrue (has_room width overflow x)) (lettered cs tag) (l ∷ [])
          (run_room seen width overflow old r cs tag h all) (break_room width overflow l is_break));
    }

pub run_laid : {T S : Type 0} (seen : T → S) (old new : NormalText T) (cs : List ℕ) (columns : ℕ)
    (rest trailing : List ℕ) (code : ℕ) (tag : S) → All (JoinsWord old) cs → columns ≡ text_columns cs
    → EndsWord seen old columns rest code trailing → IsUtf8 rest → LaysWord seen old new cs code tag
    → ReadsRun seen old new cs (chars rest) (chars trailing) tag
run_laid seen old new cs columns rest trailing code tag all counted ends utf8 laid =
    record {
      front = cs ++ code ∷ [];
      whole = ap (λ l. cs ++ l) (chars_past_char rest trailing code utf8 ends.whole)
          ∙ sym (append_assoc cs (code ∷ []) (chars trailing));
      reads = word_reads seen old new cs code tag all (λ e. ends.some (counted ∙ e)) ends.none_held ends.is_break laid;
    }

pub run_held : {T S : Type 0} (seen : T → S) (old new : NormalText T) (cs rest : List ℕ) (tag : S)
    → All (JoinsWord old) cs → new.width ≡ old.width → new.lines ≡ old.lines → new.space ≡ old.space
    → line_items seen new.word ≡ line_items seen old.word ++ tagged cs tag → ReadsRun seen old new cs rest rest tag
run_held seen old new cs rest tag all w l s added =
    record { front = cs; whole = refl; reads = run_reads seen old new cs tag all w l s added }

-- after characters a front of what follows them
pub run_further : {T S : Type 0} (seen : T → S) (old mid new : NormalText T) (run rest trailing left : List ℕ) (tag : S)
    → ReadsRun seen old mid run rest (chars trailing) tag → ReadsFront seen mid new trailing left tag
    → ReadsRun seen old new run rest (chars left) tag
run_further seen old mid new run rest trailing left tag first second =
    record {
      front = first.front ++ second.front;
      whole = first.whole ∙ ap (λ l. first.front ++ l) second.whole
          ∙ sym (append_assoc first.front second.front (chars left));
      reads = subst (Reads seen old new) (sym (map-append _ first.front second.front))
          (reads_more seen old mid new (lettered first.front tag) (lettered second.front tag) first.reads second.reads);
    }

-- ---- a front is read

pub run_joins : {T : Type 0} (block : NormalText T) (text rest run : List ℕ) → RunsTo block text rest
    → ((front : List ℕ) → text ≡ front ++ rest → run ≡ front) → All (JoinsWord block) (chars run)
run_joins block text rest run r only =
    subst (λ bytes. All (JoinsWord block) (chars bytes)) (sym (only r.parts.front r.parts.whole)) r.joins

pub front_reads : {T S : Type 0} (seen : T → S) (old new : NormalText T) (text run rest left : List ℕ) (tag : S)
    → chars text ≡ chars run ++ chars rest → ReadsRun seen old new (chars run) (chars rest) (chars left) tag
    → ReadsFront seen old new text left tag
front_reads seen old new text run rest left tag parts r =
    record { front = r.front; whole = parts ∙ r.whole; reads = r.reads }

longer : (n m k j : ℕ) → (n ≡ 0 → ⊥) → k ≡ n + m → j ≤ m → j < k
longer n m k j some whole below = omega (arith, some, whole, below)

no_bytes : (xs : List ℕ) → length xs ≡ 0 → xs ≡ []
no_bytes [] e = refl
no_bytes (x ∷ xs) e = cc

pub front_shorter : {T : Type 0} (block : NormalText T) (text run rest back left : List ℕ) → RunsTo block text rest
    → ((front : List ℕ) → text ≡ front ++ rest → run ≡ front) → back ≡ rest → run ≢ [] → length left ≤ length back
    → length left < length text
front_shorter block text run rest back left r only same some below =
    let p = r.parts in
    let whole : length text ≡ length run + length back =
    ap length p.whole ∙ length-append p.front rest ∙ ap (λ xs. length xs + length rest) (sym (only p.front p.whole))
    ∙ ap (λ xs. length run + length xs) (sym same) in
    longer (length run) (length back) (length text) (length left) (λ e. some (no_bytes run e)) whole below

pub first_reads : {T S : Type 0} (seen : T → S) (old new : NormalText T) (text after : List ℕ) (c : ℕ) (tag : S)
    → IsUtf8 text → text ≡ encode_utf8 c ++ after → Reads seen old new (lettered (c ∷ []) tag)
    → ReadsFront seen old new text after tag
first_reads seen old new text after c tag utf8 split one =
    record { front = c ∷ []; whole = chars_past_char text after c utf8 split; reads = one }

pub front_wider : {T S : Type 0} (seen : T → S) (old mid : NormalText T) (text rest : List ℕ) (tag : S)
    → ReadsFront seen old mid text rest tag → MeetsWider seen mid (lettered (chars rest) tag)
    → MeetsWider seen old (lettered (chars text) tag)
front_wider seen old mid text rest tag first meets =
    let mapped = ap (λ x. lettered x tag) first.whole ∙ map-append _ first.front (chars rest) in
    record {
      wider = λ width overflow r h.
          wider_within width overflow (lettered first.front tag) (lettered (chars rest) tag) []
          (lettered (chars text) tag)
          (mapped ∙ ap (λ l. lettered first.front tag ++ l) (sym (append-nil (lettered (chars rest) tag))))
          (meets.wider width overflow (read_letters width r (lettered first.front tag))
          (first.reads.moves.moves width overflow r h));
    }

pub first_wider : {T S : Type 0} (seen : T → S) (old : NormalText T) (text after : List ℕ) (c : ℕ) (tag : S)
    → IsUtf8 text → text ≡ encode_utf8 c ++ after → MeetsWider seen old (lettered (c ∷ []) tag)
    → MeetsWider seen old (lettered (chars text) tag)
first_wider seen old text after c tag utf8 split meets =
    record {
      wider = λ width overflow r h.
          wider_within width overflow [] (lettered (c ∷ []) tag) (lettered (chars after) tag)
          (lettered (chars text) tag)
          (ap (λ x. lettered x tag) (chars_past_char text after c utf8 split)) (meets.wider width overflow r h);
    }

-- ---- front after front

pub nothing_front : {T S : Type 0} (seen : T → S) (old : NormalText T) (text : List ℕ) (tag : S)
    → ReadsFront seen old old text text tag
nothing_front seen old text tag = record { front = []; whole = refl; reads = reads_nothing seen old }

pub fronts_read : {T S : Type 0} (seen : T → S) (old mid new : NormalText T) (text rest left : List ℕ) (tag : S)
    → ReadsFront seen old mid text rest tag → ReadsFront seen mid new rest left tag
    → ReadsFront seen old new text left tag
fronts_read seen old mid new text rest left tag first second =
    record {
      front = first.front ++ second.front;
      whole = first.whole ∙ ap (λ l. first.front ++ l) second.whole
          ∙ sym (append_assoc first.front second.front (chars left));
      reads = subst (Reads seen old new) (sym (map-append _ first.front second.front))
          (reads_more seen old mid new (lettered first.front tag) (lettered second.front tag) first.reads second.reads);
    }

pub front_all : {T S : Type 0} (seen : T → S) (old new : NormalText T) (text rest : List ℕ) (tag : S)
    → ReadsFront seen old new text rest tag → rest ≡ [] → Reads seen old new (lettered (chars text) tag)
front_all seen old new text rest tag first none =
    let text_is = first.whole ∙ ap (λ l. first.front ++ chars l) none ∙ ap (λ l. first.front ++ l) chars-nil
    ∙ append-nil first.front in
    subst (Reads seen old new) (sym (ap (λ cs. lettered cs tag) text_is)) first.reads
