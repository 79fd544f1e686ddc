-- Characters of a word that are added all at once.
use Rattle.std.proofs.Common.{◌≡◌, ◌||◌, [], ◌∷◌, ◌++◌, ◌∙◌, ◌≤◌, Bool, List, ap, append_assoc, arith, chars}
use Rattle.std.proofs.Common.{encode_utf8, false, inr, nat_le, refl, subst, sym, true, ℕ}
use Rattle.std.specs.Prelude.{Some, is_some, IsTrue, All}
use Rattle.std.specs.Option.{option_map}
use Rattle.std.specs.Char.{IsScalar}
use Rattle.std.proofs.lemmas.List.{map-append, append-nil}
use Rattle.std.proofs.lemmas.List.Elements.{All-nil, All-cons, All-head, All-tail, All-same, All-push}
use Rattle.std.proofs.lemmas.Str.{chars-nil, chars-append, IsUtf8-nil, IsUtf8-append, IsUtf8-encode}
use Rattle.text_lines.proofs.Joins.{chars_of_one}
use Rattle.std.proofs.lemmas.Bool.Decides.{nat_tests}
use Rattle.text_lines.specs.Columns.{columns_of, columns_of-one, width_of}
use Rattle.text_lines.specs.Tagged.{line_items, tagged, character}
use Rattle.text_normal.specs.Units.{Letter, lettered, is_break_point}
use Rattle.text_normal.specs.Filling.{Reading, reading, read_letters}
use Rattle.text_normal.specs.NormalStates.{AllHaveRoom, HoldsLines, HoldsReading, JoinsWord, Reads, RunsTo, has_room}
use Rattle.text_normal.specs.NormalStates.{letter_items}
use Rattle.text_normal.specs.declared.normal.NormalText.{NormalText}
use Rattle.text_normal.proofs.NormalReading.{other_same, or_skips, width_read}

-- ---- finding the run

pub runs_start : {T : Type 0} (block : NormalText T) (text : List ℕ) → RunsTo block text text
runs_start block text = record {
  parts = record { front = []; whole = refl; utf8 = IsUtf8-nil };
  joins = All-same (JoinsWord block)
      (chars []) [] chars-nil (All-nil (JoinsWord block));
}

pub runs_more : {T : Type 0} (block : NormalText T) (text rest after : List ℕ) (c : ℕ) → RunsTo block text rest
    → rest ≡ encode_utf8 c ++ after → IsScalar c → JoinsWord block c → RunsTo block text after
runs_more block text rest after c r split scalar joins =
    let p = r.parts in
    record {
      parts = record {
        front = p.front ++ encode_utf8 c;
        whole = p.whole ∙ ap (λ l. p.front ++ l) split ∙ sym (append_assoc p.front (encode_utf8 c) after);
        utf8 = IsUtf8-append p.front (encode_utf8 c) p.utf8 (IsUtf8-encode c scalar);
      };
      joins = All-same (JoinsWord block) (chars (p.front ++ encode_utf8 c)) (chars p.front ++ c ∷ [])
          (chars-append p.front (encode_utf8 c) p.utf8 ∙ ap (λ l. chars p.front ++ l) (chars_of_one c scalar))
          (All-push (JoinsWord block) (chars p.front) c r.joins joins);
    }

pub joins_word : {T : Type 0} (block : NormalText T) (code n : ℕ) (fits : Bool) → is_break_point code ≡ false
    → columns_of code ≡ Some n → fits ≡ (block.lines.allow_overflow || nat_le n block.lines.width) → fits ≡ true
    → JoinsWord block code
joins_word block code n fits no_break columns_are fits_is holds =
    record {
      no_break = no_break;
      has_width = ap is_some columns_are;
      room = ap (λ w. block.lines.allow_overflow || nat_le w block.lines.width) (width_read code n columns_are)
          ∙ sym fits_is ∙ holds;
    }

pub no_break_point : (c : ℕ) → 0x21 ≤ c → c ≤ 0x7E → is_break_point c ≡ false
no_break_point c low high = grind (arith, nat_tests)

-- visible ASCII is no break point, and has one column
pub visible_joins : {T : Type 0} (block : NormalText T) (c : ℕ) (fits : Bool) → (0x21 ≤ c) × (c ≤ 0x7E)
    → fits ≡ (block.lines.allow_overflow || nat_le 1 block.lines.width) → fits ≡ true → JoinsWord block c
visible_joins block c fits is fits_is holds =
    joins_word block c 1 fits (no_break_point c is.0 is.1) (columns_of-one c (inr (omega (arith, is.0), is.1))) fits_is
    holds

-- a run that nothing follows is the whole text
pub whole_joins : {T : Type 0} (block : NormalText T) (text rest bytes : List ℕ) → RunsTo block text rest → rest ≡ []
    → text ≡ bytes → All (JoinsWord block) (chars bytes)
whole_joins block text rest bytes r none same =
    let p = r.parts in
    subst (λ l. All (JoinsWord block) (chars l))
    (sym (p.whole ∙ ap (λ l. p.front ++ l) none ∙ append-nil p.front) ∙ same) r.joins

-- ---- reading the run

pub letters_run : {T S : Type 0} (block : NormalText T) (width : ℕ) (r : Reading S) (cs : List ℕ) (tag : S)
    → All (JoinsWord block) cs
    → read_letters width r (lettered cs tag) ≡ reading r.lines r.space (r.letters ++ lettered cs tag)
letters_run block width r [] tag all = ap (λ ls. reading r.lines r.space ls) (sym (append-nil r.letters))
letters_run block width r (c ∷ cs) tag all =
    let l : Letter _ = record { code = c; tag = tag } in
    let joins = All-head (JoinsWord block) c cs all in
    ap (λ q. read_letters width q (lettered cs tag)) (other_same width r l true joins.no_break joins.has_width)
    ∙ letters_run block width (reading r.lines r.space (r.letters ++ l ∷ [])) cs tag
    (All-tail (JoinsWord block) c cs all)
    ∙ ap (λ ls. reading r.lines r.space ls) (append_assoc r.letters (l ∷ []) (lettered cs tag))

pub run_room : {T S : Type 0} (seen : T → S) (width : ℕ) (overflow : Bool) (old : NormalText T) (r : Reading S)
    (cs : List ℕ) (tag : S) → HoldsReading seen width overflow old r → All (JoinsWord old) cs
    → AllHaveRoom width overflow (lettered cs tag)
run_room seen width overflow old r [] tag h all = All-nil (λ x. IsTrue (has_room width overflow x))
run_room seen width overflow old r (c ∷ cs) tag h all =
    let l : Letter _ = record { code = c; tag = tag } in
    let joins = All-head (JoinsWord old) c cs all in
    let room = or_skips overflow (is_break_point c) (nat_le (width_of c) width) joins.no_break
    ∙ ap (λ o. o || nat_le (width_of c) width) (sym h.lines.same_overflow)
    ∙ ap (λ w. old.lines.allow_overflow || nat_le (width_of c) w) (sym h.lines.same_width) ∙ joins.room in
    All-cons (λ x. IsTrue (has_room width overflow x)) l (lettered cs tag) room
    (run_room seen width overflow old r cs tag h (All-tail (JoinsWord old) c cs all))

pub lettered_items : {S : Type 0} (cs : List ℕ) (tag : S) → tagged cs tag ≡ letter_items (lettered cs tag)
lettered_items [] tag = refl
lettered_items (c ∷ cs) tag = ap (λ rest. character c tag ∷ rest) (lettered_items cs tag)

pub run_reads : {T S : Type 0} (seen : T → S) (old new : NormalText T) (cs : List ℕ) (tag : S) → All (JoinsWord old) cs
    → new.width ≡ old.width → new.lines ≡ old.lines → new.space ≡ old.space
    → line_items seen new.word ≡ line_items seen old.word ++ tagged cs tag → Reads seen old new (lettered cs tag)
run_reads seen old new cs tag all w l s added =
    record {
      moves = record {
        moves = λ width overflow r h.
            subst (HoldsReading seen width overflow new) (sym (letters_run old width r cs tag all))
            (record {
              same_width = w ∙ h.same_width;
              lines = subst (λ x. HoldsLines seen width overflow x r.lines) (sym l) h.lines;
              space = ap (option_map seen) s ∙ h.space;
              word = added ∙ ap (λ i. i ++ tagged cs tag) h.word ∙ ap (λ i. letter_items r.letters ++ i)
                  (lettered_items cs tag) ∙ sym (map-append (λ (x : Letter _). character x.code x.tag) r.letters
                  (lettered cs tag));
            });
      };
      room = λ width overflow r h. run_room seen width overflow old r cs tag h all;
    }
