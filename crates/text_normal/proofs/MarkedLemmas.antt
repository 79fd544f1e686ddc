-- Markers put among the letters of a text: what is carried of it.
use Rattle.std.proofs.Common.{◌≡◌, ◌+◌, ◌<◌, ◌&&◌, ◌||◌, [], ◌∷◌, ◌++◌, ◌∙◌, Bool, Global, List, String, add-one, ap}
use Rattle.std.proofs.Common.{append-nil, append_assoc, arith, false, get_or, length, map, nat_lt, not, refl, subst}
use Rattle.std.proofs.Common.{sym, take, true, ℕ}
use Rattle.std.specs.Prelude.{All, fold, string_bytes, if◌then◌else◌}
use Rattle.std.specs.Str.{chars}
use Rattle.std.proofs.lemmas.Bool.Decides.{nat_tests}
use Rattle.std.proofs.lemmas.List.{map-append}
use Rattle.std.proofs.lemmas.List.Elements.{All-head, All-tail}
use Rattle.std.proofs.lemmas.List.Sums.{fold-append}
use Rattle.std.proofs.Math.Seq.{take-suc}
use Rattle.unicode_width.proofs.Computing.{unicode_width}
use Rattle.text_lines.specs.Columns.{columns_of, width_of}
use Rattle.text_pieces.specs.Sources.{names, Source, letter, fragment, sourced, is_break_point}
use Rattle.text_normal.specs.Units.{Letter, lettered}
use Rattle.text_normal.specs.NormalStates.{HasRead, HasWider}
use Rattle.text_normal.specs.Riders.{Carried, Rider, carry, has_wide_text, in_word_at, is_carrier, plain, plain_letter}
use Rattle.text_normal.specs.Riders.{ride}
use Rattle.text_normal.specs.MarkedTags.{tag_seen}
use Rattle.text_normal.specs.MarkedStates.{AddsWords, BeginsWord, Carries, CarriesOn, HoldsLetters, MeetsWide}
use Rattle.text_normal.specs.MarkedStates.{MeetsWideWord, in_word_after, words_letters, words_waiting}
use Rattle.text_normal.specs.declared.marked.MarkedText.{MarkedText}
use Rattle.text_normal.specs.declared.marked_tag.MarkedTag.{MarkedTag}
use Rattle.text_normal.specs.declared.normal.NormalText.{NormalText}

-- ---- one marker

ride_code : chars (0xE2 ∷ 0x81 ∷ 0xA0 ∷ []) ≡ 0x2060 ∷ []
unfolding chars
ride_code = refl

pub ride_letters : {S : Type 0} (tag : Rider S) → lettered (chars (0xE2 ∷ 0x81 ∷ 0xA0 ∷ [])) tag
    ≡ record { code = 0x2060; tag = tag } ∷ []
ride_letters tag = ap (λ cs. lettered cs tag) ride_code

pub no_width : width_of 0x2060 ≡ 0
unfolding unicode_width columns_of width_of
no_width = refl

only_front : {X : Type 0} (x : X) (front back : List X) (y : X) → (x ∷ []) ≡ front ++ y ∷ back → x ≡ y
only_front x [] back y e = cc
only_front x (z ∷ []) back y e = cc
only_front x (z ∷ w ∷ front) back y e = cc

pub ride_fits : {S : Type 0} (width : ℕ) (overflow : Bool) (tag : Rider S)
    → HasWider width overflow (lettered (chars (0xE2 ∷ 0x81 ∷ 0xA0 ∷ [])) tag) → ⊥
ride_fits width overflow tag h =
    let same =
    only_front (record { code = 0x2060; tag = tag }) h.front h.back h.letter (sym (ride_letters tag) ∙ h.whole)
    in
    let code : width_of h.letter.code ≡ 0 = ap (λ (l : Letter _). width_of l.code) (sym same) ∙ no_width in
    let wider : width < width_of h.letter.code = h.wider in
    absurd (omega (arith, code, wider))

-- ---- names so far

names-append : (xs ys : List (String Global)) → names (xs ++ ys) ≡ names xs ++ names ys
names-append xs ys = map-append (λ name. chars (string_bytes name)) xs ys

pub rides_more : {S : Type 0} (read : List (Letter (Rider S))) (all : List (String Global)) (i : ℕ)
    (name : String Global)
    → i < length all → name ≡ get_or all i name
    → (read ++ map (λ n. ride n) (names (take i all))) ++ ride (chars (string_bytes name)) ∷ []
    ≡ read ++ map (λ n. ride n) (names (take (i + 1) all))
rides_more read all i name inside is =
    let more = ap names (ap (λ n. take n all) (add-one i) ∙ take-suc all i name inside
    ∙ ap (λ x. take i all ++ x ∷ []) (sym is)) ∙ names-append (take i all) (name ∷ []) in
    append_assoc read (map (λ n. ride n) (names (take i all))) (ride (chars (string_bytes name)) ∷ [])
    ∙ ap (λ ls. read ++ ls) (sym (map-append (λ n. ride n) (names (take i all)) (chars (string_bytes name) ∷ [])))
    ∙ ap (λ ns. read ++ map (λ n. ride n) ns) (sym more)

-- ---- a text

abbrev pub carried_so : {S : Type 0} → List (Letter (Rider S)) → List (List ℕ) → Bool → Carried S
carried_so letters waiting in_word = record { letters = letters; waiting = waiting; in_word = in_word }

pub bare_step : {S : Type 0} (width : ℕ) (k : Carried S) (c : ℕ) (m f : S) → is_carrier c ≡ false
    → carry width k (letter c m f) ≡ carried_so (k.letters ++ plain_letter c m ∷ []) k.waiting
    (in_word_at width k.in_word c)
bare_step width k c m f bare =
    ap (λ t. if t
    then carried_so (k.letters ++ (map (λ name. ride name) k.waiting ++ plain_letter c m ∷ [])) []
    (in_word_at width k.in_word c)
    else carried_so (k.letters ++ plain_letter c m ∷ []) k.waiting (in_word_at width k.in_word c)) bare

pub word_step : {S : Type 0} (width : ℕ) (k : Carried S) (c : ℕ) (m f : S) → is_carrier c ≡ true
    → carry width k (letter c m f)
    ≡ carried_so (k.letters ++ (map (λ name. ride name) k.waiting ++ plain_letter c m ∷ []))
    [] (in_word_at width k.in_word c)
word_step width k c m f carrier =
    ap (λ t. if t
    then carried_so (k.letters ++ (map (λ name. ride name) k.waiting ++ plain_letter c m ∷ [])) []
    (in_word_at width k.in_word c)
    else carried_so (k.letters ++ plain_letter c m ∷ []) k.waiting (in_word_at width k.in_word c)) carrier

carry_bare : {S : Type 0} (width : ℕ) (cs : List ℕ) (letters : List (Letter (Rider S))) (waiting : List (List ℕ))
    (in_word : Bool) (m f : S) → All (λ c. is_carrier c ≡ false) cs
    → fold (carry width) (carried_so letters waiting in_word) (sourced cs m f)
    ≡ carried_so (letters ++ lettered cs (plain m)) waiting (in_word_after width in_word cs)
carry_bare width [] letters waiting in_word m f bare =
    ap (λ ls. carried_so ls waiting in_word) (sym (append-nil letters))
carry_bare width (c ∷ cs) letters waiting in_word m f bare =
    ap (λ k. fold (carry width) k (sourced cs m f)) (bare_step width (carried_so letters waiting in_word) c m f
    (All-head (λ d. is_carrier d ≡ false) c cs bare))
    ∙ carry_bare width cs (letters ++ plain_letter c m ∷ []) waiting (in_word_at width in_word c) m f
    (All-tail (λ d. is_carrier d ≡ false) c cs bare)
    ∙ ap (λ ls. carried_so ls waiting (in_word_after width in_word (c ∷ cs)))
    (append_assoc letters (plain_letter c m ∷ []) (lettered cs (plain m)))

free_step : {S : Type 0} (width : ℕ) (letters : List (Letter (Rider S))) (in_word : Bool) (c : ℕ) (m f : S) (b : Bool)
    → is_carrier c ≡ b → carry width (carried_so letters [] in_word) (letter c m f)
    ≡ carried_so (letters ++ plain_letter c m ∷ []) [] (in_word_at width in_word c)
free_step width letters in_word c m f true e = word_step width (carried_so letters [] in_word) c m f e
free_step width letters in_word c m f false e = bare_step width (carried_so letters [] in_word) c m f e

carry_free : {S : Type 0} (width : ℕ) (cs : List ℕ) (letters : List (Letter (Rider S))) (in_word : Bool) (m f : S)
    → fold (carry width) (carried_so letters [] in_word) (sourced cs m f)
    ≡ carried_so (letters ++ lettered cs (plain m)) [] (in_word_after width in_word cs)
carry_free width [] letters in_word m f = ap (λ ls. carried_so ls [] in_word) (sym (append-nil letters))
carry_free width (c ∷ cs) letters in_word m f =
    ap (λ k. fold (carry width) k (sourced cs m f)) (free_step width letters in_word c m f (is_carrier c) refl)
    ∙ carry_free width cs (letters ++ plain_letter c m ∷ []) (in_word_at width in_word c) m f
    ∙ ap (λ ls. carried_so ls [] (in_word_after width in_word (c ∷ cs)))
    (append_assoc letters (plain_letter c m ∷ []) (lettered cs (plain m)))

carry_word : {S : Type 0} (width : ℕ) (cs : List ℕ) (letters : List (Letter (Rider S))) (waiting : List (List ℕ))
    (in_word : Bool) (m f : S) → BeginsWord cs
    → fold (carry width) (carried_so letters waiting in_word) (sourced cs m f)
    ≡ carried_so (letters ++ words_letters cs (plain m) waiting) (words_waiting cs waiting)
    (in_word_after width in_word cs)
carry_word width [] letters waiting in_word m f begins =
    ap (λ ls. carried_so ls waiting in_word) (sym (append-nil letters))
carry_word width (c ∷ cs) letters waiting in_word m f begins =
    let rides = map (λ name. ride name) waiting in
    ap (λ k. fold (carry width) k (sourced cs m f)) (word_step width (carried_so letters waiting in_word) c m f begins)
    ∙ carry_free width cs (letters ++ (rides ++ plain_letter c m ∷ [])) (in_word_at width in_word c) m f
    ∙ ap (λ ls. carried_so ls [] (in_word_after width in_word (c ∷ cs)))
    (append_assoc letters (rides ++ plain_letter c m ∷ []) (lettered cs (plain m))
    ∙ ap (λ ls. letters ++ ls) (append_assoc rides (plain_letter c m ∷ []) (lettered cs (plain m))))

pub carry_text : {S : Type 0} (width : ℕ) (text front back : List ℕ) (k : Carried S) (m f : S) → text ≡ front ++ back
    → All (λ c. is_carrier c ≡ false) front → BeginsWord back
    → fold (carry width) k (sourced text m f)
    ≡ carried_so ((k.letters ++ lettered front (plain m)) ++ words_letters back (plain m) k.waiting)
    (words_waiting back k.waiting) (in_word_after width k.in_word text)
carry_text width text front back k m f whole bare begins =
    ap (fold (carry width) k) (ap (λ cs. sourced cs m f) whole ∙ map-append (λ c. letter c m f) front back)
    ∙ fold-append (carry width) k (sourced front m f) (sourced back m f)
    ∙ ap (λ j. fold (carry width) j (sourced back m f)) (carry_bare width front k.letters k.waiting k.in_word m f bare)
    ∙ carry_word width back (k.letters ++ lettered front (plain m)) k.waiting (in_word_after width k.in_word front) m f
    begins
    ∙ ap (λ b. carried_so ((k.letters ++ lettered front (plain m)) ++ words_letters back (plain m) k.waiting)
    (words_waiting back k.waiting) b)
    (sym (fold-append (in_word_at width) k.in_word front back) ∙ ap (in_word_after width k.in_word) (sym whole))

-- ---- what is too wide

wide_first : (breaks : Bool) (n w : ℕ) (rest : Bool) → breaks ≡ false → w < n → ((not breaks && nat_lt w n) || rest)
    ≡ true
wide_first true n w rest solid wide = cc
wide_first false n w rest solid wide = grind (arith, nat_tests)

wide_rest : (b rest : Bool) → rest ≡ true → (b || rest) ≡ true
wide_rest true rest e = refl
wide_rest false rest e = e

pub wide_in : {X S : Type 0} (width : ℕ) (cs : List ℕ) (tag : X) (front back : List (Letter X))
    (l : Letter X) (m f : S) → lettered cs tag ≡ front ++ l ∷ back → is_break_point l.code ≡ false
    → width < width_of l.code → has_wide_text width (sourced cs m f) ≡ true
wide_in width [] tag [] back l m f whole solid wide = cc
wide_in width [] tag (x ∷ front) back l m f whole solid wide = cc
wide_in width (c ∷ cs) tag [] back l m f whole solid wide =
    let code : l.code ≡ c = ap (λ (x : Letter _). x.code) (first_same whole) in
    wide_first (is_break_point c) (width_of c) width (has_wide_text width (sourced cs m f))
    (ap is_break_point (sym code) ∙ solid) (subst (λ d. width < width_of d) code wide)
  where
    first_same : {X : Type 0} {x y : X} {xs ys : List X} → (x ∷ xs) ≡ y ∷ ys → y ≡ x
    first_same e = cc
wide_in width (c ∷ cs) tag (x ∷ front) back l m f whole solid wide =
    wide_rest (not (is_break_point c) && nat_lt width (width_of c)) (has_wide_text width (sourced cs m f))
    (wide_in width cs tag front back l m f (rest_same whole) solid wide)
  where
    rest_same : {X : Type 0} {x y : X} {xs ys : List X} → (x ∷ xs) ≡ y ∷ ys → xs ≡ ys
    rest_same e = cc

pub has_wide-append : {S : Type 0} (width : ℕ) (xs ys : List (Source S))
    → has_wide_text width (xs ++ ys) ≡ (has_wide_text width xs || has_wide_text width ys)
has_wide-append width [] ys = refl
has_wide-append width (letter c m f ∷ xs) ys =
    ap (λ rest. (not (is_break_point c) && nat_lt width (width_of c)) || rest) (has_wide-append width xs ys)
    ∙ sym (or_assoc (not (is_break_point c) && nat_lt width (width_of c)) (has_wide_text width xs)
    (has_wide_text width ys))
  where
    or_assoc : (a b d : Bool) → ((a || b) || d) ≡ (a || (b || d))
    or_assoc true b d = refl
    or_assoc false b d = refl
has_wide-append width (fragment name ∷ xs) ys = has_wide-append width xs ys

pub wide_sourced : {X S : Type 0} (width : ℕ) (overflow : Bool) (cs : List ℕ) (tag : X) (m f : S)
    → HasWider width overflow (lettered cs tag) → (overflow ≡ false) × (has_wide_text width (sourced cs m f) ≡ true)
wide_sourced width overflow cs tag m f h = (
  h.not_allowed,
  wide_in width cs tag h.front h.back h.letter m f h.whole
      h.stands h.wider,
)

or_left : (a b : Bool) → a ≡ true → (a || b) ≡ true
or_left true b e = refl
or_left false b e = cc

pub wide_front : {S : Type 0} (width : ℕ) (text front back : List ℕ) (m f : S) → text ≡ front ++ back
    → has_wide_text width (sourced front m f) ≡ true → has_wide_text width (sourced text m f) ≡ true
wide_front width text front back m f whole wide =
    ap (has_wide_text width) (ap (λ cs. sourced cs m f) whole ∙ map-append (λ c. letter c m f) front back)
    ∙ has_wide-append width (sourced front m f) (sourced back m f)
    ∙ or_left (has_wide_text width (sourced front m f)) (has_wide_text width (sourced back m f)) wide

pub wide_back : {S : Type 0} (width : ℕ) (text front back : List ℕ) (m f : S) → text ≡ front ++ back
    → has_wide_text width (sourced back m f) ≡ true → has_wide_text width (sourced text m f) ≡ true
wide_back width text front back m f whole wide =
    ap (has_wide_text width) (ap (λ cs. sourced cs m f) whole ∙ map-append (λ c. letter c m f) front back)
    ∙ has_wide-append width (sourced front m f) (sourced back m f)
    ∙ wide_rest (has_wide_text width (sourced front m f)) (has_wide_text width (sourced back m f)) wide

-- ---- what the code holds

pub adds_nothing : {T S : Type 0} (seen : T → S) (old : MarkedText T) (cs : List ℕ) (tag : Rider S) → cs ≡ []
    → AddsWords seen old old cs tag
adds_nothing seen old [] tag none = record {
  in_word = refl;
  adds = λ width overflow letters waiting h.
      subst (λ ls. HoldsLetters seen width overflow ls waiting old) (sym (append-nil letters)) h;
}
adds_nothing seen old (c ∷ cs) tag none = cc

pub adds_words : {T S : Type 0} (seen : T → S) (old new : MarkedText T) (mid : NormalText (MarkedTag T))
    (rides : List (String Global)) (cs : List ℕ) (tag : Rider S) → (cs ≡ [] → ⊥) → new.width ≡ old.width
    → new.in_word ≡ old.in_word → new.waiting.items ≡ [] → rides ≡ old.waiting.items
    → ((width : ℕ) (overflow : Bool) (read : List (Letter (Rider S))) →
    HasRead (tag_seen seen) width overflow read old.text
    → HasRead (tag_seen seen) width overflow (read ++ map (λ name. ride name) (names rides)) mid)
    → ((width : ℕ) (overflow : Bool) (read : List (Letter (Rider S))) → HasRead (tag_seen seen) width overflow read mid
    → HasRead (tag_seen seen) width overflow (read ++ lettered cs tag) new.text)
    → AddsWords seen old new cs tag
adds_words seen old new mid rides [] tag some w i none same first second = absurd (some refl)
adds_words seen old new mid rides (c ∷ cs) tag some w i none same first second = record {
  in_word = i;
  adds = λ width overflow letters waiting h.
      let ridden = ap names same ∙ h.waits in
      record {
        same_width = w ∙ h.same_width;
        read = subst (λ ls. HasRead (tag_seen seen) width overflow ls new.text)
            (append_assoc letters (map (λ name. ride name) (names rides)) (lettered (c ∷ cs) tag)
            ∙ ap (λ ns. letters ++ (map (λ name. ride name) ns ++ lettered (c ∷ cs) tag)) ridden)
            (second width overflow (letters ++ map (λ name. ride name) (names rides))
            (first width overflow letters h.read));
        waits = ap names none;
      };
}

pub meets_at_rides : {T S : Type 0} (seen : T → S) (old : MarkedText T) (cs : List ℕ) (tag : Rider S)
    → ((width : ℕ) (overflow : Bool) (read : List (Letter (Rider S))) →
    HasRead (tag_seen seen) width overflow read old.text
    → ⊥) → MeetsWideWord seen old cs tag
meets_at_rides seen old cs tag never = record {
  wide = λ width overflow letters waiting h. absurd (never width overflow letters h.read);
}

pub meets_after : {T S : Type 0} (seen : T → S) (old : MarkedText T) (mid : NormalText (MarkedTag T))
    (rides : List (String Global)) (cs : List ℕ) (tag : Rider S)
    → ((width : ℕ) (overflow : Bool) (read : List (Letter (Rider S))) →
    HasRead (tag_seen seen) width overflow read old.text
    → HasRead (tag_seen seen) width overflow (read ++ map (λ name. ride name) (names rides)) mid)
    → ((width : ℕ) (overflow : Bool) (read : List (Letter (Rider S))) → HasRead (tag_seen seen) width overflow read mid
    → HasWider width overflow (lettered cs tag))
    → MeetsWideWord seen old cs tag
meets_after seen old mid rides cs tag first wider = record {
  wide = λ width overflow letters waiting h.
      wider width overflow (letters ++ map (λ name. ride name) (names rides)) (first width overflow letters h.read);
}

-- the front is read, then the words
pub text_carried : {T S : Type 0} (seen : T → S) (old mid words new : MarkedText T) (text front back : List ℕ) (m f : S)
    → text ≡ front ++ back → All (λ c. is_carrier c ≡ false) front → BeginsWord back → mid.width ≡ old.width
    → mid.in_word ≡ old.in_word → mid.waiting ≡ old.waiting
    → ((width : ℕ) (overflow : Bool) (read : List (Letter (Rider S))) →
    HasRead (tag_seen seen) width overflow read old.text
    → HasRead (tag_seen seen) width overflow (read ++ lettered front (plain m)) mid.text)
    → AddsWords seen mid words back (plain m) → new.width ≡ words.width → new.text ≡ words.text
    → new.waiting ≡ words.waiting → new.in_word ≡ in_word_after words.width words.in_word text
    → CarriesOn seen old new (sourced text m f)
text_carried seen old mid words new text front back m f whole bare begins mw mi mq first second nw nt nq ni = record {
  carries = λ width overflow k h.
      let start : HoldsLetters seen width overflow (k.letters ++ lettered front (plain m)) k.waiting mid = record {
        same_width = mw ∙ h.holds.same_width;
        read = first width overflow k.letters h.holds.read;
        waits = ap (λ q. names q.items) mq ∙ h.holds.waits;
      } in
      let trailing = second.adds width overflow (k.letters ++ lettered front (plain m)) k.waiting start in
      subst (λ j. Carries seen width overflow j new) (sym (carry_text width text front back k m f whole bare begins))
      (record {
        holds = record {
          same_width = nw ∙ trailing.same_width;
          read = subst (λ t. HasRead (tag_seen seen) width overflow
              ((k.letters ++ lettered front (plain m)) ++ words_letters back (plain m) k.waiting) t) (sym nt)
              trailing.read;
          waits = ap (λ q. names q.items) nq ∙ trailing.waits;
        };
        in_word = ni ∙ ap (λ w. in_word_after w words.in_word text) trailing.same_width
            ∙ ap (λ b. in_word_after width b text) (second.in_word ∙ mi ∙ h.in_word);
      });
}

pub wide_at_front : {T S : Type 0} (seen : T → S) (old : MarkedText T) (text front back : List ℕ) (m f : S)
    → text ≡ front ++ back
    → ((width : ℕ) (overflow : Bool) (read : List (Letter (Rider S))) →
    HasRead (tag_seen seen) width overflow read old.text
    → HasWider width overflow (lettered front (plain m))) → MeetsWide seen old (sourced text m f)
wide_at_front seen old text front back m f whole wider = record {
  wide = λ width overflow k h.
      let found = wide_sourced width overflow front (plain m) m f (wider width overflow k.letters h.holds.read) in
      (found.0, wide_front width text front back m f whole found.1);
}

pub wide_at_back : {T S : Type 0} (seen : T → S) (old mid : MarkedText T) (text front back : List ℕ) (m f : S)
    → text ≡ front ++ back → mid.width ≡ old.width → mid.waiting ≡ old.waiting
    → ((width : ℕ) (overflow : Bool) (read : List (Letter (Rider S))) →
    HasRead (tag_seen seen) width overflow read old.text
    → HasRead (tag_seen seen) width overflow (read ++ lettered front (plain m)) mid.text)
    → MeetsWideWord seen mid back (plain m) → MeetsWide seen old (sourced text m f)
wide_at_back seen old mid text front back m f whole mw mq first wider = record {
  wide = λ width overflow k h.
      let start : HoldsLetters seen width overflow (k.letters ++ lettered front (plain m)) k.waiting mid = record {
        same_width = mw ∙ h.holds.same_width;
        read = first width overflow k.letters h.holds.read;
        waits = ap (λ q. names q.items) mq ∙ h.holds.waits;
      } in
      let found = wide_sourced width overflow back (plain m) m f
      (wider.wide width overflow (k.letters ++ lettered front (plain m)) k.waiting start) in
      (found.0, wide_back width text front back m f whole found.1);
}

-- ---- a marker

pub marker_at : {S : Type 0} (width : ℕ) (k : Carried S) (name : List ℕ) (b : Bool) → k.in_word ≡ b
    → carry width k (fragment name) ≡ (if b then carried_so (k.letters ++ ride name ∷ []) k.waiting k.in_word
    else carried_so k.letters (k.waiting ++ name ∷ []) k.in_word)
marker_at width k name b e = ap (λ t. if t then carried_so (k.letters ++ ride name ∷ []) k.waiting k.in_word
    else carried_so k.letters (k.waiting ++ name ∷ []) k.in_word) e

pub marker_rides : {T S : Type 0} (seen : T → S) (old new : MarkedText T) (name : List ℕ) → old.in_word ≡ true
    → new.width ≡ old.width → new.in_word ≡ old.in_word → new.waiting ≡ old.waiting
    → ((width : ℕ) (overflow : Bool) (read : List (Letter (Rider S))) →
    HasRead (tag_seen seen) width overflow read old.text
    → HasRead (tag_seen seen) width overflow (read ++ ride name ∷ []) new.text)
    → CarriesOn seen old new (fragment name ∷ [])
marker_rides seen old new name riding w i q read = record {
  carries = λ width overflow k h.
      subst (λ j. Carries seen width overflow j new) (sym (marker_at width k name true (sym h.in_word ∙ riding)))
      (record {
        holds = record {
          same_width = w ∙ h.holds.same_width;
          read = read width overflow k.letters h.holds.read;
          waits = ap (λ v. names v.items) q ∙ h.holds.waits;
        };
        in_word = i ∙ h.in_word;
      });
}

pub marker_waits : {T S : Type 0} (seen : T → S) (old new : MarkedText T) (name : String Global) (emitted : List ℕ)
    → chars (string_bytes name) ≡ emitted → old.in_word ≡ false
    → new.width ≡ old.width → new.in_word ≡ old.in_word → new.text ≡ old.text
    → new.waiting.items ≡ old.waiting.items ++ name ∷ [] → CarriesOn seen old new (fragment emitted ∷ [])
marker_waits seen old new name emitted is riding w i t q = record {
  carries = λ width overflow k h.
      subst (λ j. Carries seen width overflow j new) (sym (marker_at width k emitted false (sym h.in_word ∙ riding)))
      (record {
        holds = record {
          same_width = w ∙ h.holds.same_width;
          read = subst (λ x. HasRead (tag_seen seen) width overflow k.letters x) (sym t) h.holds.read;
          waits = ap names q ∙ names-append old.waiting.items (name ∷ [])
              ∙ ap (λ ns. ns ++ chars (string_bytes name) ∷ []) h.holds.waits
              ∙ ap (λ n. k.waiting ++ n ∷ []) is;
        };
        in_word = i ∙ h.in_word;
      });
}

pub marker_fits : {T S : Type 0} (seen : T → S) (old : MarkedText T) (name : List ℕ)
    → ((width : ℕ) (overflow : Bool) (read : List (Letter (Rider S))) →
    HasRead (tag_seen seen) width overflow read old.text
    → ⊥) → MeetsWide seen old (fragment name ∷ [])
marker_fits seen old name never = record {
  wide = λ width overflow k h. absurd (never width overflow k.letters h.holds.read);
}
