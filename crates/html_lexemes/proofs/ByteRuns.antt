-- What bytes say of a text's characters: where the first one of a set stands, and how many there are.
use Rattle.std.proofs.Common.{◌≡◌, ◌+◌, ◌<◌, ◌≤◌, ◌||◌, [], ◌∷◌, ◌++◌, ◌∙◌, Bool, IsUtf8, List, Some, ap, arith, chars}
use Rattle.std.proofs.Common.{cond, encode_utf8, encode_utf8_all, eqb, false, get_or, inl, inr, length, refl, replicate}
use Rattle.std.proofs.Common.{set as written, slice_get, slice_index, subst, sym, take, true, ℕ}
use Rattle.std.proofs.lemmas.Bool.{both_ways, cases_Bool, cases_lt, eqb-true, eqb-false}
use Rattle.std.proofs.lemmas.Bool.Decides.{nat_tests}
use Rattle.std.proofs.lemmas.Grind.{get_or-set_at}
use Rattle.std.proofs.lemmas.List.{get_or-append-add, get_or-replicate, get_or-set_other, get_or-take, get_or_past}
use Rattle.std.proofs.lemmas.List.{length-append, length-replicate, length-set, length-take-le, nil_from_length}
use Rattle.std.proofs.lemmas.List.Folds.{list_any_more}
use Rattle.std.proofs.lemmas.List.Sums.{sum_by-append}
use Rattle.std.proofs.lemmas.Option.{none-some}
use Rattle.std.proofs.lemmas.Str.{chars-nil, encode_ascii, encodes-chars, IsUtf8-take, char_from_byte}
use Rattle.std.specs.List.{count_by}
use Rattle.std.specs.Str.{IsCharBoundary, NonePass}
use lib.Utf8.{encode}
use Rattle.html_lexemes.specs.Queue.{is_in}
use Rattle.html_lexemes.specs.QueueParts.{IsRunOutside, Marks, is_marked, begins_character}
use Rattle.html_lexemes.proofs.QueueLemmas.{begins}
use Rattle.html_lexemes.proofs.RunLemmas.{run_upto}

unmarked : (n b : ℕ) → get_or (replicate n false) b false ≡ false
unmarked n b = elim (cases_lt b n) [
  | inl h ↦ get_or-replicate n b false false h
  | inr h ↦ get_or_past (replicate n false) b false (omega (arith, length-replicate n false))
]

pub Marks-none : Marks [] (replicate 256 false)
Marks-none = record {
  size = length-replicate 256 false;
  ascii = λ c e. absurd (both_ways false refl e);
  marked = unmarked 256;
}

-- one more is marked
marked_more : (marks : List Bool) (c b : ℕ) (was : Bool) → c < length marks → get_or marks b false ≡ was
    → get_or (written marks c true) b false ≡ (was || eqb b c)
marked_more marks c b was inside e = elim (cases_Bool (eqb b c)) [
  | inl same ↦ get_or-set_at marks c b true false (eqb-true b c same) inside ∙ sym
      (ap (λ t. was || t) same ∙ grind arith)
  | inr other ↦ get_or-set_other marks c b true false (eqb-false b c other) ∙ e ∙
      sym (ap (λ t. was || t) other ∙ grind arith)
]

ascii_more : (was : Bool) (c d : ℕ) → (was ≡ true → c < 128) → d < 128 → (was || eqb c d) ≡ true → c < 128
ascii_more true c d before low e = before refl
ascii_more false c d before low e = omega (arith, eqb-true c d e)

pub Marks-more : (set : List ℕ) (i c : ℕ) (marks : List Bool) → i < length set → c ≡ get_or set i 0 → c < 128 →
    Marks (take i set) marks
    → Marks (take (i + 1) set) (written marks c true)
Marks-more set i c marks inside is low had =
    let more =
    λ (b : ℕ). list_any_more (λ d. eqb b d) set i 0 inside ∙ ap (λ d. is_in (take i set) b || eqb b d)
    (sym is) in
    record {
      size = length-set marks c true ∙ had.size;
      ascii = λ b e. ascii_more (is_in (take i set) b) b c (had.ascii b) low (sym (more b) ∙ e);
      marked = λ b. marked_more marks c b (is_in (take i set) b) (omega (arith, had.size)) (had.marked b) ∙
          sym (more b);
    }

not_in : (t : Bool) → (t ≡ true → ⊥) → t ≡ false
not_in true h = absurd (h refl)
not_in false h = refl

-- where no byte is one of an ASCII set, no character is
none_pass : (set cs : List ℕ) → ((c : ℕ) → is_in set c ≡ true → c < 128)
    → ((k : ℕ) → k < length (encode_utf8_all cs) → is_in set (get_or (encode_utf8_all cs) k 0) ≡ false) →
    NonePass (is_in set) cs
none_pass set [] ascii free = tt
none_pass set (c ∷ cs) ascii free = (
  not_in (is_in set c) (λ e.
      let one : encode_utf8_all (c ∷ cs) ≡ c ∷ encode_utf8_all cs =
      ap (λ l. l ++ encode_utf8_all cs) (encode_ascii c (ascii c e)) in
      let first = subst (λ l. (k : ℕ) → k < length l → is_in set (get_or l k 0) ≡ false) one free in
      both_ways (is_in set c) (first 0 (omega arith)) e),
  none_pass set cs ascii (λ k inside.
      ap (is_in set) (sym (get_or-append-add (encode_utf8 c) (encode_utf8_all cs) k 0))
      ∙ free (length (encode_utf8 c) + k) (omega (arith, length-append (encode_utf8 c) (encode_utf8_all cs)))),
)

first_byte : (bs : List ℕ) (c : ℕ) → IsUtf8 bs → slice_get (chars bs) 0 ≡ Some c → 0 < length bs → get_or bs 0 0 < 128 →
    c ≡ get_or bs 0 0
first_byte bs c u first some low = let begun = begins bs c u first in char_from_byte bs begun.0 c begun.1 low some

-- the bytes before the first that is marked are a run without a character of the set
pub run_before : (set bs run : List ℕ) (marks : List Bool) (i : ℕ) → IsUtf8 bs → Marks set marks → i ≤ length bs
    → ((k : ℕ) → k < i → is_marked marks (slice_index bs k) ≡ false)
    → (i < length bs → is_marked marks (slice_index bs i) ≡ true) → run ≡ take i bs → IsRunOutside set bs run
run_before set bs run marks i u had within free stop e =
    let stops = λ (h : i < length bs). sym (had.marked (get_or bs i 0)) ∙ stop h in
    let cut : IsCharBoundary bs i = (within, λ h high. absurd (omega (arith, had.ascii _ (stops h)))) in
    let text = encodes-chars (take i bs) (IsUtf8-take bs i u cut) in
    let bytes = λ (k : ℕ) (h : k < length (take i bs)).
    let inside : k < i = omega (arith, length-take-le i bs within) in
    ap (is_in set) (get_or-take i bs k 0 inside) ∙ sym (had.marked (get_or bs k 0)) ∙ free k inside
    in
    let none = none_pass set (chars (take i bs)) had.ascii
    (subst (λ l. (k : ℕ) → k < length l → is_in set (get_or l k 0) ≡ false) (sym text) bytes)
    in
    run_upto set bs run i u cut e (
      chars (take i bs),
      text,
      none,
    ) (λ c first outside none. elim (cases_lt 0 (length bs)) [
      | inl some ↦
          let is_stop : is_in set (get_or bs 0 0) ≡ true =
          subst (λ n. is_in set (get_or bs n 0) ≡ true) none (stops (omega arith)) in
          both_ways (is_in set c) outside (ap (is_in set) (first_byte bs c u first some (had.ascii _ is_stop)) ∙
          is_stop)
      | inr gone ↦ none-some c (sym (ap (λ l. slice_get l 0) (ap chars (nil_from_length bs (omega arith)) ∙ chars-nil))
          ∙ first)
    ])

-- the same, of bytes and a length that go by other names
pub run_before_at : (set bs bytes run : List ℕ) (marks : List Bool) (i n : ℕ) → IsUtf8 bs → Marks set marks →
    bytes ≡ bs → n ≡ i
    → i ≤ length bytes → ((k : ℕ) → k < i → is_marked marks (slice_index bytes k) ≡ false)
    → (i < length bytes → is_marked marks (slice_index bytes i) ≡ true) → run ≡ take n bs → IsRunOutside set bs run
run_before_at set bs bytes run marks i n u had same at within free stop e =
    subst (λ l. IsRunOutside set l run) same
    (run_before set bytes run marks i (subst IsUtf8 (sym same) u) had within free stop
    (e ∙ ap (λ m. take m bs) at ∙ ap (take i) (sym same)))

one_begins : (c : ℕ) → count_by begins_character (encode c) ≡ 1
unfolding encode
one_begins c = grind (arith, nat_tests)

begun_each : (cs : List ℕ) → count_by begins_character (encode_utf8_all cs) ≡ length cs
begun_each [] = refl
begun_each (c ∷ cs) =
    omega (
      arith,
      sum_by-append (λ b. cond (begins_character b) 1 0) (encode_utf8 c) (encode_utf8_all cs),
      one_begins c,
      begun_each cs,
    )

-- a text has as many characters as bytes that begin one
pub begun : (bs : List ℕ) → IsUtf8 bs → count_by begins_character bs ≡ length (chars bs)
begun bs u = ap (count_by begins_character) (sym (encodes-chars bs u)) ∙ begun_each (chars bs)

-- where none are left, all were counted
pub counted_all : (rest : List ℕ) (count : ℕ) → eqb (length rest) 0 ≡ true
    → count ≡ count + count_by begins_character rest
counted_all rest count none =
    grind (arith, ap (count_by begins_character) (nil_from_length rest (eqb-true (length rest) 0 none)))
