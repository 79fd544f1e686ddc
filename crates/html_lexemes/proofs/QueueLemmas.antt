-- What calls on the bytes of a text say of a queue's characters.
use Rattle.std.proofs.Common.{◌≡◌, ◌+◌, ◌-◌, ◌^◌, ◌<◌, ◌≤◌, [], ◌∷◌, ◌++◌, ◌∙◌, IsTrue, IsUtf8, List, Some, String, ap}
use Rattle.std.proofs.Common.{append_assoc, arith, chars, drop, encode_utf8, encode_utf8_all, eqb, length, length-drop}
use Rattle.std.proofs.Common.{min, refl, slice_get, string_bytes, sym, take, ℕ}
use Rattle.std.proofs.lemmas.Bool.{eqb-true, eq-eqb}
use Rattle.std.proofs.lemmas.List.{take-append-drop, drop_all, drop_at, drop-drop, length-take-le}
use Rattle.std.proofs.lemmas.Option.{none-some, same_Some}
use Rattle.std.proofs.lemmas.Str.{IsCharBoundary-past_char, IsUtf8-drop, IsUtf8-take, chars-append, chars-nil}
use Rattle.std.proofs.lemmas.Str.{chars_past_char, drop_past_char, encodes-chars}
use Rattle.std.specs.Char.{len_utf8}
use Rattle.std.specs.Str.{IsCharBoundary}
use Rattle.std.specs.String.{string_len}
use Rattle.html_lexemes.specs.Queue.{Queue, Takes}

abbrev pub queue_of : List ℕ → ℕ → Queue
queue_of text taken = record { text = text; taken = taken }

pub string_length : {Z : Type 0} (s : String Z) → string_len s ≡ length (string_bytes s)
string_length s = s.bytes.ok.0

pub some_left : (cs : List ℕ) → (cs ≡ [] → ⊥) → 0 < length cs
some_left [] h = absurd (h refl)
some_left (c ∷ cs) h = omega arith

pub queue_same : {l m : List ℕ} {a b : ℕ} → l ≡ m → a ≡ b → queue_of l a ≡ queue_of m b
queue_same {l} {m} {a} {b} e f = ap (λ (k : List ℕ). queue_of k a) e ∙ ap (λ (n : ℕ). queue_of m n) f

pub Takes-from : (old : Queue) (cs left : List ℕ) (had count taken : ℕ) → cs ++ left ≡ old.text → had ≡ old.taken →
    count ≡ length cs → taken ≡ min (had + count) (2 ^ 64 - 1)
    → Takes old cs (queue_of left taken)
Takes-from old cs left had count taken e h n t = record { text = sym e; taken = rw (← h, ← n) t }

pub no_characters : (bs : List ℕ) → IsUtf8 bs → chars bs ≡ [] → bs ≡ []
no_characters bs u none = sym (encodes-chars bs u) ∙ ap encode_utf8_all none

-- nothing is left just where the rest starts at the text's end
pub ends_at : (bs : List ℕ) (start size : ℕ) → IsUtf8 bs → IsCharBoundary bs start → size ≡ length bs
    → (IsTrue (eqb start size) → chars (drop start bs) ≡ []) × (chars (drop start bs) ≡ [] → IsTrue (eqb start size))
ends_at bs start size u cut e = (
  λ same. ap chars (drop_all start bs (omega (arith, eqb-true start size same))) ∙ chars-nil,
  λ none.
      let gone = no_characters (drop start bs) (IsUtf8-drop bs start u cut) none in
      eq-eqb start size (omega (arith, ap length gone, length-drop start bs, cut.0)),
)

begins_by : (cs bs : List ℕ) (c : ℕ) → encode_utf8_all cs ≡ bs → slice_get cs 0 ≡ Some c →
    (rest : List ℕ) × (bs ≡ encode_utf8 c ++ rest)
begins_by [] bs c e first = absurd (none-some c first)
begins_by (d ∷ ds) bs c e first =
    (encode_utf8_all ds, sym e ∙ ap (λ x. encode_utf8 x ++ encode_utf8_all ds) (same_Some d c first))

-- a text begins with its first character
pub begins : (bs : List ℕ) (c : ℕ) → IsUtf8 bs → slice_get (chars bs) 0 ≡ Some c →
    (rest : List ℕ) × (bs ≡ encode_utf8 c ++ rest)
begins bs c u first = begins_by (chars bs) bs c (encodes-chars bs u) first

-- the place after the first character of what is left
pub record IsPastFirst (bs : List ℕ) (start c past : ℕ) : Type 0 where
  pub boundary : IsCharBoundary bs past
  pub parts : (c ∷ []) ++ chars (drop past bs) ≡ chars (drop start bs)

pub past_first : (bs : List ℕ) (start c width : ℕ) → IsUtf8 bs → IsCharBoundary bs start →
    slice_get (chars (drop start bs)) 0 ≡ Some c → width ≡ len_utf8 c → IsPastFirst bs start c (start + width)
past_first bs start c width u cut first e =
    let text = IsUtf8-drop bs start u cut in
    let begun = begins (drop start bs) c text first in
    rw e
    (record {
      boundary = IsCharBoundary-past_char bs begun.0 start c cut.0 text begun.1;
      parts = ap (λ l. c ∷ chars l) (drop_past_char bs begun.0 start c begun.1) ∙
          sym (chars_past_char (drop start bs) begun.0 c text begun.1);
    })

-- what is left, cut at one of its places
pub past_place : (bs rest : List ℕ) (start size : ℕ) → IsUtf8 rest → rest ≡ drop start bs → IsCharBoundary rest size →
    chars (take size rest) ++ chars (drop (start + size) bs) ≡ chars (drop start bs)
past_place bs rest start size u e cut =
    ap (λ l. chars (take size rest) ++ chars l) (sym (drop-drop size start bs) ∙ ap (drop size) (sym e))
    ∙ sym (chars-append (take size rest) (drop size rest) (IsUtf8-take rest size u cut))
    ∙ ap chars (take-append-drop size rest ∙ e)

-- a run at the front of what is left
pub past_run : (bs rest run : List ℕ) (start size : ℕ) → IsUtf8 rest → rest ≡ drop start bs →
    run ≡ take (length run) rest → IsCharBoundary rest (length run) → size ≡ length run
    → chars run ++ chars (drop (start + size) bs) ≡ chars (drop start bs)
past_run bs rest run start size u e front cut s =
    rw s (ap (λ l. chars l ++ chars (drop (start + length run) bs)) front ∙ past_place bs rest start
    (length run) u e cut)

-- what is left after a text at the end of what was taken was put back
pub put_back : (bs front added : List ℕ) (start size : ℕ) → IsUtf8 added → start ≤ length bs → front ≡ take start bs →
    size ≡ length added → size ≤ length front → front ≡ take (length front - size) front ++ added
    → chars (drop (start - size) bs) ≡ chars added ++ chars (drop start bs)
put_back bs front added start size u low e s fits ends =
    let kept : List ℕ = take (length front - size) front in
    let long : length front ≡ start = ap length e ∙ length-take-le start bs low in
    let short : length kept ≡ start - size =
    length-take-le (length front - size) front (omega arith) ∙ ap (λ n. n - size) long in
    let whole : bs ≡ kept ++ (added ++ drop start bs) =
    sym (take-append-drop start bs) ∙ ap (λ l. l ++ drop start bs) (sym e ∙ ends) ∙
    append_assoc kept added (drop start bs) in
    ap (λ l. chars (drop (start - size) l)) whole ∙
    ap chars (drop_at kept (added ++ drop start bs) (start - size) short) ∙ chars-append added (drop start bs) u
