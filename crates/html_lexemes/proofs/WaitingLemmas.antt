-- What is left of a text and the texts that wait after it, as one.
use Rattle.std.proofs.Common.{◌≡◌, ◌+◌, ◌-◌, ◌^◌, ◌<◌, [], ◌∷◌, ◌++◌, ◌∙◌, All, Bool, Err, List, Ok, OnErr, OnOk}
use Rattle.std.proofs.Common.{Result, String, ap, append-nil, append_assoc, arith, chars, cond, eqb, false, length, min}
use Rattle.std.proofs.Common.{refl, slice_get, string_bytes, subst, sym, true, ℕ}
use Rattle.std.proofs.lemmas.List.Elements.{All-head, All-rest, All-push}
use Rattle.std.proofs.lemmas.Bool.{both_ways, eq-eqb, eqb-true}
use Rattle.std.proofs.lemmas.List.{nil_from_length}
use Rattle.std.proofs.lemmas.Str.{IsUtf8-string_bytes, chars-nil}
use Rattle.std.specs.String.{string_len}
use Rattle.html_lexemes.specs.Queue.{Queue, Takes}
use Rattle.html_lexemes.specs.QueueParts.{IsFilled, IsWaiting, joined}
use Rattle.html_lexemes.proofs.QueueLemmas.{Takes-from, no_characters, queue_of, some_left, string_length}

-- nothing is left where nothing is left of the first
pub none_left : {Z : Type 0} (first : List ℕ) (later : List (String Z)) → IsWaiting first later → first ≡ [] →
    first ++ joined later ≡ []
none_left first later w none = rw (none, w.last none) refl

pub none_first : (first more : List ℕ) → first ++ more ≡ [] → first ≡ []
none_first [] more e = refl
none_first (c ∷ cs) more e = absurd (omega (arith, ap length e))

none_after : (front first : List ℕ) → front ++ first ≡ [] → first ≡ []
none_after [] first e = e
none_after (c ∷ cs) first e = absurd (omega (arith, ap length e))

-- the first character of what is left is that of the first text
pub first_of_first : {Z : Type 0} (first : List ℕ) (later : List (String Z)) → IsWaiting first later →
    slice_get first 0 ≡ slice_get (first ++ joined later) 0
first_of_first [] later w = sym (ap (λ ts. slice_get (joined ts) 0) (w.last refl))
first_of_first (c ∷ cs) later w = refl

pub joined_push : {Z : Type 0} (texts : List (String Z)) (text : String Z) →
    joined (texts ++ text ∷ []) ≡ joined texts ++ chars (string_bytes text)
joined_push [] text = append-nil (chars (string_bytes text))
joined_push (t ∷ texts) text =
    ap (λ l. chars (string_bytes t) ++ l) (joined_push texts text)
    ∙ sym (append_assoc (chars (string_bytes t)) (joined texts) (chars (string_bytes text)))

-- the next text is the first
pub next_waits : {Z : Type 0} (texts later : List (String Z)) (text : String Z) (first : List ℕ) →
    All IsFilled texts → texts ≡ text ∷ later → first ≡ chars (string_bytes text) → IsWaiting first later
next_waits texts later text first all e f =
    let some : 0 < length (chars (string_bytes text)) = All-head IsFilled text later (subst (All IsFilled) e all) in
    record {
      filled = All-rest IsFilled text later texts e all;
      last = λ none. absurd (omega (arith, some, ap length (sym f ∙ none)));
    }

-- one more waits
pub more_wait : {Z : Type 0} (first : List ℕ) (later new : List (String Z)) (text : String Z) (done : Bool) →
    IsWaiting first later → (first ≡ [] → ⊥) → IsFilled text →
    new ≡ cond done (later ++ text ∷ []) later → IsWaiting first new
more_wait first later new text true w some filled e = record {
  filled = subst (All IsFilled) (sym e) (All-push IsFilled later text w.filled filled);
  last = λ none. absurd (some none);
}
more_wait first later new text false w some filled e = subst (IsWaiting first) (sym e) w

-- another is the first, where no other waits
pub alone_waits : {Z : Type 0} (first new : List ℕ) (later : List (String Z)) → IsWaiting first later → first ≡ [] →
    IsWaiting new later
alone_waits first new later w none = record {
  filled = w.filled;
  last = λ _. w.last none;
}

-- more is left of the first
pub put_waits : {Z T E : Type 0} (r : Result T E) (first new text : List ℕ) (later : List (String Z)) →
    IsWaiting first later → OnOk r (new ≡ text ++ first) → OnErr r (new ≡ first) → IsWaiting new later
put_waits (Ok _) first new text later w e f = record {
  filled = w.filled;
  last = λ none. w.last (none_after text first (sym e ∙ none));
}
put_waits (Err _) first new text later w e f = subst (λ l. IsWaiting l later) (sym f) w

-- what a test for an empty text says of its characters
pub filled_text : {Z : Type 0} (text : String Z) (empty : Bool) → empty ≡ eqb (string_len text) 0 → empty ≡ false →
    IsFilled text
filled_text text empty e n =
    some_left (chars (string_bytes text))
    (λ none. both_ways (eqb (string_len text) 0) (sym e ∙ n)
    (eq-eqb (string_len text) 0
    (string_length text ∙ ap length (no_characters (string_bytes text) (IsUtf8-string_bytes text) none))))

pub empty_text : {Z : Type 0} (text : String Z) (empty : Bool) → empty ≡ eqb (string_len text) 0 → empty ≡ true →
    chars (string_bytes text) ≡ []
empty_text text empty e n =
    ap chars (nil_from_length (string_bytes text) (sym (string_length text) ∙ eqb-true (string_len text) 0 (sym e ∙ n)))
    ∙ chars-nil

-- a run at the front of the first text was taken
pub Takes-run : {Z : Type 0} (old : Queue) (first left cs run new : List ℕ) (later : List (String Z))
    (had count taken : ℕ) → first ++ joined later ≡ old.text → had ≡ old.taken → first ≡ cs ++ new → cs ≡ run →
    left ≡ new ++ joined later → count ≡ length cs → taken ≡ min (had + count) (2 ^ 64 - 1)
    → Takes old run (queue_of left taken)
Takes-run old first left cs run new later had count taken whole h split e same n t =
    subst (λ l. Takes old l (queue_of left taken)) e
    (Takes-from old cs left had count taken
    (ap (λ l. cs ++ l) same ∙ sym (append_assoc cs new (joined later)) ∙ ap (λ l. l ++ joined later) (sym split)
    ∙ whole) h n t)
