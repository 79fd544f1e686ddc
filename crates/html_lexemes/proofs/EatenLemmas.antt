-- A text that begins with a pattern is taken, character by character.
use Rattle.std.proofs.Common.{◌≡◌, ◌+◌, ◌^◌, ◌<◌, [], ◌∷◌, ◌++◌, ◌∙◌, Bool, IsUtf8, List, MatchOption, None, Option}
use Rattle.std.proofs.Common.{Some, ap, append-nil, append_assoc, arith, chars, encode_utf8, length, length-append}
use Rattle.std.proofs.Common.{refl, subst, sym, take, true, ℕ}
use Rattle.std.proofs.lemmas.List.{nil_from_length, take_at}
use Rattle.std.proofs.lemmas.Str.{IsUtf8-past_char, chars-nil, chars_past_char}
use Rattle.html_lexemes.specs.Queue.{IsAlike, Eaten, Queue, Takes}
use Rattle.html_lexemes.specs.QueueParts.{Begins, BeginsAlike}
use Rattle.html_lexemes.proofs.ComparedLemmas.{IsAlike-length}

pub begun : (alike : ℕ → ℕ → Bool → Type 0) (text other pattern : List ℕ) (answer : Bool) → answer ≡ true →
    text ≡ other → Begins alike text pattern (Some answer) → BeginsAlike alike other pattern
begun alike text other pattern answer is_true e h =
    subst (λ l. BeginsAlike alike l pattern) e (subst (λ r. Begins alike text pattern (Some r)) is_true h)

-- so many characters were taken as were walked of the pattern, of which `more` is left
pub record IsTaking (old now : Queue) (pattern walked more : List ℕ) : Type 0 where
  pub front : List ℕ
  pub takes : Takes old front now
  pub long : length front ≡ length walked
  pub pattern_is : chars pattern ≡ walked ++ chars more
  pub more_utf8 : IsUtf8 more

pub IsTaking-start : (old : Queue) (pattern more : List ℕ) → old.taken < 2 ^ 64 → IsUtf8 pattern → more ≡ pattern →
    IsTaking old old pattern [] more
IsTaking-start old pattern more fits u e = record {
  front = [];
  takes = record { text = refl; taken = omega (arith, fits) };
  long = refl;
  pattern_is = ap chars (sym e);
  more_utf8 = subst IsUtf8 (sym e) u;
}

module _ (alike : ℕ → ℕ → Bool → Type 0) (old now : Queue) (pattern walked more : List ℕ)
    (b : BeginsAlike alike old.text (chars pattern)) (h : IsTaking old now pattern walked more) where
  size : length old.text ≡ length (chars pattern) + length b.rest
  size = ap length b.text_is ∙ length-append b.front b.rest ∙
      ap (λ n. n + length b.rest) (IsAlike-length alike b.front (chars pattern) b.same)

  pub taken_more : (new : Queue) (r : Option ℕ) (wanted : ℕ) (after : List ℕ) →
      MatchOption r ((now.text ≡ []) × (new ≡ now)) (λ c. Takes now (c ∷ []) new) →
      more ≡ encode_utf8 wanted ++ after → IsTaking old new pattern (walked ++ wanted ∷ []) after
  taken_more new None wanted after step e =
      let walks : length (chars pattern) ≡ length walked + length (wanted ∷ chars after) =
      ap length (h.pattern_is ∙ ap (λ l. walked ++ l) (chars_past_char more after wanted h.more_utf8 e))
      ∙ length-append walked (wanted ∷ chars after) in
      let here : length old.text ≡ length h.front + length now.text =
      ap length h.takes.text ∙ length-append h.front now.text in
      absurd (omega (arith, walks, here, size, h.long, ap length step.0))
  taken_more new (Some c) wanted after step e = record {
    front = h.front ++ c ∷ [];
    takes = record {
      text =
          h.takes.text ∙ ap (λ l. h.front ++ l) step.text ∙ sym (append_assoc h.front (c ∷ []) new.text);
      taken = omega (arith, step.taken, h.takes.taken, length-append h.front (c ∷ []));
    };
    long = omega (arith, h.long, length-append h.front (c ∷ []), length-append walked (wanted ∷ []));
    pattern_is =
        h.pattern_is ∙ ap (λ l. walked ++ l) (chars_past_char more after wanted h.more_utf8 e)
        ∙ sym (append_assoc walked (wanted ∷ []) (chars after));
    more_utf8 = IsUtf8-past_char more after wanted h.more_utf8 e;
  }

  pub all_eaten : length more ≡ 0 → Eaten alike old (chars pattern) now
  all_eaten none =
      let whole : chars pattern ≡ walked =
      h.pattern_is ∙ ap (λ l. walked ++ l) (ap chars (nil_from_length more none) ∙ chars-nil) ∙ append-nil walked in
      let long : length h.front ≡ length b.front =
      h.long ∙ ap length (sym whole) ∙ sym (IsAlike-length alike b.front (chars pattern) b.same) in
      let same : h.front ≡ b.front =
      sym (take_at h.front now.text (length b.front) long)
      ∙ ap (take (length b.front)) (sym h.takes.text ∙ b.text_is)
      ∙ take_at b.front b.rest (length b.front) refl in
      record {
        front = h.front;
        takes = h.takes;
        same = subst (λ l. IsAlike alike l (chars pattern)) (sym same) b.same;
      }
