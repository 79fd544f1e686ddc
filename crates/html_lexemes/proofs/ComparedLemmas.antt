-- How what is left and a pattern are compared, character by character.
use Rattle.std.proofs.Common.{◌≡◌, ◌+◌, ◌<◌, ◌≤◌, [], ◌∷◌, ◌++◌, ◌∙◌, All, Bool, IsUtf8, List, String, ap, append-nil}
use Rattle.std.proofs.Common.{append_assoc, arith, chars, drop, encode_utf8, false, length, refl, slice_index_or}
use Rattle.std.proofs.Common.{string_bytes, subst, suc, sym, true, ℕ}
use Rattle.std.proofs.lemmas.List.{drop_all, drop_more, nil_from_length}
use Rattle.std.proofs.lemmas.Str.{IsUtf8-past_char, IsUtf8-string_bytes, chars-nil, chars_past_char}
use Rattle.html_lexemes.specs.Queue.{IsAlike, EndsInside, Differs}
use Rattle.html_lexemes.specs.QueueParts.{BeginsAlike, IsFilled, joined}

IsAlike-push : (alike : ℕ → ℕ → Bool → Type 0) (cs ps : List ℕ) (c p : ℕ) → IsAlike alike cs ps → alike c p true →
    IsAlike alike (cs ++ c ∷ []) (ps ++ p ∷ [])
IsAlike-push alike [] [] c p same one = (one, tt)
IsAlike-push alike [] (q ∷ ps) c p same one = absurd same
IsAlike-push alike (d ∷ cs) [] c p same one = absurd same
IsAlike-push alike (d ∷ cs) (q ∷ ps) c p same one = (same.0, IsAlike-push alike cs ps c p same.1 one)

pub IsAlike-length : (alike : ℕ → ℕ → Bool → Type 0) (cs ps : List ℕ) → IsAlike alike cs ps → length cs ≡ length ps
IsAlike-length alike [] [] same = refl
IsAlike-length alike [] (q ∷ ps) same = absurd same
IsAlike-length alike (d ∷ cs) [] same = absurd same
IsAlike-length alike (d ∷ cs) (q ∷ ps) same = ap suc (IsAlike-length alike cs ps same.1)

-- So far each character of the pattern that was walked has its like: `rest` is left of the text that is looked at, so
-- many were passed of those that wait, and `more` is left of the pattern.
pub record IsComparing {Z : Type 0} (alike : ℕ → ℕ → Bool → Type 0) (text pattern : List ℕ) (later : List (String Z))
    (rest : List ℕ) (passed : ℕ) (walked more : List ℕ) : Type 0 where
  pub front : List ℕ
  pub text_is : text ≡ front ++ (chars rest ++ joined (drop passed later))
  pub same : IsAlike alike front walked
  pub pattern_is : chars pattern ≡ walked ++ chars more
  pub rest_utf8 : IsUtf8 rest
  pub more_utf8 : IsUtf8 more

pub IsComparing-start : {Z : Type 0} (alike : ℕ → ℕ → Bool → Type 0) (text pattern first : List ℕ)
    (later : List (String Z)) (rest more : List ℕ) → first ++ joined later ≡ text → chars rest ≡ first → IsUtf8 rest →
    IsUtf8 pattern → more ≡ pattern → IsComparing alike text pattern later rest 0 [] more
IsComparing-start alike text pattern first later rest more t r u v e = record {
  front = [];
  text_is = sym (ap (λ l. l ++ joined later) r ∙ t);
  same = tt;
  pattern_is = ap chars (sym e);
  rest_utf8 = u;
  more_utf8 = subst IsUtf8 (sym e) v;
}

module _ {Z : Type 0} (alike : ℕ → ℕ → Bool → Type 0) (text pattern : List ℕ) (later : List (String Z))
    (rest : List ℕ) (passed : ℕ) (walked more : List ℕ)
    (h : IsComparing alike text pattern later rest passed walked more) where
  next_of_pattern : (wanted : ℕ) (after : List ℕ) → more ≡ encode_utf8 wanted ++ after →
      chars pattern ≡ walked ++ wanted ∷ chars after
  next_of_pattern wanted after e =
      h.pattern_is ∙ ap (λ l. walked ++ l) (chars_past_char more after wanted h.more_utf8 e)

  next_of_text : (found : ℕ) (left : List ℕ) → rest ≡ encode_utf8 found ++ left →
      text ≡ h.front ++ found ∷ (chars left ++ joined (drop passed later))
  next_of_text found left e =
      h.text_is ∙ ap (λ l. h.front ++ (l ++ joined (drop passed later))) (chars_past_char rest left found h.rest_utf8 e)

  -- nothing is left of the text that is looked at, and another waits
  pub on_to_next : (next : String Z) (begun : List ℕ) → length rest ≡ 0 → passed < length later →
      next ≡ slice_index_or later passed next → begun ≡ string_bytes next
      → IsComparing alike text pattern later begun (passed + 1) walked more
  on_to_next next begun none within found e = record {
    front = h.front;
    text_is =
        h.text_is
        ∙ ap (λ l. h.front ++ (l ++ joined (drop passed later))) (ap chars (nil_from_length rest none) ∙ chars-nil)
        ∙ ap (λ ts. h.front ++ joined ts)
        (drop_more later passed next within ∙ ap (λ t. t ∷ drop (passed + 1) later) (sym found))
        ∙ ap (λ l. h.front ++ (chars l ++ joined (drop (passed + 1) later))) (sym e);
    same = h.same;
    pattern_is = h.pattern_is;
    rest_utf8 = subst IsUtf8 (sym e) (IsUtf8-string_bytes next);
    more_utf8 = h.more_utf8;
  }

  pub ends_inside : (wanted : ℕ) (after : List ℕ) → more ≡ encode_utf8 wanted ++ after → length rest ≡ 0 →
      length later ≤ passed → EndsInside alike text (chars pattern)
  ends_inside wanted after e none last =
      let whole : text ≡ h.front =
      h.text_is
      ∙ ap (λ l. h.front ++ (l ++ joined (drop passed later))) (ap chars (nil_from_length rest none) ∙ chars-nil)
      ∙ ap (λ ts. h.front ++ joined ts) (drop_all passed later last)
      ∙ append-nil h.front in
      record {
        begun = walked;
        next = wanted;
        more = chars after;
        pattern_is = next_of_pattern wanted after e;
        same = subst (λ l. IsAlike alike l walked) (sym whole) h.same;
      }

  pub differs_here : (found wanted : ℕ) (left after : List ℕ) → rest ≡ encode_utf8 found ++ left →
      more ≡ encode_utf8 wanted ++ after → alike found wanted false → Differs alike text (chars pattern)
  differs_here found wanted left after d e unlike = record {
    front = h.front;
    begun = walked;
    found = found;
    wanted = wanted;
    after = chars left ++ joined (drop passed later);
    more = chars after;
    text_is = next_of_text found left d;
    pattern_is = next_of_pattern wanted after e;
    same = h.same;
    differs = unlike;
  }

  pub begins_alike : length more ≡ 0 → BeginsAlike alike text (chars pattern)
  begins_alike none =
      let whole : chars pattern ≡ walked =
      h.pattern_is ∙ ap (λ l. walked ++ l) (ap chars (nil_from_length more none) ∙ chars-nil) ∙
      append-nil walked in
      record {
        front = h.front;
        rest = chars rest ++ joined (drop passed later);
        text_is = h.text_is;
        same = subst (IsAlike alike h.front) (sym whole) h.same;
      }

  pub compared_more : (found wanted : ℕ) (left after : List ℕ) → rest ≡ encode_utf8 found ++ left →
      more ≡ encode_utf8 wanted ++ after → alike found wanted true
      → IsComparing alike text pattern later left passed (walked ++ wanted ∷ []) after
  compared_more found wanted left after d e one = record {
    front = h.front ++ found ∷ [];
    text_is =
        next_of_text found left d
        ∙ sym (append_assoc h.front (found ∷ []) (chars left ++ joined (drop passed later)));
    same = IsAlike-push alike h.front walked found wanted h.same one;
    pattern_is = next_of_pattern wanted after e ∙ sym (append_assoc walked (wanted ∷ []) (chars after));
    rest_utf8 = IsUtf8-past_char rest left found h.rest_utf8 d;
    more_utf8 = IsUtf8-past_char more after wanted h.more_utf8 e;
  }

-- a text that waits has a character
pub none_waits_empty : {Z : Type 0} (later : List (String Z)) (i : ℕ) (text : String Z) (rest : List ℕ) →
    All IsFilled later → i < length later → text ≡ slice_index_or later i text → rest ≡ string_bytes text →
    length rest ≡ 0 → ⊥
none_waits_empty later i text rest all within found e none =
    let some : IsFilled text = subst IsFilled (sym found) (all i text within) in
    omega (
      arith,
      some,
      ap length (ap chars (sym e ∙ nil_from_length rest none) ∙ chars-nil),
    )

pub moved : {Z : Type 0} {alike : ℕ → ℕ → Bool → Type 0} {text pattern : List ℕ} {later : List (String Z)}
    {rest : List ℕ} {passed : ℕ} {walked more : List ℕ} (begun : List ℕ) (at : ℕ) → begun ≡ rest → at ≡ passed →
    IsComparing alike text pattern later rest passed walked more
    → IsComparing alike text pattern later begun at walked more
moved {Z} {alike} {text} {pattern} {later} {rest} {passed} {walked} {more} begun at e f h =
    rw (e, f) h
