-- A text in lower case beside a word, character by character.
use Rattle.std.proofs.Common.{◌≡◌, ◌≢◌, ◌<◌, [], ◌∷◌, ◌++◌, ◌∙◌, Bor, IsTrue, IsUtf8, List, MatchOption, None, Option}
use Rattle.std.proofs.Common.{Some, ap, append-nil, append_assoc, arith, bytes_eq, chars, drop, encode_utf8, eqb, false}
use Rattle.std.proofs.Common.{is_some, length, refl, subst, suc, sym, take, true, zero, ℕ}
use Rattle.std.specs.Bool.{nat_lt}
use Rattle.std.specs.Char.{to_ascii_lowercase}
use Rattle.std.specs.Str.{IsAscii}
use Rattle.std.proofs.lemmas.Bool.{and_parts, ltb-true, false_from_ne_true, ne_eqb}
use Rattle.std.proofs.lemmas.List.{append_cancel_left, nil_from_length, take-append-drop, take_at}
use Rattle.std.proofs.lemmas.Slice.Eq.{bytes_eq-Decides}
use Rattle.std.proofs.lemmas.Str.{chars-IsAscii, chars-nil, chars_past_char, IsUtf8-from_ascii, IsUtf8-past_char}
use Rattle.lex_base.proofs.NameTests.{some_chars}
use Rattle.lex_base.proofs.Utf8Order.{same_by_bytes}
use Rattle.tree_names.specs.Sets.{is_ascii_word}
use Rattle.tree_predicates.specs.Attributes.{in_lower_case}
use Rattle.tree_predicates.specs.Quirks.{begins_with}

ascii_word : (word : List ℕ) → is_ascii_word word ≡ true → IsAscii word
ascii_word [] h i = omega arith
ascii_word (b ∷ bs) h zero = ltb-true b 128 (and_parts (nat_lt b 128) (is_ascii_word bs) h).0
ascii_word (b ∷ bs) h (suc i) = ascii_word bs (and_parts (nat_lt b 128) (is_ascii_word bs) h).1 i

pub word_chars : (word : List ℕ) → IsTrue (is_ascii_word word) → chars word ≡ word
word_chars word h = chars-IsAscii word (ascii_word word h)

pub same_word : (text word : List ℕ) → IsUtf8 text → IsTrue (is_ascii_word word) →
    bytes_eq text word ≡ bytes_eq (chars text) word
same_word text word u h = same_by_bytes text word u (IsUtf8-from_ascii word (ascii_word word h))
    ∙ ap (bytes_eq (chars text)) (word_chars word h)

-- what a text begins with, and what it doesn't
begun : (word rest : List ℕ) → begins_with (word ++ rest) word ≡ true
begun word rest =
    let front : take (length word) (word ++ rest) ≡ word = take_at word rest (length word) refl in
    (bytes_eq-Decides (take (length word) (word ++ rest)) word).1 front

not_begun : (text word : List ℕ) → ((rest : List ℕ) → text ≢ word ++ rest) → begins_with text word ≡ false
not_begun text word h = false_from_ne_true (begins_with text word) (λ e. h (drop (length word) text)
    (sym (take-append-drop (length word) text)
    ∙ ap (λ l. l ++ drop (length word) text) ((bytes_eq-Decides (take (length word) text) word).0 e)))

not_whole : (text word : List ℕ) → text ≢ word → bytes_eq text word ≡ false
not_whole text word h = false_from_ne_true (bytes_eq text word) (λ e. h ((bytes_eq-Decides text word).0 e))

-- so far the text goes like the word: `walked`, and `left` and `more` are to come
pub record IsSpelling (text word walked left more : List ℕ) : Type 0 where
  pub left_text : IsUtf8 left
  pub more_text : IsUtf8 more
  pub text_is : in_lower_case (chars text) ≡ walked ++ in_lower_case (chars left)
  pub word_is : word ≡ walked ++ chars more

pub spelling_start : (text word left more : List ℕ) → IsUtf8 text → IsUtf8 word → left ≡ text → more ≡ word →
    IsSpelling text (chars word) [] left more
spelling_start text word left more u h e f = record {
  left_text = subst IsUtf8 (sym e) u;
  more_text = subst IsUtf8 (sym f) h;
  text_is = ap (λ l. in_lower_case (chars l)) (sym e);
  word_is = ap chars (sym f);
}

nothing : (bs : List ℕ) → length bs ≡ 0 → chars bs ≡ []
nothing bs none = ap chars (nil_from_length bs none) ∙ chars-nil

no_cons : (c : ℕ) (cs : List ℕ) → [] ≢ c ∷ cs
no_cons c cs e = cc

same_head : (a b : ℕ) (xs ys : List ℕ) → a ∷ xs ≡ b ∷ ys → a ≡ b
same_head a b xs ys e = cc

module _ (text word walked left more : List ℕ) (h : IsSpelling text word walked left more) where
  word_on : (w : ℕ) (later : List ℕ) → more ≡ encode_utf8 w ++ later → word ≡ walked ++ w ∷ chars later
  word_on w later e = h.word_is ∙ ap (λ l. walked ++ l) (chars_past_char more later w h.more_text e)

  text_on : (c : ℕ) (rest : List ℕ) → left ≡ encode_utf8 c ++ rest →
      in_lower_case (chars text) ≡ walked ++ to_ascii_lowercase c ∷ in_lower_case (chars rest)
  text_on c rest e = h.text_is
      ∙ ap (λ l. walked ++ in_lower_case l) (chars_past_char left rest c h.left_text e)

  pub spelling_short : (w : ℕ) (later : List ℕ) → more ≡ encode_utf8 w ++ later → length left ≡ 0 →
      begins_with (in_lower_case (chars text)) word ≡ false
  spelling_short w later e none = not_begun (in_lower_case (chars text)) word (λ rest same.
      no_cons w (chars later ++ rest) (append_cancel_left walked [] (w ∷ chars later ++ rest)
      (sym (h.text_is ∙ ap (λ l. walked ++ in_lower_case l) (nothing left none))
      ∙ same ∙ ap (λ l. l ++ rest) (word_on w later e) ∙ append_assoc walked (w ∷ chars later) rest)))

  pub spelling_differs : (w c : ℕ) (later rest : List ℕ) → more ≡ encode_utf8 w ++ later →
      left ≡ encode_utf8 c ++ rest → to_ascii_lowercase c ≢ w → begins_with (in_lower_case (chars text)) word ≡ false
  spelling_differs w c later rest e f fails = not_begun (in_lower_case (chars text)) word (λ trailing same.
      fails (same_head (to_ascii_lowercase c) w (in_lower_case (chars rest)) (chars later ++ trailing)
      (append_cancel_left walked (to_ascii_lowercase c ∷ in_lower_case (chars rest)) (w ∷ chars later ++ trailing)
      (sym (text_on c rest f) ∙ same ∙ ap (λ l. l ++ trailing) (word_on w later e)
      ∙ append_assoc walked (w ∷ chars later) trailing))))

  pub spelling_more : (w c : ℕ) (later rest : List ℕ) → more ≡ encode_utf8 w ++ later → left ≡ encode_utf8 c ++ rest →
      to_ascii_lowercase c ≡ w → IsSpelling text word (walked ++ w ∷ []) rest later
  spelling_more w c later rest e f same = record {
    left_text = IsUtf8-past_char left rest c h.left_text f;
    more_text = IsUtf8-past_char more later w h.more_text e;
    text_is = text_on c rest f ∙ ap (λ d. walked ++ d ∷ in_lower_case (chars rest)) same
        ∙ sym (append_assoc walked (w ∷ []) (in_lower_case (chars rest)));
    word_is = word_on w later e ∙ sym (append_assoc walked (w ∷ []) (chars later));
  }

  pub spelling_ends : length more ≡ 0 → in_lower_case (chars text) ≡ word ++ in_lower_case (chars left)
  spelling_ends none = h.text_is ∙ ap (λ l. l ++ in_lower_case (chars left))
      (sym (h.word_is ∙ ap (λ l. walked ++ l) (nothing more none) ∙ append-nil walked))

-- what follows a word says whether the text begins with it, and whether it is the word
abbrev pub IsAfter : (text word : List ℕ) → Option (Bor (List ℕ)) → Type 0
IsAfter text word r = MatchOption r (begins_with (in_lower_case text) word ≡ false)
    (λ rest. in_lower_case text ≡ word ++ in_lower_case (chars rest.now))

pub nothing_after : (text word : List ℕ) (r : Option (Bor (List ℕ))) → r ≡ None →
    begins_with (in_lower_case text) word ≡ false → IsAfter text word r
nothing_after text word r e h = subst (IsAfter text word) (sym e) h

pub begins : (text word : List ℕ) (r : Option (Bor (List ℕ))) → IsAfter text word r →
    is_some r ≡ begins_with (in_lower_case text) word
begins text word None h = sym h
begins text word (Some rest) h = sym (ap (λ l. begins_with l word) h ∙ begun word (in_lower_case (chars rest.now)))

left_over : (cs : List ℕ) → 0 < length cs → [] ≢ in_lower_case cs
left_over [] h e = omega arith
left_over (c ∷ cs) h e = no_cons (to_ascii_lowercase c) (in_lower_case cs) e

-- a text that doesn't begin with the word isn't the word
pub not_the_word : (text word : List ℕ) → begins_with text word ≡ false → false ≡ bytes_eq text word
not_the_word text word h = sym (not_whole text word (λ e. true_isnt_false
    (sym (ap (λ l. begins_with l word) (e ∙ sym (append-nil word)) ∙ begun word []) ∙ h))) where
      true_isnt_false : ¬ (true ≡ false)
      true_isnt_false e = cc

-- the word is the whole text where nothing is left
pub is_whole : (text word left : List ℕ) → IsUtf8 left → in_lower_case text ≡ word ++ in_lower_case (chars left) →
    eqb (length left) 0 ≡ bytes_eq (in_lower_case text) word
is_whole text word [] u h = sym ((bytes_eq-Decides (in_lower_case text) word).1
    (h ∙ ap (λ l. word ++ in_lower_case l) chars-nil ∙ append-nil word))
is_whole text word (b ∷ bs) u h =
    let more : eqb (length (b ∷ bs)) 0 ≡ false = ne_eqb (length (b ∷ bs)) 0 (λ e. omega arith) in
    more ∙ sym (not_whole (in_lower_case text) word (λ e. left_over (chars (b ∷ bs)) (some_chars (b ∷ bs) u more)
    (append_cancel_left word [] (in_lower_case (chars (b ∷ bs))) (append-nil word ∙ sym e ∙ h))))
