-- Words with a space after the last one: how they are found in a text, and how the space is put there and taken off.
use Rattle.std.proofs.Common.{◌≡◌, ◌≢◌, ◌+◌, ◌-◌, ◌≤◌, [], ◌∷◌, ◌++◌, ◌∙◌, ◌&&◌, Bool, IsUtf8, List, ap, append_assoc}
use Rattle.std.proofs.Common.{arith, chars, encode_utf8, false, inr, length, refl, sym, true, ℕ}
use Rattle.std.specs.Char.{IsScalar}
use Rattle.std.proofs.lemmas.List.{length-append}
use Rattle.std.proofs.lemmas.Str.{chars-nil, chars-append, chars-IsAscii}
use Rattle.std.proofs.lemmas.Str.Ascii.{IsAscii-nil, IsAscii-push}
use Rattle.std.proofs.lemmas.Bool.{eqb-true}
use Rattle.std.proofs.Math.Dec.{eqb}
use lib.Pointwise.{pointwise}
use Rattle.text_lines.proofs.Joins.{chars_of_one}
use Rattle.text_normal.specs.SpacedWords.{EndsVisibly, HasRun, HasWords, IsEnded, IsLineAndSpace, IsVisible}
use Rattle.text_normal.specs.SpacedWords.{IsWordsAndSpace, spaced}
use Rattle.text_normal.proofs.SpacedLemmas.{some_length, fits_words}

-- ---- words and a space

pub words_end : (text rest : List ℕ) (n room : ℕ) → HasWords text rest n room → chars rest ≡ 0x20 ∷ []
    → IsWordsAndSpace (chars text) n
words_end text rest n room has space =
    let p = has.parts in
    record {
      words = has.words;
      are_words = has.are_words;
      whole = ap chars p.whole ∙ chars-append p.front rest p.utf8 ∙ ap (λ l. l ++ chars rest) has.whole
          ∙ ap (λ l. spaced has.words ++ l) space;
      counted = has.counted;
    }

line_counted : (first : List ℕ) (words : List (List ℕ)) (n m : ℕ) → n ≡ length first → m ≡ length (spaced words)
    → n + m ≡ length (first ++ spaced words)
line_counted first words n m one other = omega (arith, one, other, length-append first (spaced words))

pub line_ends : (text trailing rest : List ℕ) (n m room : ℕ) → HasRun text trailing n room
    → HasWords trailing rest m (room - n) → n ≢ 0 → chars rest ≡ 0x20 ∷ [] → IsLineAndSpace (chars text) (n + m)
line_ends text trailing rest n m room run has some space =
    let p = run.parts in
    let first = chars p.front in
    let back = words_end trailing rest m (room - n) has space in
    record {
      first = first;
      words = back.words;
      is_word = record { some = some_length first n run.counted some; visible = run.visible };
      are_words = back.are_words;
      whole = ap chars p.whole ∙ chars-append p.front trailing p.utf8 ∙ ap (λ l. first ++ l) back.whole
          ∙ sym (append_assoc first (spaced back.words) (0x20 ∷ []));
      counted = line_counted first back.words n m run.counted back.counted;
    }

pub line_fits : (text trailing rest : List ℕ) (n m room : ℕ) → HasRun text trailing n room
    → HasWords trailing rest m (room - n) → n + m ≤ room
line_fits text trailing rest n m room run has = fits_words n m room run.fits has.fits

-- ---- the space

pub visible_end : (text front : List ℕ) (c : ℕ) → IsUtf8 front → IsScalar c → text ≡ front ++ encode_utf8 c →
    IsVisible c
    → EndsVisibly (chars text)
visible_end text front c utf8 scalar split visible =
    record {
      front = chars front;
      last = c;
      whole = ap chars split ∙ chars-append front (encode_utf8 c) utf8
          ∙ ap (λ l. chars front ++ l) (chars_of_one c scalar);
      visible = visible;
    }

pub space_after : (text ended : List ℕ) → IsUtf8 text → EndsVisibly (chars text) → ended ≡ text ++ encode_utf8 0x20
    → IsScalar 0x20 → IsEnded (chars text) (chars ended)
space_after text ended utf8 visible pushed scalar =
    inr (
      visible,
      ap chars pushed ∙ chars-append text (encode_utf8 0x20) utf8 ∙ ap (λ l. chars text ++ l)
          (chars_of_one 0x20 scalar),
    )

last_equal : (xs ys : List ℕ) (x y : ℕ) → xs ++ x ∷ [] ≡ ys ++ y ∷ [] → xs ≡ ys
last_equal [] [] x y e = refl
last_equal [] (b ∷ ys) x y e = absurd (omega (arith, ap length e, length-append ys (y ∷ [])))
last_equal (a ∷ xs) [] x y e = absurd (omega (arith, ap length e, length-append xs (x ∷ [])))
last_equal (a ∷ xs) (b ∷ ys) x y e =
    let head : a ≡ b = cc in
    let tail : xs ++ x ∷ [] ≡ ys ++ y ∷ [] = cc in
    ap (λ h. h ∷ xs) head ∙ ap (λ t. b ∷ t) (last_equal xs ys x y tail)

pub last_taken : (old new front : List ℕ) (last c : ℕ) → IsUtf8 new → IsScalar c → old ≡ new ++ encode_utf8 c
    → chars old ≡ front ++ last ∷ [] → chars new ≡ front
last_taken old new front last c utf8 scalar split whole =
    last_equal (chars new) front c last
    (sym (ap chars split ∙ chars-append new (encode_utf8 c) utf8 ∙ ap (λ l. chars new ++ l) (chars_of_one c scalar)) ∙
    whole)

both : (a b : Bool) → (a && b) ≡ true → (a ≡ true) × (b ≡ true)
both true b e = (refl, e)
both false b e = cc

pub space_only : (bs : List ℕ) → pointwise eqb bs (0x20 ∷ []) ≡ true → chars bs ≡ 0x20 ∷ []
space_only [] e = cc
space_only (b ∷ []) e =
    ap (λ c. chars (c ∷ [])) (eqb-true b 0x20 (both (eqb b 0x20) true e).0)
    ∙ chars-IsAscii (0x20 ∷ []) (IsAscii-push [] 0x20 IsAscii-nil (omega arith))
space_only (b ∷ c ∷ bs) e = absurd (no_more (both (eqb b 0x20) (pointwise eqb (c ∷ bs) []) e).1)
  where
    no_more : false ≡ true → ⊥
    no_more h = cc

pub none_taken : (bs front : List ℕ) (n last : ℕ) → n ≡ length bs → n ≡ 0 → chars bs ≡ front ++ last ∷ [] → ⊥
none_taken [] front n last counted none whole =
    omega (arith, ap length (sym chars-nil ∙ whole), length-append front (last ∷ []))
none_taken (b ∷ bs) front n last counted none whole = omega (arith, counted, none)
