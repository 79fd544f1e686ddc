-- Words of visible ASCII after single spaces: how they are found in a text.
use Rattle.std.proofs.Common.{◌≡◌, ◌≢◌, ◌+◌, ◌-◌, ◌<◌, ◌≤◌, [], ◌∷◌, ◌++◌, ◌∙◌, List, ap, append-nil, append_assoc}
use Rattle.std.proofs.Common.{arith, chars, encode_utf8, length, refl, suc, sym, ℕ}
use Rattle.std.specs.Char.{IsScalar}
use Rattle.std.proofs.lemmas.List.{length-append}
use Rattle.std.proofs.lemmas.List.Elements.{All-nil, All-same, All-push}
use Rattle.std.proofs.lemmas.Str.{chars-nil, chars-append, IsUtf8-nil, IsUtf8-append, IsUtf8-encode}
use Rattle.text_lines.proofs.Joins.{chars_of_one}
use Rattle.text_pieces.specs.Cuts.{IsAfter}
use Rattle.text_normal.specs.SpacedWords.{IsVisible, IsWord, spaced, HasRun, HasWord, HasWords}

-- ---- a run

abbrev nothing_before : (text : List ℕ) → IsAfter text text
nothing_before text = record { front = []; whole = refl; utf8 = IsUtf8-nil }

pub run_starts : (text : List ℕ) (room : ℕ) → HasRun text text 0 room
run_starts text room = record {
  parts = nothing_before text;
  visible = All-same IsVisible (chars []) [] chars-nil (All-nil IsVisible);
  counted = sym (ap length chars-nil);
  fits = omega arith;
}

pub run_more : (text rest trailing : List ℕ) (c n room : ℕ) → HasRun text rest n room → rest ≡ encode_utf8 c ++ trailing
    → IsScalar c → IsVisible c → n ≢ room → HasRun text trailing (n + 1) room
run_more text rest trailing c n room r split scalar visible some =
    let p = r.parts in
    let front_is = chars-append p.front (encode_utf8 c) p.utf8 ∙ ap (λ l. chars p.front ++ l) (chars_of_one c scalar) in
    record {
      parts = record {
        front = p.front ++ encode_utf8 c;
        whole = p.whole ∙ ap (λ l. p.front ++ l) split ∙ sym (append_assoc p.front (encode_utf8 c) trailing);
        utf8 = IsUtf8-append p.front (encode_utf8 c) p.utf8 (IsUtf8-encode c scalar);
      };
      visible = All-same IsVisible (chars (p.front ++ encode_utf8 c)) (chars p.front ++ c ∷ []) front_is
          (All-push IsVisible (chars p.front) c r.visible visible);
      counted = counted_more (chars p.front) c n _ r.counted front_is;
      fits = fits_more n room r.fits some;
    }
  where
    counted_more : (cs : List ℕ) (c n : ℕ) (all : List ℕ) → n ≡ length cs → all ≡ cs ++ c ∷ [] → n + 1 ≡ length all
    counted_more cs c n all counted all_is = omega (arith, counted, ap length all_is, length-append cs (c ∷ []))

    fits_more : (n room : ℕ) → n ≤ room → n ≢ room → n + 1 ≤ room
    fits_more n room fits some = omega (arith, fits, some)

-- ---- a word

pub some_length : (cs : List ℕ) (n : ℕ) → n ≡ length cs → n ≢ 0 → cs ≢ []
some_length [] n counted some e = some counted
some_length (c ∷ cs) n counted some e = cc

counted_word : (n m : ℕ) → n ≡ m → n + 1 ≡ suc m
counted_word n m h = omega (arith, h)

fits_word : (n room : ℕ) → n ≤ room - 1 → room ≢ 0 → n + 1 ≤ room
fits_word n room fits some = omega (arith, fits, some)

pub word_found : (text trailing rest : List ℕ) (space n room : ℕ) → text ≡ encode_utf8 space ++ trailing → IsScalar space
    → space ≡ 0x20 → HasRun trailing rest n (room - 1) → n ≢ 0 → room ≢ 0 → HasWord text rest (n + 1) room
word_found text trailing rest space n room split scalar is_space r some has_room =
    let p = r.parts in
    record {
      parts = record {
        front = encode_utf8 space ++ p.front;
        whole = split ∙ ap (λ l. encode_utf8 space ++ l) p.whole ∙ sym (append_assoc (encode_utf8 space) p.front rest);
        utf8 = IsUtf8-append (encode_utf8 space) p.front (IsUtf8-encode space scalar) p.utf8;
      };
      word = chars p.front;
      is_word = record { some = some_length (chars p.front) n r.counted some; visible = r.visible };
      whole = chars-append (encode_utf8 space) p.front (IsUtf8-encode space scalar)
          ∙ ap (λ l. l ++ chars p.front) (chars_of_one space scalar) ∙ ap (λ c. c ∷ chars p.front) is_space;
      counted = counted_word n (length (chars p.front)) r.counted;
      fits = fits_word n room r.fits has_room;
    }

-- ---- words

pub words_start : (text : List ℕ) (room : ℕ) → HasWords text text 0 room
words_start text room = record {
  parts = nothing_before text;
  words = [];
  are_words = All-nil IsWord;
  whole = chars-nil;
  counted = refl;
  fits = omega arith;
}

spaced_push : (words : List (List ℕ)) (word : List ℕ) → spaced words ++ 0x20 ∷ word ≡ spaced (words ++ word ∷ [])
spaced_push [] word = ap (λ l. 0x20 ∷ l) (sym (append-nil word))
spaced_push (w ∷ ws) word =
    ap (λ l. 0x20 ∷ l) (append_assoc w (spaced ws) (0x20 ∷ word) ∙ ap (λ l. w ++ l) (spaced_push ws word))

counted_words : (words : List (List ℕ)) (word : List ℕ) (n m : ℕ) → n ≡ length (spaced words) → m ≡ suc (length word)
    → n + m ≡ length (spaced (words ++ word ∷ []))
counted_words words word n m n_is m_is =
    omega (arith, n_is, m_is, ap length (spaced_push words word), length-append (spaced words) (0x20 ∷ word))

pub fits_words : (n m room : ℕ) → n ≤ room → m ≤ room - n → n + m ≤ room
fits_words n m room one other = omega (arith, one, other)

pub words_more : (text rest trailing : List ℕ) (n m room : ℕ) → HasWords text rest n room
    → HasWord rest trailing m (room - n) → HasWords text trailing (n + m) room
words_more text rest trailing n m room all one =
    let p = all.parts in
    let q = one.parts in
    record {
      parts = record {
        front = p.front ++ q.front;
        whole = p.whole ∙ ap (λ l. p.front ++ l) q.whole ∙ sym (append_assoc p.front q.front trailing);
        utf8 = IsUtf8-append p.front q.front p.utf8 q.utf8;
      };
      words = all.words ++ one.word ∷ [];
      are_words = All-push IsWord all.words one.word all.are_words one.is_word;
      whole = chars-append p.front q.front p.utf8 ∙ ap (λ l. l ++ chars q.front) all.whole
          ∙ ap (λ l. spaced all.words ++ l) one.whole ∙ spaced_push all.words one.word;
      counted = counted_words all.words one.word n m all.counted one.counted;
      fits = fits_words n m room all.fits one.fits;
    }

no_front : (front word : List ℕ) → chars front ≡ 0x20 ∷ word → length front ≢ 0
no_front [] word whole e = not_empty (chars []) chars-nil whole
  where
    not_empty : (cs : List ℕ) → cs ≡ [] → cs ≡ 0x20 ∷ word → ⊥
    not_empty cs none some = cc
no_front (b ∷ bs) word whole e = omega (arith, e)

pub word_shorter : (text rest : List ℕ) (n room : ℕ) → HasWord text rest n room → length rest < length text
word_shorter text rest n room has =
    let p = has.parts in
    omega (arith, ap length p.whole, length-append p.front rest, no_front p.front has.word has.whole)
