-- A name is looked for among words, one after the other.
use Rattle.std.proofs.Common.{◌≡◌, ◌+◌, ◌<◌, ◌≤◌, ◌||◌, ◌∷◌, ◌∙◌, IsTrue, IsUtf8, List, ap, arith, bytes_eq, chars}
use Rattle.std.proofs.Common.{drop, false, length, length-drop, slice_index_or, subst, sym, true, ℕ}
use Rattle.std.specs.Borrow.{Bor}
use Rattle.std.proofs.lemmas.Bool.{and_parts}
use Rattle.std.proofs.lemmas.List.{drop_more, nil_from_length}
pub use Rattle.lex_base.proofs.WordLemmas.{ascii_word, same_word}
use Rattle.tree_names.specs.Sets.{are_ascii, is_ascii_word, is_one_of, words_of}

-- what is found among words, by the first of them
first_word : (word : Bor (List ℕ)) (words : List (Bor (List ℕ))) (name : List ℕ) → IsUtf8 name →
    IsTrue (are_ascii (words_of (word ∷ words))) →
    is_one_of (words_of (word ∷ words)) (chars name) ≡ bytes_eq name word.now || is_one_of (words_of words) (chars name)
first_word word words name u h = ap (λ b. b || is_one_of (words_of words) (chars name))
    (sym (same_word name word.now u (and_parts (is_ascii_word word.now) (are_ascii (words_of words)) h).0))

-- the same after the words that were tried
next_word : (words : List (Bor (List ℕ))) (i : ℕ) (d : Bor (List ℕ)) (name : List ℕ) → IsUtf8 name → i < length words →
    IsTrue (are_ascii (words_of (drop i words))) →
    is_one_of (words_of (drop i words)) (chars name)
    ≡ bytes_eq name (slice_index_or words i d).now || is_one_of (words_of (drop (i + 1) words)) (chars name)
next_word words i d name u more h =
    let split = drop_more words i d more in
    ap (λ l. is_one_of (words_of l) (chars name)) split
    ∙ first_word (slice_index_or words i d) (drop (i + 1) words) name u (subst (λ l. IsTrue (are_ascii (words_of l)))
    split h)

pub other_words : (words : List (Bor (List ℕ))) (i : ℕ) (d : Bor (List ℕ)) → i < length words →
    IsTrue (are_ascii (words_of (drop i words))) → IsTrue (are_ascii (words_of (drop (i + 1) words)))
other_words words i d more h = (and_parts (is_ascii_word (slice_index_or words i d).now) (are_ascii (words_of (drop (i
    + 1) words)))
    (subst (λ l. IsTrue (are_ascii (words_of l))) (drop_more words i d more) h)).1

pub found : (words : List (Bor (List ℕ))) (i : ℕ) (d : Bor (List ℕ)) (name : List ℕ) → IsUtf8 name → i < length words →
    IsTrue (are_ascii (words_of (drop i words))) → true ≡ bytes_eq name (slice_index_or words i d).now →
    true ≡ is_one_of (words_of (drop i words)) (chars name)
found words i d name u more h is =
    ap (λ b. b || is_one_of (words_of (drop (i + 1) words)) (chars name)) is ∙ sym (next_word words i d name u more h)

pub not_found : (words : List (Bor (List ℕ))) (i : ℕ) (d : Bor (List ℕ)) (name : List ℕ) → IsUtf8 name → i < length
    words →
    IsTrue (are_ascii (words_of (drop i words))) → false ≡ bytes_eq name (slice_index_or words i d).now →
    is_one_of (words_of (drop i words)) (chars name) ≡ is_one_of (words_of (drop (i + 1) words)) (chars name)
not_found words i d name u more h isnt = next_word words i d name u more h
    ∙ ap (λ b. b || is_one_of (words_of (drop (i + 1) words)) (chars name)) (sym isnt)

pub none_left : (words : List (Bor (List ℕ))) (i : ℕ) (name : List ℕ) → length words ≤ i →
    false ≡ is_one_of (words_of (drop i words)) (chars name)
none_left words i name h =
    ap (λ l. is_one_of (words_of l) (chars name)) (sym (nil_from_length (drop i words) (omega (
      arith,
      length-drop i
          words,
    ))))
