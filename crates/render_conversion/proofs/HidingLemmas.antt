-- White space, words and declarations, one step more at a time.
use Rattle.std.proofs.Common.{◌≡◌, ◌≢◌, ◌+◌, ◌<◌, ◌≤◌, ◌||◌, ◌&&◌, [], ◌∷◌, ◌∙◌, Bool, IfSome, IsTrue, IsUtf8, List}
use Rattle.std.proofs.Common.{None}
use Rattle.std.proofs.Common.{Option, Some, ap, arith, chars, drop, eqb, false, if◌then◌else◌, length, length-drop}
use Rattle.std.proofs.Common.{encode_utf8_all, refl, slice_index_or, subst, suc, sym, true, ℕ, ◌==◌}
use Rattle.std.specs.Borrow.{Bor}
use Rattle.std.specs.Char.{is_ascii_whitespace}
use Rattle.std.specs.List.{list_any}
use Rattle.std.specs.Option.{option_and_then}
use Rattle.std.proofs.lemmas.Bool.{and_parts, ne_eqb}
use Rattle.std.proofs.lemmas.List.{drop_more, nil_from_length}
use Rattle.std.proofs.lemmas.Str.{chars-nil, encodes-chars}
use Rattle.token_grammar.specs.Slices.{Cut, after, after_word, cut, cut_here}
use Rattle.tree_names.specs.Sets.{are_ascii, is_ascii_word, words_of}
use Rattle.tree_predicates.proofs.WordLemmas.{word_chars}
use Rattle.render_conversion.specs.Hiding.{after_words, declarations, first_longer, is_blank, is_display_none, trimmed}

abbrev is_nil : List ℕ → Bool
is_nil [] = true
is_nil (c ∷ cs) = false

some_nil : (cs : List ℕ) → cs ≢ [] → false ≡ is_nil cs
some_nil [] h = absurd (h refl)
some_nil (c ∷ cs) h = refl

no_bytes : (bs : List ℕ) → IsUtf8 bs → eqb (length bs) 0 ≡ is_nil (chars bs)
no_bytes [] u = ap is_nil (sym chars-nil)
no_bytes (b ∷ bs) u = ne_eqb (length (b ∷ bs)) 0 (λ e. absurd (omega (arith, e)))
    ∙ some_nil (chars (b ∷ bs)) (λ e. absurd (let k : b ∷ bs ≡ [] =
    sym (encodes-chars (b ∷ bs) u) ∙ ap encode_utf8_all e in cc))

blank_step : (b : Bool) (c : ℕ) (cs : List ℕ) → is_blank cs ≡ is_nil (trimmed cs)
    → (b && is_blank cs) ≡ is_nil (if b then trimmed cs else c ∷ cs)
blank_step true c cs e = e
blank_step false c cs e = refl

blank_by : (cs : List ℕ) → is_blank cs ≡ is_nil (trimmed cs)
blank_by [] = refl
blank_by (c ∷ cs) = blank_step (is_ascii_whitespace c) c cs (blank_by cs)

-- white space is all that there is where nothing is left without it
pub blank_is : (cs bs : List ℕ) → IsUtf8 bs → chars bs ≡ trimmed cs → eqb (length bs) 0 ≡ is_blank cs
blank_is cs bs u e = no_bytes bs u ∙ ap is_nil e ∙ sym (blank_by cs)

-- ---- words

next_after : (words : List (Bor (List ℕ))) (i : ℕ) (d : Bor (List ℕ)) (cs : List ℕ) → i < length words
    → after_words (words_of (drop i words)) cs
    ≡ option_and_then (after_words (words_of (drop (i + 1) words)))
    (after_word (slice_index_or words i d).now (trimmed cs))
next_after words i d cs more = ap (λ l. after_words (words_of l) cs) (drop_more words i d more)

-- a word is read, and the other words are to be read of what is left
pub word_read : (words : List (Bor (List ℕ))) (i : ℕ) (d : Bor (List ℕ)) (cs front : List ℕ) (found : Option (List ℕ))
    → i < length words → IsTrue (are_ascii (words_of (drop i words))) → front ≡ trimmed cs
    → found ≡ after_word (chars (slice_index_or words i d).now) front
    → after_words (words_of (drop i words)) cs
    ≡ option_and_then (after_words (words_of (drop (i + 1) words))) found
word_read words i d cs front found more ascii is read =
    let word = (slice_index_or words i d).now in
    let first = (and_parts (is_ascii_word word) (are_ascii (words_of (drop (i + 1) words)))
    (subst (λ l. IsTrue (are_ascii (words_of l))) (drop_more words i d more) ascii)).0 in
    next_after words i d cs more ∙ ap (option_and_then (after_words (words_of (drop (i + 1) words))))
    (sym (read ∙ ap (λ w. after_word w front) (word_chars word first) ∙ ap (after_word word) is))

pub none_after : (words : List (Bor (List ℕ))) (i : ℕ) (cs : List ℕ) → length words ≤ i
    → after_words (words_of (drop i words)) cs ≡ Some cs
none_after words i cs h =
    ap (λ l. after_words (words_of l) cs) (nil_from_length (drop i words) (omega (arith, length-drop i words)))

-- ---- declarations

abbrev pub semicolon : List ℕ → Option (List ℕ)
semicolon = after (59 ∷ [])

abbrev by_cut : Option Cut → List ℕ → List (List ℕ)
by_cut None cs = cs ∷ []
by_cut (Some k) cs = k.slice ∷ declarations k.rest

cut_step : (b : Bool) (c : ℕ) (cs : List ℕ) (later : Option Cut) → by_cut later cs ≡ declarations cs
    → by_cut (cut_here c (if b && true then Some cs else None) later) (c ∷ cs)
    ≡ (if b then [] ∷ declarations cs else first_longer c (declarations cs))
cut_step true c cs later e = refl
cut_step false c cs None e = ap (first_longer c) e
cut_step false c cs (Some k) e = ap (first_longer c) e

cut_first : (cs : List ℕ) → by_cut (cut semicolon cs) cs ≡ declarations cs
cut_first [] = refl
cut_first (c ∷ cs) = cut_step (c == 59) c cs (cut semicolon cs) (cut_first cs)

abbrev IsLess : ℕ → Option Cut → Type 0
IsLess n found = IfSome found (λ k. length k.rest < n)

less_step : (b : Bool) (c : ℕ) (cs : List ℕ) (later : Option Cut) → IsLess (length cs) later
    → IsLess (suc (length cs)) (cut_here c (if b && true then Some cs else None) later)
less_step true c cs later h = omega arith
less_step false c cs None h = tt
less_step false c cs (Some k) h = omega (arith, h)

less : (cs : List ℕ) → IsLess (length cs) (cut semicolon cs)
less [] = tt
less (c ∷ cs) = less_step (c == 59) c cs (cut semicolon cs) (less cs)

pub less_left : (cs : List ℕ) (k : Cut) → Some k ≡ cut semicolon cs → length k.rest < length cs
less_left cs k e = subst (IsLess (length cs)) (sym e) (less cs)

pub first_of : (cs : List ℕ) (k : Cut) → Some k ≡ cut semicolon cs
    → list_any is_display_none (declarations cs)
    ≡ (is_display_none k.slice || list_any is_display_none (declarations k.rest))
first_of cs k e = ap (list_any is_display_none) (sym (cut_first cs) ∙ ap (λ found. by_cut found cs) (sym e))

or_false : (b : Bool) → (b || false) ≡ b
or_false true = refl
or_false false = refl

pub last_of : (cs : List ℕ) → None ≡ cut semicolon cs
    → list_any is_display_none (declarations cs) ≡ is_display_none cs
last_of cs e = ap (list_any is_display_none) (sym (cut_first cs) ∙ ap (λ found. by_cut found cs) (sym e))
    ∙ or_false (is_display_none cs)
