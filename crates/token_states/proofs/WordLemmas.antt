-- Words of which a front is held, ASCII case aside.
use Rattle.std.proofs.Common.{◌≡◌, ◌≢◌, ◌<◌, ◌≤◌, ◌==◌, ◌&&◌, [], ◌∷◌, ◌++◌, ◌∙◌, Bool, IsUtf8, List, ap, arith, drop}
use Rattle.std.proofs.Common.{encode_utf8_all, false, get_or, length, nat_lt, refl, suc, sym, true, zero, ℕ}
use Rattle.std.proofs.lemmas.Bool.{and_from, and_parts, and_left, and_right}
use Rattle.std.proofs.lemmas.Bool.Decides.{nat_tests}
use Rattle.std.proofs.lemmas.Str.{encode_ascii, encodes-chars}
use Rattle.std.specs.Char.{to_ascii_lowercase}
use Rattle.std.specs.List.{list_all}
use Rattle.std.specs.Str.{chars}
use Rattle.token_grammar.specs.Lexemes.{begins_tag}
use Rattle.token_grammar.specs.Slices.{begins_word, first_passes}
use Rattle.token_grammar.specs.Tags.{ends_tag_name}
use Rattle.token_states.specs.RawHeld.{is_at}
use Rattle.token_states.specs.RawSound.{is_word_front}

-- a character of a word at a place
pub at_some : (c : ℕ) (ws : List ℕ) (n x : ℕ) → n < length ws → x ≡ get_or ws n 0 → (c == x) ≡ is_at c ws n
at_some c [] n x h e = absurd (omega arith)
at_some c (w ∷ ws) zero x h e = ap (λ y. c == y) e
at_some c (w ∷ ws) (suc n) x h e = at_some c ws n x (omega arith) e

pub at_none : (c : ℕ) (ws : List ℕ) (n : ℕ) → length ws ≤ n → false ≡ is_at c ws n
at_none c [] n h = refl
at_none c (w ∷ ws) zero h = absurd (omega arith)
at_none c (w ∷ ws) (suc n) h = at_none c ws n (omega arith)

-- a text of ASCII characters is its own bytes
abbrev pub is_ascii : ℕ → Bool
is_ascii c = nat_lt c 128

ascii_bytes : (cs : List ℕ) → list_all is_ascii cs ≡ true → encode_utf8_all cs ≡ cs
ascii_bytes [] h = refl
ascii_bytes (c ∷ cs) h =
    let p = and_parts (is_ascii c) (list_all is_ascii cs) h in
    ap (λ l. l ++ encode_utf8_all cs) (encode_ascii c (below c p.0)) ∙ ap (λ l. c ∷ l) (ascii_bytes cs p.1) where
      below : (c : ℕ) → is_ascii c ≡ true → c < 128
      below c h = grind (arith, nat_tests)

pub ascii_text : (bs : List ℕ) → IsUtf8 bs → list_all is_ascii (chars bs) ≡ true → bs ≡ chars bs
ascii_text bs u h = sym (encodes-chars bs u) ∙ ascii_bytes (chars bs) h

lower_ascii : (w c : ℕ) → is_ascii w ≡ true → (to_ascii_lowercase c == w) ≡ true → is_ascii c ≡ true
lower_ascii w c a e = grind (arith, nat_tests)

-- a front of an ASCII word
pub front_ascii : (word held : List ℕ) → list_all is_ascii word ≡ true → is_word_front word held ≡ true →
    list_all is_ascii held ≡ true
front_ascii word [] a h = refl
front_ascii [] (c ∷ cs) a h = absurd cc
front_ascii (w ∷ ws) (c ∷ cs) a h =
    let p = and_parts (to_ascii_lowercase c == w) (is_word_front ws cs) h in
    let q = and_parts (is_ascii w) (list_all is_ascii ws) a in
    and_from (is_ascii c) (list_all is_ascii cs) (lower_ascii w c q.0 p.0) (front_ascii ws cs q.1 p.1)

pub front_more : (word held : List ℕ) (c : ℕ) → is_word_front word held ≡ true →
    is_at (to_ascii_lowercase c) word (length held) ≡ true → is_word_front word (held ++ c ∷ []) ≡ true
front_more [] [] c h a = absurd cc
front_more (w ∷ ws) [] c h a = and_from (to_ascii_lowercase c == w) true a refl
front_more [] (d ∷ ds) c h a = absurd cc
front_more (w ∷ ws) (d ∷ ds) c h a =
    let p = and_parts (to_ascii_lowercase d == w) (is_word_front ws ds) h in
    and_from (to_ascii_lowercase d == w) (is_word_front ws (ds ++ c ∷ [])) p.0 (front_more ws ds c p.1 a)

-- what is held, before a character that does not go on with the word
pub front_stops : (word held : List ℕ) (c : ℕ) (rest : List ℕ) → is_word_front word held ≡ true →
    is_at (to_ascii_lowercase c) word (length held) ≡ false → length held ≢ length word →
    begins_word word (held ++ c ∷ rest) ≡ false
front_stops [] [] c rest h a n = absurd (n refl)
front_stops (w ∷ ws) [] c rest h a n = and_left (to_ascii_lowercase c == w) (begins_word ws rest) a
front_stops [] (d ∷ ds) c rest h a n = absurd cc
front_stops (w ∷ ws) (d ∷ ds) c rest h a n =
    let p = and_parts (to_ascii_lowercase d == w) (is_word_front ws ds) h in
    and_right (to_ascii_lowercase d == w) (begins_word ws (ds ++ c ∷ rest))
    (front_stops ws ds c rest p.1 a (λ e. n (ap suc e)))

front_whole : (word held rest : List ℕ) → is_word_front word held ≡ true → length held ≡ length word →
    begins_word word (held ++ rest) ≡ true
front_whole [] [] rest h n = refl
front_whole (w ∷ ws) [] rest h n = absurd (omega arith)
front_whole [] (d ∷ ds) rest h n = absurd cc
front_whole (w ∷ ws) (d ∷ ds) rest h n =
    let p = and_parts (to_ascii_lowercase d == w) (is_word_front ws ds) h in
    and_from (to_ascii_lowercase d == w) (begins_word ws (ds ++ rest)) p.0 (front_whole ws ds rest p.1 (omega arith))

past_front : (word held rest : List ℕ) → length held ≡ length word → drop (length word) (held ++ rest) ≡ rest
past_front [] [] rest n = refl
past_front (w ∷ ws) [] rest n = absurd (omega arith)
past_front [] (d ∷ ds) rest n = absurd (omega arith)
past_front (w ∷ ws) (d ∷ ds) rest n = past_front ws ds rest (omega arith)

pub no_word_yet : (word held : List ℕ) (c : ℕ) (rest : List ℕ) → is_word_front word held ≡ true →
    is_at (to_ascii_lowercase c) word (length held) ≡ false → length held ≢ length word →
    begins_tag word (held ++ c ∷ rest) ≡ false
no_word_yet word held c rest h a n =
    and_left (begins_word word (held ++ c ∷ rest)) _ (front_stops word held c rest h a n)

pub whole_word : (word held : List ℕ) (c : ℕ) (rest : List ℕ) (b : Bool) → is_word_front word held ≡ true →
    length held ≡ length word → ends_tag_name c ≡ b → begins_tag word (held ++ c ∷ rest) ≡ b
whole_word word held c rest b h n e =
    ap (λ t. t && first_passes ends_tag_name (drop (length word) (held ++ c ∷ rest)))
    (front_whole word held (c ∷ rest) h n)
    ∙ ap (first_passes ends_tag_name) (past_front word held (c ∷ rest) n) ∙ e
