-- Words of ASCII characters.
use Rattle.std.proofs.Common.{◌≡◌, [], ◌∷◌, ◌∙◌, Bool, IsTrue, IsUtf8, List, ap, arith, bytes_eq, chars, false, refl}
use Rattle.std.proofs.Common.{suc, sym, true, true≢false, zero, ℕ}
use Rattle.std.specs.Bool.{nat_lt}
use Rattle.std.specs.Str.{IsAscii}
use Rattle.std.proofs.lemmas.Bool.{and_parts, ltb-true}
use Rattle.std.proofs.lemmas.Slice.Eq.{bytes_eq-Decides}
use Rattle.std.proofs.lemmas.Str.{chars-IsAscii, encodes-chars, IsUtf8-from_ascii}
use Rattle.std.specs.Prelude.{encode_utf8_all}
use Rattle.lex_base.specs.Words.{is_ascii_word}

pub ascii_word : (word : List ℕ) → is_ascii_word word ≡ true → IsAscii word
ascii_word [] h i = omega arith
ascii_word (b ∷ bs) h zero = ltb-true b 128 (and_parts (nat_lt b 128) (is_ascii_word bs) h).0
ascii_word (b ∷ bs) h (suc i) = ascii_word bs (and_parts (nat_lt b 128) (is_ascii_word bs) h).1 i

-- texts are the same where their characters are
same_text : (name word : List ℕ) → IsUtf8 name → IsUtf8 word → (x : Bool) → bytes_eq name word ≡ x → (y : Bool) →
    bytes_eq (chars name) (chars word) ≡ y → x ≡ y
same_text name word u v true p true q = refl
same_text name word u v false p false q = refl
same_text name word u v true p false q = absurd (true≢false (sym ((bytes_eq-Decides (chars name) (chars word)).1
    (ap chars ((bytes_eq-Decides name word).0 p))) ∙ q))
same_text name word u v false p true q = absurd (true≢false (sym ((bytes_eq-Decides name word).1
    (sym (encodes-chars name u) ∙ ap encode_utf8_all ((bytes_eq-Decides (chars name) (chars word)).0 q)
    ∙ encodes-chars word v)) ∙ p))

pub same_word : (name word : List ℕ) → IsUtf8 name → IsTrue (is_ascii_word word) → bytes_eq name word ≡ bytes_eq (chars
    name) word
same_word name word u h =
    let ascii = ascii_word word h in
    same_text name word u (IsUtf8-from_ascii word ascii) _ refl _ refl
    ∙ ap (bytes_eq (chars name)) (chars-IsAscii word ascii)
