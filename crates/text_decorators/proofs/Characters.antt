-- The characters of texts that begin in ASCII.
use Rattle.std.proofs.Common.{◌≡◌, ◌<◌, ◌^◌, [], ◌∷◌, ◌++◌, ◌∙◌, FitsSigned, IsAscii, IsUtf8, List, ap, append_assoc}
use Rattle.std.proofs.Common.{arith, codes, refl, replicate, suc, sym, zero, ℕ, ℤ}
use Rattle.std.specs.Fmt.{decimal, signed_decimal}
use Rattle.std.specs.Int.{w64}
use Rattle.std.specs.List.{repeat}
use Rattle.std.specs.Str.{chars}
use Rattle.std.proofs.lemmas.Fmt.{IsAscii-decimal, IsAscii-signed}
use Rattle.std.proofs.lemmas.Int.{to_z-of_z, ints}
use Rattle.std.proofs.lemmas.Str.{chars-append, chars-IsAscii, IsUtf8-from_ascii}
use Rattle.text_decorators.specs.Texts.{footnote_text}
use mir.Val.{to_z, of_z}

pub ascii_first : (bs cs : List ℕ) → IsAscii bs → chars (bs ++ cs) ≡ bs ++ chars cs
ascii_first bs cs ascii = chars-append bs cs (IsUtf8-from_ascii bs ascii)
    ∙ ap (λ (ds : List ℕ). ds ++ chars cs) (chars-IsAscii bs ascii)

dot : chars (codes ". ") ≡ codes ". "
unfolding chars
dot = refl

pub ordered : (z : ℤ) (bs : List ℕ) → FitsSigned w64 z
    → bs ≡ signed_decimal (to_z w64 (of_z w64 z)) ++ codes ". " → chars bs ≡ signed_decimal z ++ codes ". "
ordered z bs fits h = ap chars (h ∙ ap (λ (y : ℤ). signed_decimal y ++ codes ". ") (to_z-of_z w64 z fits))
    ∙ ascii_first (signed_decimal z) (codes ". ") (IsAscii-signed z (omega (arith, ints)))
    ∙ ap (λ (ds : List ℕ). signed_decimal z ++ ds) dot

number_sign : (cs : List ℕ) → chars (0x23 ∷ cs) ≡ 0x23 ∷ chars cs
unfolding chars
number_sign [] = refl
number_sign (c ∷ cs) = refl

space : chars (0x20 ∷ []) ≡ 0x20 ∷ []
unfolding chars
space = refl

number_signs : (n : ℕ) (rest : List ℕ) → chars (repeat n (0x23 ∷ []) ++ rest) ≡ replicate n 0x23 ++ chars rest
number_signs zero rest = refl
number_signs (suc n) rest = number_sign (repeat n (0x23 ∷ []) ++ rest)
    ∙ ap (λ (cs : List ℕ). 0x23 ∷ cs) (number_signs n rest)

pub heading : (n : ℕ) (bs : List ℕ) → bs ≡ repeat n (0x23 ∷ []) ++ (0x20 ∷ [])
    → chars bs ≡ replicate n 0x23 ++ codes " "
heading n bs h = ap chars h ∙ number_signs n (0x20 ∷ []) ∙ ap (λ (cs : List ℕ). replicate n 0x23 ++ cs) space

closing : (cs : List ℕ) → chars (0x5D ∷ 0x3A ∷ 0x20 ∷ cs) ≡ 0x5D ∷ 0x3A ∷ 0x20 ∷ chars cs
unfolding chars
closing [] = refl
closing (c ∷ cs) = refl

opening : (cs : List ℕ) → chars (0x5B ∷ cs) ≡ 0x5B ∷ chars cs
unfolding chars
opening [] = refl
opening (c ∷ cs) = refl

pub numbered : (n : ℕ) (bs target : List ℕ) → n < 2 ^ 64
    → bs ≡ codes "[" ++ (decimal n ++ (codes "]: " ++ target)) → chars bs ≡ footnote_text n (chars target)
numbered n bs target small h = ap chars h ∙ opening (decimal n ++ (0x5D ∷ 0x3A ∷ 0x20 ∷ target))
    ∙ ap (λ (cs : List ℕ). 0x5B ∷ cs) (ascii_first (decimal n) (0x5D ∷ 0x3A ∷ 0x20 ∷ target) (IsAscii-decimal n small)
    ∙ ap (λ (cs : List ℕ). decimal n ++ cs) (closing target)
    ∙ sym (append_assoc (decimal n) (0x5D ∷ 0x3A ∷ 0x20 ∷ []) (chars target)))

-- the same where it is written after a text, which is empty
pub numbered_after : (n : ℕ) (old bs target : List ℕ) → n < 2 ^ 64 → old ≡ []
    → bs ≡ old ++ (codes "[" ++ (decimal n ++ (codes "]: " ++ target))) → chars bs ≡ footnote_text n (chars target)
numbered_after n old bs target small none h =
    numbered n bs target small
    (h ∙ ap (λ (l : List ℕ). l ++ (codes "[" ++ (decimal n ++ (codes "]: " ++ target)))) none)

shut : chars (0x5D ∷ []) ≡ 0x5D ∷ []
unfolding chars
shut = refl

pub bracketed : (bs title : List ℕ) → IsUtf8 title → bs ≡ codes "[" ++ (title ++ codes "]")
    → chars bs ≡ codes "[" ++ chars title ++ codes "]"
bracketed bs title text h = ap chars h ∙ opening (title ++ (0x5D ∷ []))
    ∙ ap (λ (cs : List ℕ). 0x5B ∷ cs) (chars-append title (0x5D ∷ []) text
    ∙ ap (λ (cs : List ℕ). chars title ++ cs) shut)
