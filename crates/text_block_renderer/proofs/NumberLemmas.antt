-- A number in brackets.
use Rattle.std.proofs.Common.{◌≡◌, ℕ, ◌<◌, ◌^◌, List, [], ◌∷◌, ◌++◌, codes, refl, ap, ◌∙◌}
use Rattle.std.specs.Fmt.{decimal}
use Rattle.std.specs.Str.{chars}
use Rattle.std.proofs.lemmas.Fmt.{IsAscii-decimal}
use Rattle.text_decorators.proofs.Characters.{ascii_first}
use Rattle.text_block_renderer.specs.Parts.{footnote_mark}

opening : (cs : List ℕ) → chars (0x5B ∷ cs) ≡ 0x5B ∷ chars cs
unfolding chars
opening [] = refl
opening (c ∷ cs) = refl

closing : chars (0x5D ∷ []) ≡ 0x5D ∷ []
unfolding chars
closing = refl

pub bracketed : (n : ℕ) (bs : List ℕ) → n < 2 ^ 64 → bs ≡ codes "[" ++ (decimal n ++ codes "]")
    → chars bs ≡ footnote_mark n
bracketed n bs small h = ap chars h ∙ opening (decimal n ++ (0x5D ∷ []))
    ∙ ap (λ (cs : List ℕ). 0x5B ∷ cs) (ascii_first (decimal n) (0x5D ∷ []) (IsAscii-decimal n small)
    ∙ ap (λ (cs : List ℕ). decimal n ++ cs) closing)
