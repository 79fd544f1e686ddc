-- The characters of texts that are put together.
use Rattle.std.proofs.Common.{◌≡◌, ℕ, ◌<◌, ◌^◌, List, [], ◌∷◌, ◌++◌, codes, IsUtf8, refl, ap, ap₂, ◌∙◌}
use Rattle.std.specs.Fmt.{decimal}
use Rattle.std.specs.Str.{chars}
use Rattle.std.proofs.lemmas.Fmt.{IsAscii-decimal}
use Rattle.std.proofs.lemmas.Str.{chars-append, chars-IsAscii, IsUtf8-from_ascii}
use Rattle.text_decorators.specs.Marks.{Mark, link_start, link_end}
use Rattle.example_link_counting.specs.Linked.{linked}

brackets : (cs : List ℕ) → chars (0x5D ∷ 0x5B ∷ cs) ≡ 0x5D ∷ 0x5B ∷ chars cs
unfolding chars
brackets [] = refl
brackets (c ∷ cs) = refl

bracket : chars (0x5D ∷ []) ≡ 0x5D ∷ []
unfolding chars
bracket = refl

pub numbered_end : (n : ℕ) (bs : List ℕ) → n < 2 ^ 64 → bs ≡ codes "][" ++ (decimal n ++ codes "]")
    → chars bs ≡ codes "][" ++ decimal n ++ codes "]"
numbered_end n bs small h = ap chars h ∙ brackets (decimal n ++ (0x5D ∷ []))
    ∙ ap (λ (cs : List ℕ). 0x5D ∷ 0x5B ∷ cs)
    (chars-append (decimal n) (0x5D ∷ []) (IsUtf8-from_ascii (decimal n) (IsAscii-decimal n small))
    ∙ ap₂ (λ (ds cs : List ℕ). ds ++ cs) (chars-IsAscii (decimal n) (IsAscii-decimal n small)) bracket)

pub linked_bytes : {H : Type 0} (text : H → Mark → List ℕ) (after : H → Mark → H) (h k : H)
    (target label start end middle last whole : List ℕ) → IsUtf8 start → IsUtf8 middle → middle ≡ start ++ label
    → whole ≡ middle ++ last → last ≡ end → chars start ≡ text h (link_start target) → k ≡ after h (link_start target)
    → chars end ≡ text k link_end → chars whole ≡ linked text after h target (chars label)
linked_bytes text after h k target label start end middle last whole first both middle_is whole_is same opens held
    closes = ap chars whole_is ∙ chars-append middle last both
    ∙ ap₂ (λ (xs ys : List ℕ). xs ++ ys)
    (ap chars middle_is ∙ chars-append start label first ∙ ap (λ (xs : List ℕ). xs ++ chars label) opens)
    (ap chars same ∙ closes ∙ ap (λ k. text k link_end) held)
