-- Texts of spaces.
use Rattle.std.proofs.Common.{◌≡◌, ◌-◌, ◌+◌, ◌<◌, ◌≤◌, ◌∷◌, ◌++◌, ◌∙◌, List, ap, append_assoc, arith, refl, replicate}
use Rattle.std.proofs.Common.{subst, suc, sym, zero, ℕ}
use Rattle.std.specs.Str.{chars, IsAscii, IsCharBoundary}
use Rattle.std.proofs.lemmas.Str.Ascii.{IsAscii-from_all}
use Rattle.std.proofs.lemmas.List.Elements.{All-replicate}
use Rattle.std.proofs.lemmas.Str.{chars-IsAscii, IsCharBoundary-from_ascii}
use Rattle.std.proofs.lemmas.List.{replicate-append-replicate, length-replicate}
use Rattle.text_lines.specs.Elements.{Item, character, tagged}

spaces_ascii : (n : ℕ) → IsAscii (replicate n 0x20)
spaces_ascii n = IsAscii-from_all (replicate n 0x20) (All-replicate (λ b. b < 128) n 0x20 (omega arith))

pub cut_spaces : (n m : ℕ) → m ≤ n → IsCharBoundary (replicate n 0x20) m
cut_spaces n m within =
    IsCharBoundary-from_ascii (replicate n 0x20) m (spaces_ascii n) (subst (λ k. m ≤ k) (sym (length-replicate n 0x20))
    within)

tagged_spaces : {S : Type 0} (n : ℕ) (tag : S) → tagged (replicate n 0x20) tag ≡ replicate n (character 0x20 tag)
tagged_spaces zero tag = refl
tagged_spaces (suc n) tag = ap (λ rest. character 0x20 tag ∷ rest) (tagged_spaces n tag)

-- some of the spaces that are left are added
pub spaces_more : {S : Type 0} (front more all : List (Item S)) (text : List ℕ) (part left now : ℕ) (tag : S)
    → text ≡ replicate part 0x20 → now ≡ left - part → part ≤ left → more ≡ front ++ tagged (chars text) tag
    → front ++ replicate left (character 0x20 tag) ≡ all → more ++ replicate now (character 0x20 tag) ≡ all
spaces_more front more all text part left now tag spaces less within added same =
    let sum : part + now ≡ left = omega (arith, less, within) in
    ap (λ items. items ++ replicate now (character 0x20 tag)) added
    ∙ append_assoc front (tagged (chars text) tag) (replicate now (character 0x20 tag))
    ∙ ap (λ cs. front ++ (tagged (chars cs) tag ++ replicate now (character 0x20 tag))) spaces
    ∙ ap (λ cs. front ++ (tagged cs tag ++ replicate now (character 0x20 tag)))
    (chars-IsAscii (replicate part 0x20) (spaces_ascii part))
    ∙ ap (λ items. front ++ (items ++ replicate now (character 0x20 tag))) (tagged_spaces part tag)
    ∙ ap (λ items. front ++ items) (replicate-append-replicate part now (character 0x20 tag))
    ∙ ap (λ n. front ++ replicate n (character 0x20 tag)) sum ∙ same
