-- Lines whose characters get one tag.
use Rattle.std.proofs.Common.{◌≡◌, ℕ, List, [], ◌∷◌, ◌++◌, refl, sym, ap, chars}
use Rattle.std.proofs.lemmas.Str.{chars-nil}
use Rattle.text_lines.specs.Tagged.{Item, character, marker, tagged, element_items, element_text}
use Rattle.text_lines.specs.declared.tagged_string.TaggedLineElement.{TaggedLineElement}
use Rattle.text_lines.specs.declared.tagged_string.TaggedLineElement.TheVariants.{Str, FragmentStart}
use Rattle.text_borders.specs.Across.{retagged}

pub retagged-append : {S : Type 0} (tag : S) (xs ys : List (Item S)) → retagged tag (xs ++ ys)
    ≡ retagged tag xs ++ retagged tag ys
retagged-append tag [] ys = refl
retagged-append tag (character c old ∷ xs) ys = ap (λ l. character c tag ∷ l) (retagged-append tag xs ys)
retagged-append tag (marker name ∷ xs) ys = retagged-append tag xs ys

retagged-tagged : {S : Type 0} (tag old : S) (cs : List ℕ) → retagged tag (tagged cs old) ≡ tagged cs tag
retagged-tagged tag old [] = refl
retagged-tagged tag old (c ∷ cs) = ap (λ l. character c tag ∷ l) (retagged-tagged tag old cs)

-- an element's characters
pub element_retagged : {T S : Type 0} (seen : T → S) (tag : S) (e : TaggedLineElement T)
    → tagged (chars (element_text e)) tag ≡ retagged tag (element_items seen e)
element_retagged seen tag (Str string) = sym (retagged-tagged tag (seen string.tag) (chars (element_text (Str string))))
element_retagged seen tag (FragmentStart name) = ap (λ cs. tagged cs tag) chars-nil
