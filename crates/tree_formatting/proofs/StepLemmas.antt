-- The iterator's next entry, and its end.
use Rattle.std.proofs.Common.{◌≡◌, [], ◌∷◌, ◌++◌, ◌∙◌, Bor, List, None, Some, ap, length, map, refl, reverse, subst}
use Rattle.std.proofs.Common.{sym, ℕ}
use Rattle.std.proofs.lemmas.List.{length-reverse, map-append, reverse-append}
use Rattle.html_lexemes.specs.declared.token.Tag.{Tag}
use Rattle.tree_formatting.specs.Entries.{entry_of, up_to_marker}
use Rattle.tree_formatting.specs.Found.{IsAtMarker}
use Rattle.tree_formatting.specs.Steps.{IsNext}
use Rattle.tree_formatting.specs.declared.entry.FormatEntry.{FormatEntry}
use Rattle.tree_formatting.specs.declared.entry.FormatEntry.TheVariants.{Element, Marker}

map-reverse : {A B : Type 0} (f : A → B) (xs : List A) → map f (reverse xs) ≡ reverse (map f xs)
map-reverse f [] = refl
map-reverse f (x ∷ xs) = ap (map f) (reverse-append (x ∷ []) xs)
    ∙ map-append f (reverse xs) (x ∷ [])
    ∙ ap (λ v. v ++ f x ∷ []) (map-reverse f xs)
    ∙ sym (reverse-append (f x ∷ []) (map f xs))

none_next : {H : Type 0} (number : H → ℕ) (ys : List (FormatEntry H)) → up_to_marker (map (entry_of number) ys) ≡ [] →
    IsNext ys None 0
none_next number [] e = (refl, refl)
none_next number (Marker ∷ ys) e = (refl, refl)
none_next number (Element h tag ∷ ys) e = cc

pub over : {H : Type 0} (xs : List (FormatEntry H)) → IsAtMarker xs → IsNext (reverse xs) None 0
over xs end = none_next (λ h. 0) (reverse xs)
    (ap up_to_marker (map-reverse (entry_of (λ h. 0)) xs) ∙ end (λ h. 0))

pub gives : {H : Type 0} (xs before : List (FormatEntry H)) (h : Bor H) (tag : Bor Tag) →
    xs ≡ before ++ Element h.now tag.now ∷ [] → IsNext (reverse xs) (Some (length before, h, tag)) (length before)
gives {H} xs before h tag last =
    let P : List (FormatEntry H) → Type 0 = λ v. IsNext v (Some (length before, h, tag)) (length before) in
    subst P (sym (ap reverse last ∙ reverse-append before (Element h.now tag.now ∷ [])))
    (refl, sym (length-reverse before), refl, refl)
