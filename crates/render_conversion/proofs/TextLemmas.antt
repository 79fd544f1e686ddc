-- Texts that are empty.
use Rattle.std.proofs.Common.{◌≡◌, [], ◌∷◌, ◌==◌, ◌∙◌, IsUtf8, List, ap, arith, chars, false, length, refl, sym, true}
use Rattle.std.proofs.Common.{ℕ}
use Rattle.std.specs.Prelude.{Option}
use Rattle.std.proofs.lemmas.Bool.Decides.{nat_tests}
use Rattle.std.proofs.lemmas.Str.{chars-nil}
use Rattle.text_lines.proofs.Emptiness.{chars_nil}
use Rattle.render_conversion.specs.Kinds.{leaf, nothing}
use Rattle.render_conversion.specs.Meanings.{imaged, or_empty}
use Rattle.render_conversion.specs.declared.kinds.Meaning.{Meaning}
use Rattle.render_values.specs.declared.info.RenderInfo.TheVariants.{Image}

some_length : (b : ℕ) (bs : List ℕ) → (length (b ∷ bs) == 0) ≡ false
some_length b bs = grind (arith, nat_tests)

pub empty_text : (bs : List ℕ) → (length bs == 0) ≡ true → chars bs ≡ []
empty_text [] h = chars-nil
empty_text (b ∷ bs) h = let k = sym (some_length b bs) ∙ h in cc

pub some_text : (bs : List ℕ) → IsUtf8 bs → (length bs == 0) ≡ false → chars bs ≡ [] → ⊥
some_text [] utf8 h none = cc
some_text (b ∷ bs) utf8 h none = let k = chars_nil (b ∷ bs) utf8 none in cc

pub image_none : (source : List ℕ) (alt : Option (List ℕ)) → source ≡ [] → nothing ≡ imaged source alt
image_none source alt e = sym (ap (λ s. imaged s alt) e)

pub image_some : (source : List ℕ) (alt : Option (List ℕ)) → (source ≡ [] → ⊥)
    → leaf (Image source (or_empty alt)) ≡ imaged source alt
image_some [] alt h = absurd (h refl)
image_some (c ∷ cs) alt h = refl

pub image_made : (made : Meaning) (source s t : List ℕ) (alt : Option (List ℕ)) → made ≡ leaf (Image s t) → s ≡ source
    → t ≡ or_empty alt → (s ≡ [] → ⊥) → made ≡ imaged source alt
image_made made source s t alt is of_source of_title some =
    is ∙ (ap (λ z. leaf (Image z t)) of_source
    ∙ (ap (λ z. leaf (Image source z)) of_title
    ∙ image_some source alt (λ none. some (of_source ∙ none))))
