-- Footnotes under what is seen of their tag.
use Rattle.std.proofs.Common.{◌≡◌, ℕ, List, [], ◌∷◌, ◌∙◌, ap, ap₂, map, refl}
use Rattle.text_lines.specs.Tagged.{character, reitem, tagged}
use Rattle.text_decorators.specs.Texts.{footnote_lines, footnote_texts}
use Rattle.text_decorators.specs.Marks.{seen_lines}

tagged_seen : {T S : Type 0} (seen : T → S) (tag : T) (cs : List ℕ)
    → tagged cs (seen tag) ≡ map (reitem seen) (tagged cs tag)
tagged_seen seen tag [] = refl
tagged_seen seen tag (c ∷ cs) = ap (λ items. character c (seen tag) ∷ items) (tagged_seen seen tag cs)

texts_seen : {T S : Type 0} (seen : T → S) (tag : T) (texts : List (List ℕ))
    → map (λ text. tagged text (seen tag)) texts ≡ seen_lines seen (map (λ text. tagged text tag) texts)
texts_seen seen tag [] = refl
texts_seen seen tag (text ∷ texts) = ap₂ (λ l ls. l ∷ ls) (tagged_seen seen tag text) (texts_seen seen tag texts)

pub footnotes_seen : {T S : Type 0} (seen : T → S) (tag : T) (targets : List (List ℕ))
    → footnote_lines (seen tag) targets ≡ seen_lines seen (footnote_lines tag targets)
footnotes_seen seen tag targets = texts_seen seen tag (footnote_texts 1 targets)

-- under a tag that is seen as another one
pub footnotes_as : {T S : Type 0} (seen : T → S) (tag : S) (other : T) (targets : List (List ℕ)) (lines : _)
    → lines ≡ footnote_lines tag targets → tag ≡ seen other → lines ≡ seen_lines seen (footnote_lines other targets)
footnotes_as seen tag other targets lines are same =
    are ∙ (ap (λ t. footnote_lines t targets) same ∙ footnotes_seen seen other targets)
