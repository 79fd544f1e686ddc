-- Names of files.
use Rattle.std.specs.Prelude.{◌≡◌, ◌≢◌, ◌==◌, [], ◌∷◌, ◌++◌, if◌then◌else◌, Bool, List, Option, Some, false, fold, refl}
use Rattle.std.specs.Prelude.{true, ℕ}
use Rattle.std.proofs.Common.{sym, ap, ◌∙◌, arith}
use Rattle.std.proofs.lemmas.List.{append_assoc, append-nil}
use Rattle.std.proofs.lemmas.List.Sums.{fold-append}
use Rattle.std.proofs.lemmas.Bool.Decides.{nat_tests}
use Rattle.text_pieces.specs.Cuts.{Lacks, IsCutAt}
use Rattle.block_trait.specs.Renderers.{file_name, image_title}
use Rattle.block_trait.specs.declared.options.ImageRenderMode.{ImageRenderMode}

pub name_after : (text front back : List ℕ) → IsCutAt 0x2F text front back → file_name back ≡ file_name text
name_after text front back cut =
    sym (ap (fold (λ name c. if c == 0x2F then [] else name ++ c ∷ []) []) cut.whole
    ∙ fold-append (λ name c. if c == 0x2F then [] else name ++ c ∷ []) [] front (0x2F ∷ back))

differs : (c : ℕ) → c ≢ 0x2F → (c == 0x2F) ≡ false
differs c h = grind (arith, nat_tests, h)

goes_on : (b : Bool) (name : List ℕ) (c : ℕ) → b ≡ false → (if b then [] else name ++ c ∷ []) ≡ name ++ c ∷ []
goes_on true name c e = cc
goes_on false name c e = refl

kept : (name cs : List ℕ) → Lacks 0x2F cs → fold (λ name c. if c == 0x2F then []
    else name ++ c ∷ []) name cs ≡ name ++ cs
kept name [] h = sym (append-nil name)
kept name (c ∷ cs) h =
    ap (λ n. fold (λ name c. if c == 0x2F then [] else name ++ c ∷ []) n cs)
    (goes_on (c == 0x2F) name c (differs c h.0))
    ∙ kept (name ++ c ∷ []) cs h.1 ∙ append_assoc name (c ∷ []) cs

pub name_alone : (cs : List ℕ) → Lacks 0x2F cs → cs ≡ file_name cs
name_alone cs h = sym (kept [] cs h)

-- the title that is given
pub titled : (mode : ImageRenderMode) (source title : List ℕ) → (title ≡ [] → ⊥)
    → Some title ≡ image_title mode source title
titled mode source [] h = elim (h refl) [ ]
titled mode source (c ∷ title) h = refl

-- what stands for an empty one
pub untitled : (mode like : ImageRenderMode) (source title : List ℕ) (shown : Option (List ℕ)) → title ≡ []
    → mode ≡ like → shown ≡ image_title like source [] → shown ≡ image_title mode source title
untitled mode like source title shown e f g =
    g ∙ sym (ap (λ m. image_title m source title) f ∙ ap (λ t. image_title like source t) e)
