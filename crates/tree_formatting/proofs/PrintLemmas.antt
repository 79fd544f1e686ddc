-- Prints: of a text that is read on, of attributes in any order, and of tags that are alike.
use Rattle.std.proofs.Common.{◌≡◌, ◌+◌, ◌^◌, ◌%◌, [], ◌∷◌, ◌++◌, ◌∙◌, ◌<◌, List, ap, ap₂, arith, fold, length, sym}
use Rattle.std.proofs.Common.{take, true, ℕ}
use Rattle.std.proofs.Math.ListN.{get_or}
use Rattle.std.proofs.lemmas.List.{length_push, take_all, take_more}
use Rattle.std.proofs.lemmas.List.Sums.{fold-append}
use Rattle.std.proofs.lemmas.List.Sorted.{sum_by-IsPermutation}
use Rattle.html_lexemes.specs.declared.token.Tag.{Tag}
use Rattle.tree_formatting.specs.Alike.{are_alike}
use Rattle.tree_formatting.specs.Prints.{attribute_print, name_print, tag_print}
use Rattle.tree_formatting.proofs.AlikeLemmas.{equivalent_from_alike}

-- tags that are alike have one print
pub prints_alike : (a b : Tag) → are_alike a b ≡ true → tag_print a ≡ tag_print b
prints_alike a b e =
    let p = equivalent_from_alike a b e in
    ap₂ (λ name sum. (name_print name + sum) % 2 ^ 64) p.name
    (sym (sum_by-IsPermutation attribute_print a.attrs b.attrs p.attributes))

-- a text that was read so far, and one character more
pub next_taken : {Y : Type 0} (f : ℕ → ℕ → ℕ) (all : List ℕ) (ys : List Y) (y : Y) (x : ℕ) →
    (length ys < length all) × (x ≡ get_or all (length ys) x) → (begun mid new : ℕ) →
    mid ≡ fold f begun (take (length ys) all) → new ≡ f mid x →
    new ≡ fold f begun (take (length (ys ++ y ∷ [])) all)
next_taken f all ys y x turn begun mid new so_far one = one ∙ ap (λ m. f m x) so_far
    ∙ sym (fold-append f begun (take (length ys) all) (x ∷ []))
    ∙ ap (fold f begun) (ap (λ e. take (length ys) all ++ e ∷ []) turn.1
    ∙ sym (take_more all (length ys) x turn.0)
    ∙ ap (λ n. take n all) (sym (length_push ys y)))

pub all_taken : {Y : Type 0} (f : ℕ → ℕ → ℕ) (all : List ℕ) (ys : List Y) → length ys ≡ length all →
    (begun new : ℕ) → new ≡ fold f begun (take (length ys) all) → new ≡ fold f begun all
all_taken f all ys whole begun new so_far =
    so_far ∙ ap (fold f begun) (take_all (length ys) all (omega (arith, whole)))
