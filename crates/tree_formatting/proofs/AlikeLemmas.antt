-- The test for tags that are the same but for the order of their attributes.
use Rattle.std.proofs.Common.{◌≡◌, Bool, true, false, refl, sym, ◌∙◌}
use Rattle.std.specs.Bool.{Decides}
use Rattle.std.specs.Str.{bytes_eq}
use Rattle.std.proofs.lemmas.Bool.{and_from, and_parts}
use Rattle.std.proofs.lemmas.List.Sorted.{IsPermutation-sym, IsPermutation-trans}
use Rattle.std.proofs.lemmas.Slice.Eq.{bytes_eq-Decides}
use Rattle.html_lexemes.proofs.Permutations.{counts_from_permuted, permuted_from_counts}
use Rattle.html_lexemes.proofs.SameAttributes.{attribute_decides}
use Rattle.html_lexemes.specs.Tags.{IsEquivalent}
use Rattle.html_lexemes.specs.declared.token.Tag.{Tag}
use Rattle.html_lexemes.specs.declared.token.TagKind.{TagKind}
use Rattle.html_lexemes.specs.declared.token.TagKind.TheVariants.{StartTag, EndTag}
use Rattle.tree_formatting.specs.Alike.{are_alike, is_same_kind}

kind_decides : (a b : TagKind) → Decides (is_same_kind a b) (a ≡ b)
kind_decides StartTag StartTag = (λ e. refl, λ e. refl)
kind_decides StartTag EndTag = (λ e. cc, λ e. cc)
kind_decides EndTag StartTag = (λ e. cc, λ e. cc)
kind_decides EndTag EndTag = (λ e. refl, λ e. refl)

pub equivalent_from_alike : (a b : Tag) → are_alike a b ≡ true → IsEquivalent a b
equivalent_from_alike a b e =
    let p = and_parts (is_same_kind a.kind b.kind) _ e in
    let q = and_parts (bytes_eq a.name b.name) _ p.1 in
    let r = and_parts _ _ q.1 in
    record {
      kind = (kind_decides a.kind b.kind).0 p.0;
      name = (bytes_eq-Decides a.name b.name).0 q.0;
      attributes = permuted_from_counts _ attribute_decides a.attrs b.attrs r.0 r.1;
    }

pub alike_from_equivalent : (a b : Tag) → IsEquivalent a b → are_alike a b ≡ true
alike_from_equivalent a b e = and_from (is_same_kind a.kind b.kind) _ ((kind_decides a.kind b.kind).1 e.kind)
    (and_from (bytes_eq a.name b.name) _ ((bytes_eq-Decides a.name b.name).1 e.name)
    (and_from _ _ (counts_from_permuted _ attribute_decides a.attrs b.attrs e.attributes)
    (counts_from_permuted _ attribute_decides b.attrs a.attrs (IsPermutation-sym _ _ e.attributes))))

pub same_tests : (x y : Bool) → (x ≡ true → y ≡ true) → (y ≡ true → x ≡ true) → x ≡ y
same_tests true y f g = sym (f refl)
same_tests false true f g = g refl
same_tests false false f g = refl

-- what is alike to one of two tags that are alike is so to the other
pub alike_to_both : (a b held : Tag) → are_alike a b ≡ true → are_alike held a ≡ are_alike held b
alike_to_both a b held e =
    let p = equivalent_from_alike a b e in
    same_tests (are_alike held a) (are_alike held b)
    (λ h. let q = equivalent_from_alike held a h in alike_from_equivalent held b (record {
      kind = q.kind ∙ p.kind;
      name = q.name ∙ p.name;
      attributes = IsPermutation-trans _ _ _ q.attributes p.attributes;
    }))
    (λ h. let q = equivalent_from_alike held b h in alike_from_equivalent held a (record {
      kind = q.kind ∙ sym p.kind;
      name = q.name ∙ sym p.name;
      attributes = IsPermutation-trans _ _ _ q.attributes (IsPermutation-sym _ _ p.attributes);
    }))
