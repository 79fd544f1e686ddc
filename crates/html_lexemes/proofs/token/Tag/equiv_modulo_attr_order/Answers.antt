use Rattle.std.proofs.Common.{◌≡◌, List, IsPermutation, subst}
use Rattle.std.proofs.lemmas.Slice.Eq.{slice_eq-Decides}
use Rattle.std.proofs.lemmas.List.Sorted.{IsPermutation-refl}
use Rattle.html_lexemes.specs.declared.names.Attribute.{Attribute}
use Rattle.html_lexemes.proofs.SameAttributes.{attribute_decides}
use Rattle.html_lexemes.proofs.token.Tag.equiv_modulo_attr_order.Goals as goal

same_permutation : (xs ys : List Attribute) → xs ≡ ys → IsPermutation xs ys
same_permutation xs ys e = subst (IsPermutation xs) e (IsPermutation-refl xs)

pub returns-then-eq : goal.returns-then-eq
returns-then-eq c =
    let names = c.is_named_as.ensures.0 c.if-is_named_as.true in
    let attributes =
    (slice_eq-Decides attribute_decides c.args.self.now.attrs c.args.other.now.attrs c.eq.result c.eq.ensures).0
    c.if-eq.true in (
      (λ t. record { kind = names.0; name = names.1; attributes = same_permutation _ _ attributes }),
      (λ e. c.if-eq.true),
    )
