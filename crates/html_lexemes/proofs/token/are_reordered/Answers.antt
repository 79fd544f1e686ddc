use Rattle.std.proofs.Common.{sym, ◌∙◌}
use Rattle.html_lexemes.proofs.Permutations.{permuted_from_counts, counts_from_permuted}
use Rattle.html_lexemes.proofs.SameAttributes.{attribute_decides}
use Rattle.std.proofs.lemmas.List.Sorted.{IsPermutation-sym}
use Rattle.html_lexemes.proofs.token.are_reordered.Goals as goal

pub returns-then-stand_as_often : goal.returns-then-stand_as_often
returns-then-stand_as_often c = (
  (λ t. permuted_from_counts _ attribute_decides _ _ (sym c.stand_as_often.ensures ∙ c.if-stand_as_often.true)
      (sym c.stand_as_often-then-stand_as_often.ensures ∙ t)),
  λ p. c.stand_as_often-then-stand_as_often.ensures ∙ counts_from_permuted _ attribute_decides _ _
      (IsPermutation-sym _ _ p),
)

pub returns-else-stand_as_often : goal.returns-else-stand_as_often
returns-else-stand_as_often c =
    ((λ t. cc), λ p. c.stand_as_often.ensures ∙ counts_from_permuted _ attribute_decides _ _ p)
