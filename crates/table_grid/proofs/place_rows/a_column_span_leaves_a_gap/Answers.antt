use Rattle.std.proofs.Common.{◌≡◌, [], ◌∷◌, arith, refl, subst}
use Rattle.table_grid.specs.Gaps.{IsVacant}
use Rattle.table_grid.specs.PlaceRowWords.{at}
use Rattle.table_grid.proofs.HoleLemmas.{nobody}
use Rattle.table_grid.proofs.CheckLemmas.{are_placed, fits_at, is_clear, is_vacant, misses_here, none_before, stand}
use Rattle.table_grid.proofs.CheckLemmas.{vacant_at}
use Rattle.table_grid.proofs.place_rows.a_column_span_leaves_a_gap.Goals as goal

pub returns-clause-places : goal.returns-clause-places
unfolding stand fits_at none_before is_clear
returns-clause-places c = are_placed (at 0 0 1 1 ∷ at 1 0 1 2 ∷ at 2 1 2 1 ∷ []) refl

first_vacant : IsVacant (at 0 0 1 1 ∷ at 1 0 1 2 ∷ at 2 1 2 1 ∷ []) 1 0
unfolding vacant_at misses_here
first_vacant = is_vacant (at 0 0 1 1 ∷ at 1 0 1 2 ∷ at 2 1 2 1 ∷ []) 1 0 refl

pub returns-clause-gap : goal.returns-clause-gap
returns-clause-gap c = record {
  some = omega arith;
  vacant = λ column from to. let e : 0 ≡ column = omega arith in
      subst (IsVacant (at 0 0 1 1 ∷ at 1 0 1 2 ∷ at 2 1 2 1 ∷ []) 1) e first_vacant;
  begins = λ column e v. absurd (omega arith);
  ends = λ free. free.free 1 nobody (omega arith) (omega arith) (omega arith) (omega arith) (omega arith);
}
