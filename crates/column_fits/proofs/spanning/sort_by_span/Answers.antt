use Rattle.std.proofs.Common.{◌≡◌, rules}
use Rattle.std.proofs.lemmas.Fn.{always_returns_same}
use Rattle.std.proofs.lemmas.List.Sorted.{IsNonDecreasingBy-from_sort_by_key}
use Rattle.std.proofs.lemmas.Result.{on_ok_weaker}
use Rattle.column_fits.specs.Fits.{span_of}
use Rattle.column_fits.proofs.spanning.sort_by_span.Goals as goal

pub returns-clause-stable : goal.returns-clause-stable
returns-clause-stable c =
    c.sort_by_key.ensures.stable span_of
    (always_returns_same _ (λ a r. r ≡ span_of a.0.now) _ (λ a r q k. search rules))

pub returns-clause-rising : goal.returns-clause-rising
returns-clause-rising c =
    on_ok_weaker c.sort_by_key.result
    (λ d. IsNonDecreasingBy-from_sort_by_key span_of c.sort_by_key.new.self.items d (λ a r q k. search rules))
    c.sort_by_key.ensures.sorted
