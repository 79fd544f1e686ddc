use Rattle.std.proofs.Common.{◌≡◌, IfOk, ℕ, List, subst}
use Rattle.test_trees.proofs.Computed.{y_codes}
use Rattle.test_trees.proofs.texts.y.Goals as goal

pub returns : goal.returns
returns c = subst (λ (said : List ℕ). IfOk c.from_str.result (λ text. text ≡ said)) y_codes c.from_str.ensures
