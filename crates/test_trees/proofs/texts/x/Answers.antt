use Rattle.std.proofs.Common.{◌≡◌, IfOk, ℕ, List, subst}
use Rattle.test_trees.proofs.Computed.{x_codes}
use Rattle.test_trees.proofs.texts.x.Goals as goal

pub returns : goal.returns
returns c = subst (λ (said : List ℕ). IfOk c.from_str.result (λ text. text ≡ said)) x_codes c.from_str.ensures
