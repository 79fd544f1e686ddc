use Rattle.std.proofs.Common.{codes}
use Rattle.test_grammar.proofs.FewNames.{same_value}
use Rattle.test_grammar.proofs.rows.values_of_rows.Goals as goal

pub returns-clause-equals : goal.returns-clause-equals
returns-clause-equals c = same_value (codes "a&amp=b")

pub returns-clause-letter : goal.returns-clause-letter
returns-clause-letter c = same_value (codes "a&ampb")

pub returns-clause-digit : goal.returns-clause-digit
returns-clause-digit c = same_value (codes "a&amp0")

pub returns-clause-closed : goal.returns-clause-closed
returns-clause-closed c = same_value (codes "a&amp;b&amp;=")

pub returns-clause-space : goal.returns-clause-space
returns-clause-space c = same_value (codes "a&amp b&amp")

pub returns-clause-longest : goal.returns-clause-longest
returns-clause-longest c = same_value (codes "&notit;&notin;&not;")
