use Rattle.std.proofs.Common.{codes, []}
use Rattle.test_grammar.proofs.FewNames.{same_reference}
use Rattle.test_grammar.proofs.rows.names_of_rows.Goals as goal

pub returns-clause-longest : goal.returns-clause-longest
returns-clause-longest c = same_reference (codes "notin; b")

pub returns-clause-shorter : goal.returns-clause-shorter
returns-clause-shorter c = same_reference (codes "notit; b")

pub returns-clause-cut : goal.returns-clause-cut
returns-clause-cut c = same_reference (codes "notin")

pub returns-clause-closed : goal.returns-clause-closed
returns-clause-closed c = same_reference (codes "amp;amp")

pub returns-clause-no_name : goal.returns-clause-no_name
returns-clause-no_name c = same_reference (codes "no;")

pub returns-clause-other_case : goal.returns-clause-other_case
returns-clause-other_case c = same_reference (codes "AMP;")

pub returns-clause-at_the_end : goal.returns-clause-at_the_end
returns-clause-at_the_end c = same_reference []
