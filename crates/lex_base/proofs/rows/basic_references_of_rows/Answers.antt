-- A look-up in the basic table, computed.
use Rattle.std.proofs.Common.{codes, reverse}
use Rattle.std.specs.FinMap.{get-from_entries}
use Rattle.std.specs.Cmp.Lexicographic.{nat_list_cmp_total}
use Rattle.lex_base.specs.References.{basic_references}
use Rattle.lex_base.proofs.rows.basic_references_of_rows.Goals as goal

pub returns-clause-amp : goal.returns-clause-amp
returns-clause-amp c = get-from_entries nat_list_cmp_total (reverse basic_references) (codes "amp;")

pub returns-clause-nbsp : goal.returns-clause-nbsp
returns-clause-nbsp c = get-from_entries nat_list_cmp_total (reverse basic_references) (codes "nbsp;")

pub returns-clause-other : goal.returns-clause-other
returns-clause-other c = get-from_entries nat_list_cmp_total (reverse basic_references) (codes "amp")
