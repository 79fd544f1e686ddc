-- Look-ups in a table in which a name stands twice, computed.
use Rattle.std.proofs.Common.{codes, reverse, [], ◌∷◌}
use Rattle.std.specs.FinMap.{get-from_entries}
use Rattle.std.specs.Cmp.Lexicographic.{nat_list_cmp_total}
use Rattle.lex_base.proofs.rows.pairs_of_rows.Goals as goal

pub returns-clause-last_value : goal.returns-clause-last_value
returns-clause-last_value c =
    get-from_entries nat_list_cmp_total (reverse ((codes "a", 1 ∷ []) ∷ (codes "b", 2 ∷ []) ∷ (codes "a", 3 ∷ []) ∷ []))
    (codes "a")

pub returns-clause-other_name : goal.returns-clause-other_name
returns-clause-other_name c =
    get-from_entries nat_list_cmp_total (reverse ((codes "a", 1 ∷ []) ∷ (codes "b", 2 ∷ []) ∷ (codes "a", 3 ∷ []) ∷ []))
    (codes "b")
