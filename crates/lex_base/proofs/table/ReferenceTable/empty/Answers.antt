use Rattle.std.proofs.Common.{[], length, ap, ◌∙◌}
use Rattle.std.specs.FinMap as finite
use Rattle.std.specs.Ordering.{nat_cmp}
use Rattle.std.specs.Cmp.Lexicographic.{slice_cmp}
use Rattle.lex_base.specs.Table.{table_of}
use Rattle.lex_base.proofs.table.ReferenceTable.empty.Goals as goal

pub returns : goal.returns
returns c =
    ap table_of c.new.ensures.items ∙ finite.empty_of_len _
    (finite.len-entries _ ∙ ap length (finite.entries-from_sorted (slice_cmp nat_cmp) [] tt))
