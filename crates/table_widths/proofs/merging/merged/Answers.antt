use Rattle.std.proofs.Common.{ap, arith, sym, ◌∙◌}
use Rattle.std.proofs.lemmas.Bool.Decides.{nat_tests}
use Rattle.std.proofs.lemmas.List.{nil_from_length}
use Rattle.table_widths.specs.Slots.{merged}
use Rattle.table_widths.proofs.MergeLemmas.{merged-none}
use Rattle.table_widths.proofs.merging.merged.Goals as goal

pub returns-then-is_empty : goal.returns-then-is_empty
returns-then-is_empty c =
    sym (merged-none c.args.slots.items)
    ∙ ap (merged c.args.slots.items) (sym (nil_from_length c.args.others.now (grind (arith, nat_tests))))
