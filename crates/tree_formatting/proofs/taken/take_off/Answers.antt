use Rattle.std.proofs.Common.{arith}
use Rattle.tree_formatting.proofs.CountLemmas.{counted_same, marker_off, taken_off}
use Rattle.tree_formatting.proofs.taken.take_off.Goals as goal

pub returns-in-Element-clause-counted : goal.returns-in-Element-clause-counted
returns-in-Element-clause-counted g c = taken_off c.args.entries.now.items c.args.at c.remove-entry.result (omega arith)
    c.remove-entry.ensures.value c.in-Element.field-0 c.in-Element.tag c.in-Element.is c.args.counts.now
    c.count_out.new.self c.count_out.ensures c.remove-entry.new.self.items c.remove-entry.ensures.items

pub returns-clause-counted : goal.returns-clause-counted
returns-clause-counted g c = counted_same c.args.counts.now _ _ (marker_off c.args.entries.now.items c.args.at
    c.remove-entry.result (omega arith) c.remove-entry.ensures.value c.in_default.is c.remove-entry.new.self.items
    c.remove-entry.ensures.items)
