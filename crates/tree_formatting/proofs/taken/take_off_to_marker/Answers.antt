use Rattle.std.proofs.Common.{◌∙◌}
use Rattle.tree_formatting.proofs.CountLemmas.{last_off, popped}
use Rattle.tree_formatting.proofs.taken.take_off_to_marker.Goals as goal

pub back-preserved : goal.back-preserved
back-preserved g c = (
  λ number. popped number c.back.entries.items c.take_last.new.entries.items c.in-Some.ensures.some.0 c.in-Some.tag
      c.in-Some.ensures.some.1 ∙ c.back.invariant.0 number,
  λ counted. last_off c.back.counts c.count_out.new.self c.back.entries.items c.take_last.new.entries.items
      c.in-Some.ensures.some.0 c.in-Some.tag c.in-Some.ensures.some.1 c.count_out.ensures (c.back.invariant.1 counted),
)

pub returns-clause-items : goal.returns-clause-items
returns-clause-items g c = λ number. c.take_last.ensures.items c.in_default.is number ∙ c.back.invariant.0 number
