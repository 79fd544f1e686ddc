use Rattle.table_widths.proofs.BestLemmas.{has_turns}
use Rattle.table_widths.proofs.TurnLemmas.{turns_come_to}
use Rattle.table_widths.proofs.width_laws.one_at_a_time_comes_to_the_widths.Goals as goal

pub returns-clause-some : goal.returns-clause-some
returns-clause-some c = λ columns width fit. has_turns columns width fit

pub returns-clause-same : goal.returns-clause-same
returns-clause-same c = λ columns width widths turns within fit are h.
    turns_come_to columns width widths turns within fit are h
