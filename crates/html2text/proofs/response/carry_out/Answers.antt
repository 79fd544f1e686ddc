use Rattle.std.proofs.Common.{None}
use Rattle.html2text.proofs.response.carry_out.Goals as goal

pub returns-in-Err-clause-unhelped : goal.returns-in-Err-clause-unhelped
returns-in-Err-clause-unhelped g c =
    λ error e. rw c.in-Err.is (c.report_fault.ensures.unwritten error (λ _. None) None e).0
