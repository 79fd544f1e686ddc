use Rattle.std.proofs.Common.{subst, sym, []}
use Rattle.html_lexemes.specs.QueueParts.{Marks}
use Rattle.html_lexemes.proofs.ByteRuns.{Marks-none}
use Rattle.html_lexemes.proofs.runs.mark_all.Goals as goal

pub characters-init : goal.characters-init
characters-init c = subst (λ marks. Marks [] marks) (sym c.requires) Marks-none
