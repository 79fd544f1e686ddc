use Rattle.std.proofs.Common.{take}
use Rattle.html_lexemes.specs.QueueParts.{Marks}
use Rattle.html_lexemes.proofs.runs.mark_all.Given as goal

abbrev pub invariant-characters : goal.invariant-characters
invariant-characters l = Marks (take l.c-index l.set) l.marks
