use Rattle.std.proofs.Common.{length}
use Rattle.lex_base.specs.References.{basic}
use Rattle.page_reading.specs.PageTrees.{IsTreeOfBytes}
use Rattle.page_reading.specs.Readers.{Comes}
use Rattle.tree_forest.specs.Forest.{Forest}
use Rattle.tree_forest.specs.declared.sink.QuirksMode.{QuirksMode}
use Rattle.stored_lines.proofs.pages.tree_of.Given as goal

abbrev pub invariant-pieces : goal.invariant-pieces
invariant-pieces l = (forest : Forest) (quirks : QuirksMode) → Comes l.reader l.rest forest quirks
    → IsTreeOfBytes basic l.fn.parsing l.page forest quirks

abbrev pub decreases-pieces : goal.decreases-pieces
decreases-pieces l = length l.rest
