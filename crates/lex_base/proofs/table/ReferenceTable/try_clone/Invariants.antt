use Rattle.std.proofs.Common.{◌≡◌, take}
use Rattle.lex_base.specs.Table.{references_of}
use Rattle.lex_base.proofs.table.ReferenceTable.try_clone.Given as goal

abbrev pub invariant-references : goal.invariant-references
invariant-references l = references_of l.references.items ≡ references_of (take l.reference-index l.reference-items)
