use Rattle.std.proofs.Common.{map, take}
use Rattle.lex_base.specs.Table.{pair_of}
use Rattle.lex_base.proofs.PairsRead.{HaveRead}
use Rattle.lex_base.proofs.table.ReferenceTable.new.Given as goal

abbrev pub invariant-loop-name : goal.invariant-loop-name
invariant-loop-name l = HaveRead (map pair_of (take l.name-index l.pairs)) l.table
