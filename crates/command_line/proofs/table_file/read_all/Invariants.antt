use Rattle.std.specs.Io.KnownBytes.{Consumes}
use Rattle.command_line.proofs.table_file.read_all.Given as goal

abbrev pub invariant-pieces : goal.invariant-pieces
invariant-pieces g l =
    Consumes (g.R.ByteReader.remaining l.fn.input) (g.R.ByteReader.remaining l.input) l.bytes.items

abbrev pub decreases-pieces : goal.decreases-pieces
decreases-pieces g l = l.left
