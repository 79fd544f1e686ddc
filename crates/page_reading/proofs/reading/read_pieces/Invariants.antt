use Rattle.page_reading.proofs.ReadingLemmas.{IsReading}
use Rattle.page_reading.proofs.reading.read_pieces.Given as goal

abbrev pub invariant-pieces : goal.invariant-pieces
invariant-pieces g l =
    let device = g.R.ByteReader in
    IsReading (device.count l.fn.input) (device.count l.input) (device.has_failed l.fn.input)
    (device.has_failed l.input) (device.remaining l.fn.input)
    (device.remaining l.input) l.fn.page l.page

abbrev pub decreases-pieces : goal.decreases-pieces
decreases-pieces g l = l.page.left
