use Rattle.written_document_laws.proofs.ReadBack.{items_read}
use Rattle.written_document_laws.proofs.laws.written_items_are_read_back.Goals as goal

pub returns : goal.returns
returns g c = λ table mode state items rest final knows h r.
    items_read table knows g.S.TokenSink.means g.met.S.TokenSink.lawful mode state items rest final h r
