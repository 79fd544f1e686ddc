use Rattle.written_document_laws.proofs.DocumentsRead.{read_whole}
use Rattle.written_document_laws.proofs.laws.a_written_document_is_read_back.Goals as goal

pub returns : goal.returns
returns g c = λ table last state title content knows h blocks replied.
    read_whole g.S.TokenSink.means table knows g.met.S.TokenSink.lawful last state title content h blocks replied
