use Rattle.written_document_laws.proofs.PageTexts.{page_is}
use Rattle.written_document_laws.proofs.laws.a_written_document_is_a_page_text.Goals as goal

pub returns : goal.returns
returns c = λ discard title content h blocks. page_is discard title content h.0 h.1 blocks
