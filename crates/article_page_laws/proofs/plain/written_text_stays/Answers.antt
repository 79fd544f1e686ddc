use Rattle.article_page_laws.proofs.SameContents.{text_stays}
use Rattle.article_page_laws.proofs.plain.written_text_stays.Goals as goal

pub returns : goal.returns
returns c = text_stays
