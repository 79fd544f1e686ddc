use Rattle.block_layout.proofs.CountLemmas.{text_is_filled}
use Rattle.article_layout.proofs.line_list.holds_text.Goals as goal

pub returns : goal.returns
returns c = text_is_filled c.args.text.now c.utf8.text c.is_empty.result c.is_empty.ensures
