use Rattle.lex_base.proofs.KnownLemmas.{text_in_table}
use Rattle.lex_base.proofs.known.text_in.Goals as goal

pub returns : goal.returns
returns c = text_in_table c.args.texts.now _ c.args.known c.requires
