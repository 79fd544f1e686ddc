use Rattle.text_pieces.proofs.CharacterLemmas.{columns_read}
use Rattle.text_pieces.proofs.characters.width_of.Goals as goal

pub returns : goal.returns
returns c = columns_read c.args.c _ _ c.columns.ensures c.unwrap_or.ensures
