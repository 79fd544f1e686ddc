use Rattle.text_pieces.proofs.TextCuts.{split_once-parts, split_once-none}
use Rattle.text_pieces.proofs.characters.cut_at.Goals as goal

pub returns-clause-parts : goal.returns-clause-parts
returns-clause-parts c =
    split_once-parts c.args.mark c.args.text.now c.split_once.result c.utf8.text c.requires c.split_once.ensures.cases

pub returns-clause-none : goal.returns-clause-none
returns-clause-none c =
    split_once-none c.args.mark c.args.text.now c.split_once.result c.utf8.text c.split_once.ensures.cases
