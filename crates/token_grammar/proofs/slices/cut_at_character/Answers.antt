use Rattle.token_grammar.proofs.CharacterCuts.{split_cut, split_slice, split_rest}
use Rattle.token_grammar.proofs.slices.cut_at_character.Goals as goal

pub returns-clause-value : goal.returns-clause-value
returns-clause-value c =
    split_cut c.args.mark c.args.text.now c.split_once.result c.utf8.text c.split_once.ensures.cases

pub returns-clause-slice_utf8 : goal.returns-clause-slice_utf8
returns-clause-slice_utf8 c =
    split_slice c.args.mark c.args.text.now c.split_once.result c.utf8.text c.split_once.ensures.cases

pub returns-clause-rest_utf8 : goal.returns-clause-rest_utf8
returns-clause-rest_utf8 c =
    split_rest c.args.mark c.args.text.now c.split_once.result c.utf8.text c.split_once.ensures.cases
