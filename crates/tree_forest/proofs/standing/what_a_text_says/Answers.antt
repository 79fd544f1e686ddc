use Rattle.tree_forest.proofs.LawTexts.{new_text, new_text_after}
use Rattle.tree_forest.proofs.StandingLemmas.{words_joined}
use Rattle.tree_forest.proofs.standing.what_a_text_says.Goals as goal

pub returns-clause-joined : goal.returns-clause-joined
returns-clause-joined c = words_joined

pub returns-clause-alone : goal.returns-clause-alone
returns-clause-alone c = new_text

pub returns-clause-after_another : goal.returns-clause-after_another
returns-clause-after_another c = λ place n c cs f e k. new_text_after place c cs n f e k
