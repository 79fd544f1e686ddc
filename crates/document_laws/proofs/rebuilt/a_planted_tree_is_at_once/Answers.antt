use Rattle.document_laws.proofs.AtOnce.{planted_stands}
use Rattle.document_laws.proofs.rebuilt.a_planted_tree_is_at_once.Goals as goal

pub returns : goal.returns
returns c = λ p content f held. planted_stands content p f held
