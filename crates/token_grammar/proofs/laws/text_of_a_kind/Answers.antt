use Rattle.token_grammar.proofs.KindLemmas.{in_text}
use Rattle.token_grammar.proofs.laws.text_of_a_kind.Goals as goal

pub returns : goal.returns
returns c = λ table foreign mode text. in_text mode.text table foreign mode text (λ h. h)
