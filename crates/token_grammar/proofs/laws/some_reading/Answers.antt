use Rattle.token_grammar.proofs.Readings.{some}
use Rattle.token_grammar.proofs.laws.some_reading.Goals as goal

pub returns : goal.returns
returns g c = λ table mode state text. some table g.S.TokenSink.means mode state text
