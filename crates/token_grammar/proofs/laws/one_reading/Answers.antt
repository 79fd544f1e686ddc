use Rattle.token_grammar.proofs.Readings.{one}
use Rattle.token_grammar.proofs.laws.one_reading.Goals as goal

pub returns : goal.returns
returns g c = λ table mode state text final other r q. one table g.S.TokenSink.means mode state text final other r q
