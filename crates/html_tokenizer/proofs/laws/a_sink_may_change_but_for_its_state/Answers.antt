use Rattle.html_tokenizer.proofs.OtherSinkLemmas.{goes_on_as}
use Rattle.html_tokenizer.proofs.laws.a_sink_may_change_but_for_its_state.Goals as goal

pub returns : goal.returns
returns g c = goes_on_as g.Sink.TokenSink.state g.Sink.TokenSink.means g.Sink.TokenSink.ready g.Sink.TokenSink.welcomes
