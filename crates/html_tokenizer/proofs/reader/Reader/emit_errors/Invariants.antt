use Rattle.token_grammar.specs.Kinds.{IsReadyFor}
use Rattle.html_tokenizer.specs.Reads.{state_of}
use Rattle.html_tokenizer.specs.Emits.{IsAlike, EmitsOn}
use Rattle.html_tokenizer.proofs.reader.Reader.emit_errors.Given as goal

abbrev pub invariant-errors : goal.invariant-errors
invariant-errors g l = record {
  ready : IsReadyFor g.S.TokenSink.ready g.S.TokenSink.welcomes l.self.mode.text (g.S.TokenSink.state l.sink);
  alike : IsAlike g.S.TokenSink.means (state_of g.S.TokenSink.means l.fn.self (g.S.TokenSink.state l.fn.sink))
      (g.S.TokenSink.state l.sink);
  emits : EmitsOn g.S.TokenSink.means (g.S.TokenSink.state l.fn.sink) (g.S.TokenSink.state l.sink);
}
