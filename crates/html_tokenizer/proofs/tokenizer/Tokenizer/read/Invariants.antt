use Rattle.std.proofs.Common.{◌≡◌, true, length, ◌++◌, ◌≤◌}
use Rattle.html_tokenizer.specs.Completes.{TakesSome}
use Rattle.html_tokenizer.specs.Fits.{IsFitReader}
use Rattle.html_tokenizer.specs.Inside.{Completes}
use Rattle.html_tokenizer.specs.Holdings.{Holds}
use Rattle.html_tokenizer.specs.Emits.{EmitsOn}
use Rattle.html_tokenizer.proofs.PauseMarks.{HasTaken}
use Rattle.html_tokenizer.proofs.tokenizer.Tokenizer.read.Given as goal

abbrev pub invariant-characters : goal.invariant-characters
invariant-characters g l = record {
  fit : IsFitReader g.Sink.TokenSink.ready g.Sink.TokenSink.welcomes l.self.reader (g.Sink.TokenSink.state l.self.sink);
  table : l.self.table ≡ l.fn.self.table;
  over : l.self.is_over ≡ true;
  holds : Holds l.self.table l.self.reader;
  emits : EmitsOn g.Sink.TokenSink.means (g.Sink.TokenSink.state l.fn.self.sink) (g.Sink.TokenSink.state l.self.sink);
  shorter : length l.queue.text ≤ length l.fn.queue.text;
  takes : TakesSome l.fn.queue l.queue;
  taken : HasTaken (Completes g.Sink.TokenSink.state g.Sink.TokenSink.means l.fn.self)
      (Completes g.Sink.TokenSink.state g.Sink.TokenSink.means l.self) l.fn.queue l.queue;
  reads : (rest : _) (final : _) →
      Completes g.Sink.TokenSink.state g.Sink.TokenSink.means l.self (l.queue.text ++ rest) final →
      Completes g.Sink.TokenSink.state g.Sink.TokenSink.means l.fn.self (l.fn.queue.text ++ rest) final;
}

abbrev pub decreases-characters : goal.decreases-characters
decreases-characters g l = length l.queue.text
