use Rattle.std.proofs.Common.{◌≡◌, true, length, ◌++◌}
use Rattle.html_tokenizer.specs.Completes.{Completes, IsFit, TakesSome, has_failed, table_of}
use Rattle.html_tokenizer.proofs.tokenizer.Tokenizer.feed_on.Given as goal

abbrev pub invariant-feeds : goal.invariant-feeds
invariant-feeds g l = record {
  failed : has_failed l.fn.self ≡ true → (l.self ≡ l.fn.self) × (l.queue ≡ l.fn.queue);
  works : has_failed l.self ≡ has_failed l.fn.self;
  fit : IsFit g.Sink.TokenSink.state g.Sink.TokenSink.ready g.Sink.TokenSink.welcomes l.self;
  table : table_of l.self ≡ table_of l.fn.self;
  takes : TakesSome l.fn.queue l.queue;
  reads : (rest : _) (final : _) →
      Completes g.Sink.TokenSink.state g.Sink.TokenSink.means l.self (l.queue.text ++ rest) final →
      Completes g.Sink.TokenSink.state g.Sink.TokenSink.means l.fn.self (l.fn.queue.text ++ rest) final;
}

abbrev pub decreases-feeds : goal.decreases-feeds
decreases-feeds g l = length l.queue.text
