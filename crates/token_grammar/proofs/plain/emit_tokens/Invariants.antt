use Rattle.std.proofs.Common.{◌≡◌}
use Rattle.std.specs.Prelude.{fold}
use Rattle.std.specs.Vec.Iter.{into_iter_items}
use Rattle.token_grammar.specs.Items.{Item}
use Rattle.token_grammar.specs.Kinds.{AreWelcome}
use Rattle.token_grammar.specs.PlainRead.{items_of}
use Rattle.token_grammar.proofs.plain.emit_tokens.Given as goal

abbrev pub invariant-tokens : goal.invariant-tokens
invariant-tokens g l = record {
  ready : g.S.TokenSink.ready (g.S.TokenSink.state l.sink);
  welcome : AreWelcome g.S.TokenSink.welcomes (g.S.TokenSink.state l.sink)
      (items_of (into_iter_items l.token-iterator));
  hears : (item : Item) → g.S.TokenSink.welcomes (g.S.TokenSink.state l.fn.sink) item →
      g.S.TokenSink.welcomes (g.S.TokenSink.state l.sink) item;
  emitted : fold g.S.TokenSink.means.step (g.S.TokenSink.state l.sink) (items_of (into_iter_items l.token-iterator))
      ≡ fold g.S.TokenSink.means.step (g.S.TokenSink.state l.fn.sink) (items_of l.fn.tokens.items);
}
