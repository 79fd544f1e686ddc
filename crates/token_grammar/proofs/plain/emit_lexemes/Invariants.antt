use Rattle.std.proofs.Common.{length}
use Rattle.std.specs.Str.{chars}
use denote.Shadow.{shadow}
use denote.Text.{Utf8}
use Rattle.token_grammar.specs.Kinds.{IsReadyFor}
use Rattle.token_grammar.specs.Reading.{Reading}
use Rattle.token_grammar.proofs.plain.emit_lexemes.Given as goal

abbrev pub invariant-lexemes : goal.invariant-lexemes
invariant-lexemes g l = record {
  text : shadow (Utf8 l.rest);
  ready : IsReadyFor g.S.TokenSink.ready g.S.TokenSink.welcomes l.mode.text (g.S.TokenSink.state l.sink);
  leads : (final : _) → Reading l.table g.S.TokenSink.means l.mode (g.S.TokenSink.state l.sink) (chars l.rest) final →
      Reading l.table g.S.TokenSink.means l.fn.mode (g.S.TokenSink.state l.fn.sink) (chars l.fn.text) final;
}

abbrev pub decreases-lexemes : goal.decreases-lexemes
decreases-lexemes g l = length (chars l.rest)
