use Rattle.std.proofs.Common.{◌≡◌, false}
use Rattle.std.specs.Vec.Iter.{into_iter_items}
use Rattle.token_grammar.specs.FirstMode.{first_mode}
use Rattle.token_grammar.specs.PageText.{page_text}
use Rattle.token_grammar.specs.Reading.{Reading}
use Rattle.html_tokenizer.specs.Completes.{Completes, IsFit, has_failed}
use Rattle.html_tokenizer.specs.Pieces.{joined}
use Rattle.html_tokenizer.proofs.pieces.read_pieces.Given as goal

abbrev pub invariant-pieces : goal.invariant-pieces
invariant-pieces g l =
    let s = g.Sink.TokenSink.state in
    let means = g.Sink.TokenSink.means in
    record {
      works : has_failed l.tokenizer ≡ false;
      fit : IsFit s g.Sink.TokenSink.ready g.Sink.TokenSink.welcomes l.tokenizer;
      reads : (final : _) → Completes s means l.tokenizer (joined (into_iter_items l.piece-iterator)) final →
          Reading l.fn.table means (first_mode l.fn.opts) (s l.fn.sink)
          (page_text l.fn.opts.discard_bom (joined l.fn.pieces.items)) final;
    }
