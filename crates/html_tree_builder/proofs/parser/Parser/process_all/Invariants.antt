use Rattle.std.proofs.Common.{◌≡◌, ◌++◌, ℕ, List, false}
use Rattle.std.specs.Vec.Iter.{into_iter_items}
use Rattle.html_tokenizer.specs.Pieces.{joined}
use Rattle.html_tree_builder.specs.Parsers.{Completes, IsFit, has_failed}
use Rattle.html_tree_builder.proofs.parser.Parser.process_all.Given as goal
use Rattle.rules_table.specs.State.{State}

-- what is left of the pieces, read by the parser as it stands, is what the parser made of them at first
abbrev pub invariant-pieces : goal.invariant-pieces
invariant-pieces g l =
    let number = g.S.TreeSink.view.number in
    let handle = g.S.TreeSink.view.handle in
    let forest = g.S.TreeSink.view.forest in
    let quirks = g.S.TreeSink.view.quirks in
    record {
      fit : IsFit g.S.TreeSink.view l.self;
      works : has_failed l.self ≡ false;
      reads : (rest : List ℕ) (final : State) →
          Completes g.S.TreeSink.view l.self (joined (into_iter_items l.piece-iterator) ++ rest) final →
          Completes g.S.TreeSink.view l.fn.self (joined l.fn.pieces.items ++ rest) final;
    }
