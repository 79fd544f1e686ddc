use Rattle.std.proofs.Common.{chars, string_bytes}
use Rattle.std.proofs.lemmas.Result.{on_ok_weaker}
use Rattle.html_tree_builder.specs.Parsers.{Completes}
use Rattle.page_reading.proofs.ComingLemmas.{fed}
use Rattle.page_reading.proofs.feeding.feed.Goals as goal

pub returns-clause-reads : goal.returns-clause-reads
returns-clause-reads g c =
    let number = g.S.TreeSink.view.number in
    let handle = g.S.TreeSink.view.handle in
    let forest = g.S.TreeSink.view.forest in
    let quirks = g.S.TreeSink.view.quirks in
    on_ok_weaker c.process.result
    (λ reads. fed (Completes g.S.TreeSink.view c.process.new.self)
    (Completes g.S.TreeSink.view c.args.parser.now) c.args.decoder.now.held c.push.new.self.held
    c.args.piece.now (chars (string_bytes c.in_ok-text.text)) c.in_ok-text.ensures.text reads)
    c.process.ensures.reads
