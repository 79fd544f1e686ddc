use Rattle.std.proofs.Common.{◌++◌}
use Rattle.html_tree_builder.specs.Parsers.{Completes}
use Rattle.page_reading.proofs.ComingLemmas.{grown_as}
use Rattle.page_reading.proofs.reader.PageReader.push.Goals as goal
use Rattle.page_reading.specs.Readers.{Comes, dom_view}
use Rattle.page_decoding.specs.ReplacedText.{replaced_text}

pub returns-clause-reads : goal.returns-clause-reads
unfolding Comes
returns-clause-reads c =
    rw (← c.self.view_is)
    (λ rest forest mode. grown_as
    (Completes dom_view c.feed.new.parser (replaced_text (c.feed.new.decoder.held ++ rest)))
    (Completes dom_view c.self.inside.parser (replaced_text (c.self.inside.decoder.held ++ (c.args.piece.now ++ rest))))
    forest mode (c.in_ok-feed.ensures.reads rest))
