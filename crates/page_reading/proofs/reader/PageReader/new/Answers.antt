use Rattle.std.proofs.Common.{ap}
use Rattle.html_render_dom.specs.Dom.{Dom}
use Rattle.html_render_dom.specs.Numbers.{handle_of}
use Rattle.html_tree_builder.specs.Grown.{ReadsTo, beginning}
use Rattle.html_tree_builder.specs.Parsers.{Completes}
use Rattle.page_reading.proofs.ComingLemmas.{begun_alone}
use Rattle.page_reading.proofs.reader.PageReader.new.Goals as goal
use Rattle.page_reading.specs.Readers.{Comes, dom_view}

pub returns-clause-begins : goal.returns-clause-begins
unfolding Comes
returns-clause-begins c =
    begun_alone (Completes dom_view c.parse_document.result)
    (λ first begun text final. ReadsTo handle_of (beginning c.args.table c.args.options first begun) text final)
    c.new-2.result.held c.in_ok-sink.sink.forest c.in_ok-sink.sink.quirks c.new-2.ensures.held
    (ap (λ (dom : Dom). dom.forest) c.in_ok-sink.ensures.made)
    (ap (λ (dom : Dom). dom.quirks) c.in_ok-sink.ensures.made)
    c.parse_document.ensures.begins
