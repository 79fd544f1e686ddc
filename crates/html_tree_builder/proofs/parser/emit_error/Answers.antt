use Rattle.html_tree_builder.proofs.ReadLemmas.{same_parsed}
use Rattle.html_tree_builder.proofs.parser.emit_error.Goals as goal
use Rattle.html_tree_builder.specs.declared.builder.TreeBuilder.{TreeBuilder}

pub returns-clause-as_before : goal.returns-clause-as_before
returns-clause-as_before g c =
    let page = c.args.tokenizer.now.sink.page in
    let builder : TreeBuilder g.row.S.Denot g.row.S-Handle.Denot g.row.S-Output.Denot = record {
      page = record { kept = page.kept; tree = record { held = page.tree.held; sink = c.parse_error.new.self } };
    } in
    c.a_builder_may_change_but_for_its_state.ensures c.args.tokenizer.now builder _
    (same_parsed g.S.TreeSink.view page.kept page.tree.held
    c.parse_error.new.self page.tree.sink c.parse_error.ensures.forest c.parse_error.ensures.quirks)
