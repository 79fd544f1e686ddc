use Rattle.std.proofs.Common.{true, None, refl, subst, ◌∙◌}
use Rattle.tree_forest.specs.Forest.{page_alone}
use Rattle.tree_forest.specs.declared.sink.QuirksMode.TheVariants.{NoQuirks}
use Rattle.token_grammar.specs.Reading.{Reading}
use Rattle.html_tree_builder.specs.Begun.{begun}
use Rattle.rules_table.specs.declared.options.TreeBuilderOpts.{TreeBuilderOpts}
use Rattle.rules_table.specs.Settling.{meaning}
use Rattle.written_document_laws.specs.Documents.{scripted_parse}
use Rattle.written_document_laws.specs.Written.{ordinary}
use Rattle.written_document_laws.proofs.laws.a_written_page_has_its_tree.Goals as goal

pub returns : goal.returns
returns g c = λ handle table scripting knows title content forest quirks no_nul no_return blocks tree.
    let options : TreeBuilderOpts = (scripted_parse scripting).tree_builder in
    let first = begun options page_alone NoQuirks in
    tree.nodes
    ∙ c.a_written_document_has_its_tree.ensures handle table knows None first title content tree.final
    (c.a_page_is_at_its_beginning.ensures options page_alone NoQuirks c.a_page_alone_is_a_forest.ensures) refl
    refl no_nul blocks
    (subst (λ text. Reading table (meaning handle) (ordinary None) first text tree.final)
    (c.a_written_document_is_a_page_text.ensures true title content no_return blocks) tree.reading)
