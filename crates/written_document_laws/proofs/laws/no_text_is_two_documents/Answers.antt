use Rattle.std.proofs.Common.{ℕ, None, refl, sym, subst, ◌∙◌}
use Rattle.tree_forest.specs.Forest.{page_alone}
use Rattle.tree_forest.specs.declared.sink.QuirksMode.TheVariants.{NoQuirks}
use Rattle.token_grammar.proofs.Readings.{some}
use Rattle.token_grammar.specs.Reading.{Reading}
use Rattle.lex_base.specs.References.{basic}
use Rattle.html_tree_builder.specs.Begun.{begun}
use Rattle.rules_table.specs.Defaults.{default_options}
use Rattle.rules_table.specs.Settling.{meaning}
use Rattle.written_document_laws.proofs.SameTrees.{same_whole}
use Rattle.written_document_laws.specs.Documents.{document_text}
use Rattle.written_document_laws.specs.Written.{ordinary}
use Rattle.written_document_laws.proofs.laws.no_text_is_two_documents.Goals as goal

pub returns : goal.returns
returns c = λ title another content other no_nul none_either blocks as_well same.
    let first = begun default_options page_alone NoQuirks in
    let means = meaning (λ (n : ℕ). n) in
    let begins = c.a_page_is_at_its_beginning.ensures default_options page_alone NoQuirks
    c.a_page_alone_is_a_forest.ensures in
    let tree_of = c.a_written_document_has_its_tree.ensures (λ n. n) basic c.the_basic_table_knows_escapes.ensures None
    first in
    let read = some basic means (ordinary None) first (document_text title content) in
    let one = tree_of title content read.0 begins refl refl no_nul blocks read.1 in
    let two = tree_of another other read.0 begins refl refl none_either as_well
    (subst (λ text. Reading basic means (ordinary None) first text read.0) same read.1) in
    same_whole title another content other
    (sym (c.a_documents_tree_at_once.ensures title content) ∙ sym one ∙ two
    ∙ c.a_documents_tree_at_once.ensures another other)
