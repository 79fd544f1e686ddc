use Rattle.std.proofs.Common.{subst, ◌∙◌}
use Rattle.html_render_dom.specs.Numbers.{handle_of}
use Rattle.html_tree_builder.specs.Grown.{IsTreeOfPage}
use Rattle.page_reading.specs.PageTrees.{first_of_page}
use Rattle.written_document_laws.specs.Documents.{scripted_parse}
use Rattle.article_writing.proofs.laws.bytes_of_an_article_have_its_tree.Goals as goal

pub returns : goal.returns
returns c = λ table scripting knows title blocks bytes forest quirks faultless utf8 same tree.
    c.a_written_article_has_its_tree.ensures handle_of table scripting knows title blocks forest quirks faultless
    (subst (λ text. IsTreeOfPage handle_of (first_of_page table (scripted_parse scripting)) text forest quirks)
    (c.utf8_is_read_as_its_text.ensures bytes utf8 ∙ same) tree)
