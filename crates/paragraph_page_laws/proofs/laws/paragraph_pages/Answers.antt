use Rattle.html_render_dom.specs.Numbers.{handle_of}
use Rattle.paragraph_page_laws.proofs.AnswerLemmas.{answered}
use Rattle.paragraph_page_laws.proofs.laws.paragraph_pages.Goals as goal

pub returns : goal.returns
returns c = λ setting width bytes texts plainly page. answered c.a_page_has_a_tree_of_bytes.ensures
    (c.paragraph_pages_have_their_trees.ensures handle_of)
    c.paragraph_pages_are_laid.ensures setting bytes texts plainly page width
