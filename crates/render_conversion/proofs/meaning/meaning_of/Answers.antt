use Rattle.std.proofs.Common.{ap, ◌∙◌}
use Rattle.tree_forest.specs.Trees.{trees}
use Rattle.tree_forest.specs.Forest.{children_at}
use Rattle.html_render_dom.specs.Numbers.{number_of}
use Rattle.render_conversion.specs.Meanings.{meaning}
use Rattle.render_conversion.proofs.NodeLemmas.{as_document}
use Rattle.render_conversion.proofs.meaning.meaning_of.Goals as goal

pub returns-in-None : goal.returns-in-None
returns-in-None c =
    c.document-in-None.ensures
    ∙ ap (λ k. meaning c.args.pages c.args.place k
    (trees c.args.dom.now.forest (children_at (number_of c.args.node) c.args.dom.now.forest)))
    (as_document (number_of c.args.node) c.args.dom.now.forest c.in-None.ensures.stands)
