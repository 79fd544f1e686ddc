use Rattle.std.proofs.Common.{ap, sym, ◌≡◌, ◌∙◌}
use Rattle.std.proofs.lemmas.Result.{IfOk-weaker}
use Rattle.tree_forest.specs.Trees.{trees}
use Rattle.tree_forest.specs.Forest.{children_at}
use Rattle.html_render_dom.specs.Numbers.{number_of}
use Rattle.render_conversion.specs.CompleteRows.{complete_row}
use Rattle.render_conversion.specs.Meanings.{by_pages, plain_row}
use Rattle.render_conversion.proofs.CompleteLemmas.{by_plain}
use Rattle.render_conversion.proofs.meaning.flowing_element.Goals as goal

pub returns-in-Plain : goal.returns-in-Plain
returns-in-Plain c =
    let inside = trees c.args.dom.now.forest (children_at (number_of c.args.node) c.args.dom.now.forest) in
    let plain = plain_row c.args.name.now c.args.attrs.now inside in
    let row = complete_row c.args.name.now c.args.attrs.now inside in
    IfOk-weaker c.plain_row.result (λ m. m ≡ plain) (λ m. m ≡ by_pages c.args.pages row plain)
    (λ m e. e ∙ (by_plain row plain ∙ ap (λ pages. by_pages pages row plain) (sym c.in-Plain.is))) c.plain_row.ensures
