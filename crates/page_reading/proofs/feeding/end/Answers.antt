use Rattle.std.proofs.Common.{subst}
use Rattle.std.proofs.lemmas.Result.{IfOk-weaker}
use Rattle.html_tree_builder.specs.Grown.{IsGrown}
use Rattle.html_tree_builder.specs.Parsers.{Completes}
use Rattle.page_reading.proofs.feeding.end.Goals as goal

pub returns-clause-grown : goal.returns-clause-grown
returns-clause-grown g c =
    let sink = g.S.TreeSink in
    IfOk-weaker c.one.result _ _
    (λ output grown. subst
    (λ cs. IsGrown (Completes sink.view c.args.parser cs)
    (sink.tree output) (sink.tree_quirks output))
    c.in_ok-text.ensures.text grown)
    c.one.ensures.grown
