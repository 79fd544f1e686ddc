use Rattle.std.proofs.Common.{◌++◌, ◌∙◌, ap}
use Rattle.html_render_dom.specs.ChildNodes.{children_left}
use Rattle.render_conversion.proofs.WaitingLemmas.{put_first}
use Rattle.render_conversion.proofs.waiting.Waiting.push_all.Goals as goal

pub returns : goal.returns
returns c = put_first _ _ (children_left c.args.nodes) _ c.in-Some.ensures.steps c.in_ok-push.ensures.items
    ∙ ap (λ l. children_left c.args.nodes ++ l) c.self.view_is
