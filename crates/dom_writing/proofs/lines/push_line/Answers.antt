use Rattle.std.proofs.lemmas.Result.{on_ok_weaker}
use Rattle.dom_writing.proofs.LineLemmas.{line_added}
use Rattle.dom_writing.proofs.lines.push_line.Goals as goal

pub returns : goal.returns
returns c =
    on_ok_weaker c.push_str.result
    (λ h. line_added _ _ _ _ _ _ c.in_ok-push_spaces.ensures c.in_ok-push_kind.ensures h) c.push_str.ensures.ok
