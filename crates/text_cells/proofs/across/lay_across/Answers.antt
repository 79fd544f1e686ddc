use Rattle.std.specs.Option.{option_map}
use Rattle.std.proofs.Common.{ap, ◌∙◌}
use Rattle.std.proofs.lemmas.Result.{IfOk-weaker}
use Rattle.text_borders.specs.Borders.{border_of}
use Rattle.text_cells.specs.OpenCells.{seated_across}
use Rattle.text_cells.proofs.across.lay_across.Goals as goal

pub returns-then-is_alone-clause-row : goal.returns-then-is_alone-clause-row
returns-then-is_alone-clause-row g c =
    let seen = g.T.EqualCopy.seen in
    IfOk-weaker c.lay_alone.result _ _ (λ row h. h c.args.draws ∙ ap (λ cs. seated_across c.args.draws c.args.collapse
    (seen c.args.tag.now) (option_map (border_of seen) c.args.above) cs) c.in_ok-seated.ensures) c.lay_alone.ensures.row

pub returns-clause-row : goal.returns-clause-row
returns-clause-row g c =
    let seen = g.T.EqualCopy.seen in
    IfOk-weaker c.lay_each.result _ _ (λ row h. h ∙ ap (λ cs. seated_across c.args.draws c.args.collapse
    (seen c.args.tag.now) (option_map (border_of seen) c.args.above) cs) c.in_ok-seated.ensures) c.lay_each.ensures.row
