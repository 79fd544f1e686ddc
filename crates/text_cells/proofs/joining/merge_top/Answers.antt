use Rattle.std.proofs.Common.{ap, ◌∙◌}
use Rattle.std.specs.Option.{option_map}
use Rattle.std.proofs.lemmas.Result.{on_ok_weaker}
use Rattle.text_borders.specs.Segments.{with_down, joins_below}
use Rattle.text_borders.specs.Borders.{border_of}
use Rattle.text_cells.proofs.JoiningLemmas.{taken_in}
use Rattle.text_cells.proofs.joining.merge_top.Goals as goal

pub returns-in-Some : goal.returns-in-Some
returns-in-Some g c =
    let seen = g.T.EqualCopy.seen in
    on_ok_weaker c.merge_from_below.result (λ h. h ∙ taken_in (option_map with_down) joins_below c.args.at
    (option_map (border_of seen) c.args.cell.now.top) (border_of seen c.in-Some.top)
    (border_of seen c.args.border.now) (ap (option_map (border_of seen)) c.in-Some.is)) c.merge_from_below.ensures
