use Rattle.std.proofs.Common.{ap, ◌∙◌}
use Rattle.std.specs.Option.{option_map}
use Rattle.std.proofs.lemmas.Result.{on_ok_weaker}
use Rattle.text_borders.specs.Segments.{with_up, joins_above}
use Rattle.text_borders.specs.Borders.{border_of}
use Rattle.text_cells.proofs.JoiningLemmas.{taken_in}
use Rattle.text_cells.proofs.joining.merge_bottom.Goals as goal

pub returns-in-Some : goal.returns-in-Some
returns-in-Some g c =
    let seen = g.T.EqualCopy.seen in
    on_ok_weaker c.merge_from_above.result (λ h. h ∙ taken_in (option_map with_up) joins_above c.args.at
    (option_map (border_of seen) c.args.cell.now.bottom) (border_of seen c.in-Some.bottom)
    (border_of seen c.args.border.now) (ap (option_map (border_of seen)) c.in-Some.is)) c.merge_from_above.ensures
