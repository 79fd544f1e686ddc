use Rattle.std.proofs.Common.{ap, ◌∙◌, map}
use Rattle.std.proofs.lemmas.List.{map_push}
use Rattle.std.proofs.lemmas.Result.{on_ok_weaker}
use Rattle.text_cells.specs.Texts.{laid_line_of}
use Rattle.text_cells.specs.OpenCells.{open_cell_of}
use Rattle.text_cells.proofs.OpeningLemmas.{last_taken}
use Rattle.text_cells.proofs.opening.OpenCell.take_last.Goals as goal

pub returns-in-Some : goal.returns-in-Some
returns-in-Some g c =
    let seen = g.T.EqualCopy.seen in
    let front = c.pop_back.new.self in
    on_ok_weaker c.close_line.result (λ h. h ∙ last_taken (seen c.args.tag.now) (map (laid_line_of seen) front)
    (laid_line_of seen c.in-Some.last) (open_cell_of seen c.args.self.now)
    (ap (map (laid_line_of seen)) c.in-Some.ensures.lines ∙ map_push (laid_line_of seen) front c.in-Some.last))
    c.close_line.ensures
