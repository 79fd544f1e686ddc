use Rattle.std.specs.Prelude.{refl}
use Rattle.std.proofs.lemmas.Result.{on_ok_weaker}
use Rattle.text_cells.specs.Cells.{laid_line_of}
use Rattle.block_layout.specs.Seen.{laid_of, lines_of}
use Rattle.block_layout.proofs.RowLemmas.{taken_off, nothing_off}
use Rattle.block_layout.proofs.block.BlockLayout.take_border.Goals as goal

pub returns-in-Some-clause-without : goal.returns-in-Some-clause-without
returns-in-Some-clause-without g c =
    let seen = g.T.EqualCopy.seen in
    on_ok_weaker c.border_or_back.result (λ e. taken_off (laid_of seen c.args.self.now)
    (lines_of seen c.args.self.now.lines) (lines_of seen c.pop.new.self) (laid_line_of seen c.in-Some.last)
    (laid_of seen c.border_or_back.new.self) c.in-Some.ensures.last e)
    c.border_or_back.ensures.lines

pub returns-in-None-clause-without : goal.returns-in-None-clause-without
returns-in-None-clause-without g c =
    let seen = g.T.EqualCopy.seen in
    nothing_off (laid_of seen c.args.self.now) (lines_of seen c.pop.new.self) (lines_of seen c.args.self.now.lines)
    (c.in-None.ensures.same refl) (c.in-None.ensures.none refl)
