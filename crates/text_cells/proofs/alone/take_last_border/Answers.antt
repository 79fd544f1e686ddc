use Rattle.std.proofs.Common.{◌∙◌, ap, sym}
use Rattle.std.proofs.lemmas.Result.{on_ok_weaker}
use Rattle.std.specs.Prelude.{refl}
use Rattle.text_cells.specs.Cells.{block_lines_of}
use Rattle.text_cells.specs.Texts.{laid_line_of}
use Rattle.text_cells.specs.Ends.{without_last}
use Rattle.text_cells.proofs.AloneLemmas.{without_is, without_none}
use Rattle.text_cells.proofs.alone.take_last_border.Goals as goal

pub returns-in-Some-clause-rest : goal.returns-in-Some-clause-rest
returns-in-Some-clause-rest g c =
    let seen = g.T.EqualCopy.seen in
    on_ok_weaker c.border_or_back.result (λ h. h ∙ sym (ap (λ ls. without_last ls) c.in-Some.ensures.last
    ∙ without_is (block_lines_of seen c.pop.new.self) (laid_line_of seen c.in-Some.last))) c.border_or_back.ensures.rest

pub returns-in-None-clause-rest : goal.returns-in-None-clause-rest
returns-in-None-clause-rest g c =
    let seen = g.T.EqualCopy.seen in
    c.in-None.ensures.same refl ∙ sym (without_none (block_lines_of seen c.args.lines.now) (c.in-None.ensures.none refl))
