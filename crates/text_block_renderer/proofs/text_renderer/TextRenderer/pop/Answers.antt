use Rattle.std.proofs.Common.{sym, ◌∙◌}
use Rattle.block_renderer.specs.Seen.{sub_of}
use Rattle.text_block_renderer.specs.SeenParts.{parts_of}
use Rattle.text_block_renderer.proofs.PartLemmas.{parts_split}
use Rattle.text_block_renderer.proofs.text_renderer.TextRenderer.pop.Goals as goal

pub returns-clause-below : goal.returns-clause-below
returns-clause-below g c = λ below part e.
    let seen = g.D.Annotation.EqualCopy.seen in
    let held = g.D.TextDecorator.view.held in
    parts_split (sub_of seen held c.end_part.result) part (parts_of seen held c.end_part.new.self) below
    (sym c.end_part.ensures.popped ∙ e)
