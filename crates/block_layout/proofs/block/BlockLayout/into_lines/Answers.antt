use Rattle.std.proofs.Common.{Some, map, ap, sym, ◌∙◌}
use Rattle.std.specs.Option.{option_map}
use Rattle.text_borders.specs.Across.{CellLine}
use Rattle.block_layout.specs.Laid.{Laid, finished}
use Rattle.block_layout.proofs.block.BlockLayout.into_lines.Goals as goal

pub returns-clause-lines : goal.returns-clause-lines
returns-clause-lines g c =
    let done = map (λ (l : CellLine g.T.EqualCopy.Seen). finished c.args.measure l.line) in
    ap (option_map (λ (b : Laid g.T.EqualCopy.Seen). done b.lines)) c.in_ok-flush.ensures.flushed
    ∙ ap (λ lines. Some lines) (sym (c.in_ok-lines.ensures.lines
    ∙ ap done (c.in_ok-laid.ensures.lines ∙ c.into_laid_lines.ensures.lines)))

pub returns-clause-joined : goal.returns-clause-joined
returns-clause-joined g c = λ h.
    c.in_ok-lines.ensures.joined (c.in_ok-laid.ensures.joined (c.into_laid_lines.ensures.joined
    (c.flush.ensures.joined h)))
