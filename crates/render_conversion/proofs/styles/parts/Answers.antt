use Rattle.render_conversion.specs.Seen.{seen_part}
use Rattle.render_conversion.proofs.StyleLemmas.{parts_are}
use Rattle.render_conversion.proofs.styles.parts.Goals as goal

pub returns : goal.returns
returns c =
    λ rules name h. parts_are rules name c.args.style.now (seen_part c.part.result)
    (seen_part c.part-2.result) (seen_part c.part-3.result) c.part.ensures c.part-2.ensures
    c.part-3.ensures h
