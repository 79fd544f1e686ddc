use Rattle.std.proofs.Common.{arith}
use Rattle.text_cells.proofs.TextLemmas.{all_kept, as_many}
use Rattle.text_cells.proofs.wide_texts.WideTexts.are_kept.Goals as goal

pub returns : goal.returns
returns g c = λ full tag.
    let texts = c.args.self.now in
    all_kept g.T.EqualCopy.seen c.args.width texts.columns tag texts.lines.items (omega (arith, c.if-width-eq0.false))
    c.if-width-self.false texts.wide
    (as_many texts.lines.items texts.filled c.len.result full texts.counted (omega (arith, c.len.ensures, texts.lines.ok.0)))
