use Rattle.text_cells.proofs.TextLemmas.{wide_joined, count_joined}
use Rattle.text_cells.proofs.wide_texts.WideTexts.joined.Goals as goal

pub invariant_of-result-clause-wide : goal.invariant_of-result-clause-wide
invariant_of-result-clause-wide g c =
    wide_joined c.args.self.lines.items c.args.others.lines.items c.in_ok-lines.lines.items c.args.self.columns
    c.args.others.columns c.min.result c.args.self.wide c.args.others.wide c.min.ensures c.in_ok-lines.ensures

pub invariant_of-result-clause-counted : goal.invariant_of-result-clause-counted
invariant_of-result-clause-counted g c =
    count_joined c.args.self.lines.items c.args.others.lines.items c.in_ok-lines.lines.items c.args.self.filled
    c.args.others.filled c.in_ok-filled.filled c.args.self.counted c.args.others.counted c.in_ok-filled.ensures
    c.in_ok-lines.ensures
