use Rattle.text_cells.proofs.TextLemmas.{wide_push, count_push}
use Rattle.text_cells.proofs.wide_texts.WideTexts.push.Goals as goal

pub invariant_of-self-2-clause-wide : goal.invariant_of-self-2-clause-wide
invariant_of-self-2-clause-wide g c =
    wide_push g.T.EqualCopy.seen c.args.self.now.lines.items c.push_back.new.self.items c.args.line c.args.content
    c.args.self.now.columns c.width.result c.min-columns.result c.args.self.now.wide c.width.ensures
    c.min-columns.ensures c.in_ok-push_back.ensures.items

pub invariant_of-self-2-clause-counted : goal.invariant_of-self-2-clause-counted
invariant_of-self-2-clause-counted g c =
    count_push c.args.self.now.lines.items c.push_back.new.self.items c.args.line c.args.content
    c.args.self.now.filled c.weight.result c.in_ok-filled.filled c.args.self.now.counted
    c.weight.ensures c.in_ok-filled.ensures c.in_ok-push_back.ensures.items
