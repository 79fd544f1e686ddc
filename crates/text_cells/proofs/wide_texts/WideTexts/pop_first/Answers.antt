use Rattle.std.proofs.Common.{◌≡◌}
use Rattle.std.proofs.lemmas.List.Elements.{All-rest}
use Rattle.text_lines.specs.Tagged.{line_items}
use Rattle.text_pieces.specs.Items.{has_text}
use Rattle.text_cells.proofs.TextLemmas.{wide_popped, count_popped}
use Rattle.text_cells.proofs.wide_texts.WideTexts.pop_first.Goals as goal

pub invariant_of-self-2-clause-wide : goal.invariant_of-self-2-clause-wide
invariant_of-self-2-clause-wide g c =
    wide_popped c.args.self.now.lines.items c.pop_front.new.self.items c.in_ok-first.first
    c.args.self.now.columns c.args.self.now.wide c.in_ok-first.ensures.items

pub invariant_of-self-2-clause-counted : goal.invariant_of-self-2-clause-counted
invariant_of-self-2-clause-counted g c =
    count_popped c.args.self.now.lines.items c.pop_front.new.self.items c.in_ok-first.first
    c.args.self.now.filled c.weight.result c.saturating_sub-self.result c.args.self.now.counted c.weight.ensures
    c.saturating_sub-self.ensures c.in_ok-first.ensures.items

pub returns-clause-content : goal.returns-clause-content
returns-clause-content g c = λ all.
    let seen = g.T.EqualCopy.seen in
    All-rest (λ t. t.content ≡ has_text (line_items seen t.line)) c.in_ok-first.first c.pop_front.new.self.items
    c.args.self.now.lines.items c.in_ok-first.ensures.items all
