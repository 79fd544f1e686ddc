use Rattle.std.proofs.Common.{chars, sym, ◌∙◌}
use Rattle.content_widths.proofs.FlowLemmas.{after_empty, after_other, after_same, no_characters, some_characters}
use Rattle.content_widths.proofs.flow.FlowWidths.add_text.Goals as goal

pub returns-then-is_empty : goal.returns-then-is_empty
returns-then-is_empty c = λ most items h. after_empty c.args.self.now most items c.args.mode (chars c.args.text.now)
    (no_characters c.args.text.now (sym c.is_empty.ensures ∙ c.if-is_empty.true)) h

pub returns-in-Some : goal.returns-in-Some
returns-in-Some c = λ most items h. after_same c.args.self.now c.in-Some.reading c.after_text.result most items
    c.args.mode (chars c.args.text.now)
    (some_characters c.args.text.now c.utf8.text (sym c.is_empty.ensures ∙ c.if-is_empty.false))
    (sym c.running_in.ensures ∙ c.in-Some.is) c.after_text.ensures h

pub returns : goal.returns
returns c = λ most items h. after_other c.args.self.now c.so_far-self.result c.after_text-2.result most items
    c.args.mode (chars c.args.text.now)
    (some_characters c.args.text.now c.utf8.text (sym c.is_empty.ensures ∙ c.if-is_empty.false))
    (sym c.running_in.ensures ∙ c.in_default.is) c.so_far-self.ensures
    (c.after_text-2.ensures c.args.mode _ c.new.ensures) h
