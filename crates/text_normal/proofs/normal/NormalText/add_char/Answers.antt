use Rattle.std.proofs.Common.{sym, ◌∙◌}
use Rattle.std.proofs.lemmas.Result.{on_ok_weaker}
use Rattle.text_normal.proofs.NormalReading.{break_read, letter_read, letter_wider, no_width, both_ok}
use Rattle.text_normal.proofs.normal.NormalText.add_char.Goals as goal

pub returns-then-is_break_point-clause-read : goal.returns-then-is_break_point-clause-read
returns-then-is_break_point-clause-read g c =
    let is_break = sym c.is_break_point.ensures ∙ c.if-is_break_point.true in
    break_read g.T.EqualCopy.seen c.args.self.now c.end_word.new.self _ c.args.c _ is_break
    c.in_ok-end_word.ensures.read (c.in_ok-add_space.ensures.read is_break)

pub returns-in-Some-clause-read : goal.returns-in-Some-clause-read
returns-in-Some-clause-read g c =
    on_ok_weaker c.add_to_word.result
    (λ h. letter_read g.T.EqualCopy.seen c.args.self.now _ c.args.c _ _ (sym c.is_break_point.ensures
    ∙ c.if-is_break_point.false) (sym c.columns.ensures ∙ c.in-Some.is) h.0 h.1)
    (both_ok _ _ c.add_to_word.result c.add_to_word.ensures.read c.add_to_word.ensures.room)

pub returns-in-Some-clause-narrow : goal.returns-in-Some-clause-narrow
returns-in-Some-clause-narrow g c =
    λ e. letter_wider g.T.EqualCopy.seen c.args.self.now c.args.c _ _ (sym c.is_break_point.ensures
    ∙ c.if-is_break_point.false) (sym c.columns.ensures ∙ c.in-Some.is) (c.add_to_word.ensures.narrow e)

pub returns-in-None-clause-read : goal.returns-in-None-clause-read
returns-in-None-clause-read g c =
    no_width g.T.EqualCopy.seen c.args.self.now c.args.c _ (sym c.is_break_point.ensures ∙ c.if-is_break_point.false)
    (sym c.columns.ensures ∙ c.in-None.is)
