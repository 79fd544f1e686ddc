use Rattle.std.proofs.Common.{sym, ◌∙◌}
use Rattle.text_normal.proofs.NormalRuns.{joins_word, visible_joins}
use Rattle.text_normal.proofs.normal.NormalText.joins_word.Goals as goal

pub returns-then-not-is_break_point : goal.returns-then-not-is_break_point
returns-then-not-is_break_point g c = λ fits.
    joins_word c.args.self.now c.args.c c.in-Some.columns c.has_room_for-then-not-is_break_point.result
    (sym c.is_break_point.ensures
    ∙ c.if-not-is_break_point.true) (sym c.columns.ensures ∙ c.in-Some.is)
    c.has_room_for-then-not-is_break_point.ensures fits

pub returns-then-is_visible_ascii : goal.returns-then-is_visible_ascii
returns-then-is_visible_ascii g c = λ fits.
    visible_joins c.args.self.now c.args.c c.has_room_for.result
    (c.is_visible_ascii.ensures.0 c.if-is_visible_ascii.true)
    c.has_room_for.ensures fits
