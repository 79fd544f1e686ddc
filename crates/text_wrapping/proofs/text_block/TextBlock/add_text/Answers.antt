use Rattle.std.proofs.Common.{sym, ap, ◌∙◌, chars}
use Rattle.std.specs.Prelude.{Err}
use Rattle.std.proofs.lemmas.Result.{err_from_is_err_and, on_ok_weaker}
use Rattle.text_normal.proofs.WordLemmas.{empty_text, some_text}
use Rattle.text_wrapping.specs.Blocks.{text_of}
use Rattle.text_wrapping.proofs.BlockLemmas.{added_nothing, added_after, added_refused, added_narrow}
use Rattle.text_wrapping.proofs.text_block.TextBlock.add_text.Goals as goal

pub returns-then-is_empty-clause-added : goal.returns-then-is_empty-clause-added
returns-then-is_empty-clause-added g c =
    added_nothing c.args.ws_mode (chars c.args.text.now) _ _ _
    (empty_text c.args.text.now (sym c.is_empty.ensures ∙ c.if-is_empty.true))

pub returns-in_err-enter-clause-narrow : goal.returns-in_err-enter-clause-narrow
returns-in_err-enter-clause-narrow g c = λ e.
    let p = err_from_is_err_and c.from_residual.result c.from_residual.ensures.1 in
    added_refused c.args.ws_mode (chars c.args.text.now) _ _ _
    (some_text c.args.text.now c.utf8.text (sym c.is_empty.ensures ∙ c.if-is_empty.false))
    (c.enter.ensures.narrow (c.in_err-enter.was ∙ ap Err (sym p.2) ∙ sym p.1 ∙ e))

pub returns-clause-added : goal.returns-clause-added
returns-clause-added g c =
    let seen = g.T.EqualCopy.seen in
    on_ok_weaker c.take_all.result (λ taken. added_after c.args.ws_mode (chars c.args.text.now)
    (seen c.args.main_tag.now) (seen c.args.wrap_tag.now) (text_of seen c.args.self.now)
    (text_of seen c.enter.new.self) (text_of seen c.take_all.new.self)
    (some_text c.args.text.now c.utf8.text (sym c.is_empty.ensures ∙ c.if-is_empty.false))
    c.in_ok-enter.ensures.entered taken) c.take_all.ensures.taken

pub returns-clause-narrow : goal.returns-clause-narrow
returns-clause-narrow g c = λ e.
    let seen = g.T.EqualCopy.seen in
    added_narrow c.args.ws_mode (chars c.args.text.now)
    (seen c.args.main_tag.now) (seen c.args.wrap_tag.now) (text_of seen c.args.self.now)
    (text_of seen c.enter.new.self)
    (some_text c.args.text.now c.utf8.text (sym c.is_empty.ensures ∙ c.if-is_empty.false))
    c.in_ok-enter.ensures.entered (c.take_all.ensures.narrow e)
