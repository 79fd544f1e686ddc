use Rattle.std.proofs.Common.{sym, ap, ◌∙◌, chars, string_bytes}
use Rattle.std.specs.Prelude.{Err}
use Rattle.std.proofs.lemmas.Result.{err_from_is_err_and}
use Rattle.text_normal.proofs.PieceLemmas.{err_same}
use Rattle.text_normal.proofs.EndedText.{ended_wider, if_ok_two, ends_ended}
use Rattle.text_normal.proofs.normal.NormalText.into_lines_after.Goals as goal

pub returns-in_err-add_string-clause-narrow : goal.returns-in_err-add_string-clause-narrow
returns-in_err-add_string-clause-narrow g c = λ e width overflow read h.
    let p = err_from_is_err_and c.from_residual-in_err-add_string.result c.from_residual-in_err-add_string.ensures.1 in
    ended_wider width overflow (chars (string_bytes c.args.text)) (chars (string_bytes c.in_ok-text.text))
    (g.T.EqualCopy.seen c.args.tag) c.in_ok-text.ensures
    (c.add_string.ensures.narrow
    (c.in_err-add_string.was ∙ ap Err (sym p.2 ∙ err_same _ _ c.from_residual-in_err-add_string.result p.1 e)) width
    overflow
    read h)

pub returns-clause-ends : goal.returns-clause-ends
returns-clause-ends g c =
    if_ok_two _ _ _ c.into_lines.result (λ lines laid joined. ends_ended g.T.EqualCopy.seen c.args.self
    c.add_string.new.self (chars (string_bytes c.args.text)) (chars (string_bytes c.in_ok-text.text))
    (g.T.EqualCopy.seen c.args.tag) lines.items c.in_ok-text.ensures c.in_ok-add_string.ensures.read laid joined)
    c.into_lines.ensures.laid c.into_lines.ensures.joined
