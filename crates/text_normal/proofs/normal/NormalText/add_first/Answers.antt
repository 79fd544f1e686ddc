use Rattle.std.proofs.Common.{sym, ap, ◌∙◌}
use Rattle.std.specs.Prelude.{Err}
use Rattle.std.proofs.lemmas.Result.{err_from_is_err_and}
use Rattle.text_normal.proofs.PieceLemmas.{err_same}
use Rattle.text_normal.proofs.NormalWords.{first_reads, first_wider, fronts_read}
use Rattle.text_normal.proofs.normal.NormalText.add_first.Goals as goal

pub returns-in_err-add_char-clause-narrow : goal.returns-in_err-add_char-clause-narrow
returns-in_err-add_char-clause-narrow g c = λ e.
    let p = err_from_is_err_and c.from_residual.result c.from_residual.ensures.1 in
    first_wider g.T.EqualCopy.seen c.args.self.now c.args.text.now c.in-Some.after.now c.in-Some.c
    (g.T.EqualCopy.seen c.args.tag.now) c.utf8.text c.in-Some.ensures.first
    (c.add_char.ensures.narrow (c.in_err-add_char.was ∙ ap Err (sym p.2 ∙ err_same _ _ c.from_residual.result p.1 e)))

pub returns-clause-read : goal.returns-clause-read
returns-clause-read g c =
    let seen = g.T.EqualCopy.seen in
    fronts_read seen c.args.self.now c.add_char.new.self c.add_words.new.self c.args.text.now c.in-Some.after.now
    c.in_ok-add_words.field-0.now (seen c.args.tag.now)
    (first_reads seen c.args.self.now c.add_char.new.self c.args.text.now c.in-Some.after.now c.in-Some.c
    (seen c.args.tag.now) c.utf8.text c.in-Some.ensures.first c.in_ok-add_char.ensures.read)
    c.in_ok-add_words.ensures.read
