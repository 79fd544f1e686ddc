use Rattle.std.proofs.Common.{sym, ap, ◌∙◌, subst, chars}
use Rattle.std.specs.Prelude.{Err}
use Rattle.std.proofs.lemmas.Result.{on_ok_weaker, err_from_is_err_and}
use Rattle.text_normal.specs.Units.{lettered}
use Rattle.text_normal.specs.NormalStates.{Reads, MeetsWider}
use Rattle.text_normal.proofs.PieceLemmas.{err_same}
use Rattle.text_normal.proofs.NormalWords.{first_reads, first_wider, fronts_read, front_wider}
use Rattle.text_normal.proofs.SpacedMoved.{front_then, spaced_reads, nothing_there}
use Rattle.text_normal.proofs.normal.NormalText.add_spaced.Goals as goal

pub returns-in_default-clause-read : goal.returns-in_default-clause-read
returns-in_default-clause-read g c =
    nothing_there g.T.EqualCopy.seen c.args.self.now c.first_char.result c.as_str.result.now _
    (g.T.EqualCopy.seen c.args.tag) c.in_default.not-Some c.first_char.ensures.none c.as_str.ensures.value

pub returns-in_err-add_char-clause-narrow : goal.returns-in_err-add_char-clause-narrow
returns-in_err-add_char-clause-narrow g c = λ e.
    let seen = g.T.EqualCopy.seen in
    let tag = seen c.args.tag in
    let p = err_from_is_err_and c.from_residual.result c.from_residual.ensures.1 in
    subst (λ bs. MeetsWider seen c.args.self.now (lettered (chars bs) tag)) c.as_str.ensures.value
    (first_wider seen c.args.self.now c.as_str.result.now c.in-Some.after.now c.in-Some.c tag c.as_str.utf8
    c.in-Some.ensures.first
    (c.add_char.ensures.narrow (c.in_err-add_char.was ∙ ap Err (sym p.2 ∙ err_same _ _ c.from_residual.result p.1 e))))

pub returns-in-Some-more_of_line-clause-read : goal.returns-in-Some-more_of_line-clause-read
returns-in-Some-more_of_line-clause-read g c =
    let seen = g.T.EqualCopy.seen in
    let tag = seen c.args.tag in
    subst (λ bs. Reads seen c.args.self.now c.move_more.new.self (lettered (chars bs) tag)) c.as_str.ensures.value
    (spaced_reads seen c.args.self.now c.add_char.new.self c.move_more.new.self c.as_str.result.now c.in-Some.after.now
    c.in-Some.c tag c.as_str.utf8 c.in-Some.ensures.first c.in_ok-add_char.ensures.read
    (λ first rest text_is. c.in_ok-move_more.ensures first rest (ap chars (sym c.as_str.ensures.value) ∙ text_is)))

pub returns-clause-read : goal.returns-clause-read
returns-clause-read g c =
    let seen = g.T.EqualCopy.seen in
    let tag = seen c.args.tag in
    let front = fronts_read seen c.args.self.now c.add_char.new.self c.add_words.new.self c.as_str.result.now
    c.in-Some.after.now c.in_ok-rest.rest.now tag
    (first_reads seen c.args.self.now c.add_char.new.self c.as_str.result.now c.in-Some.after.now c.in-Some.c tag
    c.as_str.utf8 c.in-Some.ensures.first c.in_ok-add_char.ensures.read) c.in_ok-rest.ensures.read in
    on_ok_weaker c.add_normal.result (λ reads.
    subst (λ bs. Reads seen c.args.self.now c.add_normal.new.self (lettered (chars bs) tag)) c.as_str.ensures.value
    (front_then seen c.args.self.now c.add_words.new.self c.add_normal.new.self c.as_str.result.now
    c.in_ok-rest.rest.now
    tag front reads)) c.add_normal.ensures.read

pub returns-clause-narrow : goal.returns-clause-narrow
returns-clause-narrow g c = λ e.
    let seen = g.T.EqualCopy.seen in
    let tag = seen c.args.tag in
    let front = fronts_read seen c.args.self.now c.add_char.new.self c.add_words.new.self c.as_str.result.now
    c.in-Some.after.now c.in_ok-rest.rest.now tag
    (first_reads seen c.args.self.now c.add_char.new.self c.as_str.result.now c.in-Some.after.now c.in-Some.c tag
    c.as_str.utf8 c.in-Some.ensures.first c.in_ok-add_char.ensures.read) c.in_ok-rest.ensures.read in
    subst (λ bs. MeetsWider seen c.args.self.now (lettered (chars bs) tag)) c.as_str.ensures.value
    (front_wider seen c.args.self.now c.add_words.new.self c.as_str.result.now c.in_ok-rest.rest.now tag front
    (c.add_normal.ensures.narrow e))
