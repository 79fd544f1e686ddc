use Rattle.std.proofs.Common.{chars, codes, refl}
use lib.Utf8.{encode}
use Rattle.std.proofs.Math.Logic.{◌⊎◌.inl, ◌⊎◌.inr}
use Rattle.token_grammar.proofs.MarkLemmas.{arrow_codes, bang_codes, end_codes, greater_codes}
use Rattle.token_states.proofs.CommentLemmas.{apart_at, closed_first, closed_second, closed_when, ends_at}
use Rattle.token_states.proofs.comment_turns.is_closed.Goals as goal

pub returns-then-ends_with : goal.returns-then-ends_with
unfolding encode
returns-then-ends_with c =
    let text = c.args.comment.now in
    closed_first (chars text) c.ends_with.result c.if-ends_with.true
    (ends_at (codes "-->") text c.ends_with.result c.utf8.comment (
      codes "-->",
      (refl, refl),
    ) end_codes c.ends_with.ensures.cases)

pub returns-else-ends_with : goal.returns-else-ends_with
unfolding encode
returns-else-ends_with c =
    let text = c.args.comment.now in
    let u = c.utf8.comment in
    closed_second (chars text) c.ends_with.result c.ends_with-else-ends_with.result
    (apart_at (codes ">") text u (codes ">", (refl, refl)) greater_codes c.in_default.not-text)
    (apart_at (codes "->") text u (codes "->", (refl, refl)) arrow_codes c.in_default.not-text-2)
    c.if-ends_with.false
    (ends_at (codes "-->") text c.ends_with.result u (codes "-->", (refl, refl)) end_codes c.ends_with.ensures.cases)
    (ends_at (codes "--!>") text c.ends_with-else-ends_with.result u (
      codes "--!>",
      (refl, refl),
    ) bang_codes c.ends_with-else-ends_with.ensures.cases)

pub returns-in-text : goal.returns-in-text
returns-in-text c = closed_when c.args.comment.now (inl c.in-text.is-text)

pub returns-in-text-2 : goal.returns-in-text-2
returns-in-text-2 c = closed_when c.args.comment.now (inr c.in-text.is-text-2)
