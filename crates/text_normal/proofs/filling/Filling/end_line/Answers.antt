use Rattle.std.proofs.Common.{subst, sym, ap, ◌∙◌, refl}
use Rattle.std.proofs.lemmas.Bool.{false≢true}
use Rattle.text_lines.specs.Tagged.{line_items, IsJoined}
use Rattle.text_normal.proofs.NormalFilling.{line_ended}
use Rattle.text_normal.proofs.filling.Filling.end_line.Goals as goal

pub returns-clause-laid : goal.returns-clause-laid
returns-clause-laid g c =
    let seen = g.T.EqualCopy.seen in
    line_ended seen c.args.self.now _ c.replace-line.result c.replace-line.ensures.value refl refl
    c.in_ok-push.ensures.items (λ e. false≢true (sym c.if-is_empty.false ∙ c.is_empty.ensures.1 e))
    (ap (line_items seen) c.replace-line.ensures.after ∙ c.new-fresh.ensures.items)
    (subst (IsJoined seen) (sym c.replace-line.ensures.after) c.new-fresh.ensures.joined)
