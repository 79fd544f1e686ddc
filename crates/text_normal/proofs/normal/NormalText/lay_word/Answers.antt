use Rattle.std.proofs.Common.{sym, ap, ◌∙◌, refl}
use Rattle.std.specs.Option.{option_map}
use Rattle.std.proofs.lemmas.Bool.{false≢true}
use Rattle.text_normal.proofs.NormalReading.{lay_moved}
use Rattle.text_normal.proofs.normal.NormalText.lay_word.Goals as goal

pub returns-clause-read : goal.returns-clause-read
returns-clause-read g c =
    let seen = g.T.EqualCopy.seen in
    let old = c.args.self.now in
    lay_moved seen old _ _ _ (ap (option_map seen) (c.as_ref.ensures.value ∙ c.take-space.ensures.value)) refl
    (λ e. false≢true (sym c.if-is_empty.false ∙ c.is_empty.ensures.1 e)) c.in_ok-add_word.ensures.laid
    refl (ap (option_map seen) c.take-space.ensures.after) c.clear.ensures.items
