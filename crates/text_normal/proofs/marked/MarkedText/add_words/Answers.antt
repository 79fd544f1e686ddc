use Rattle.std.proofs.Common.{ap, sym, ◌∙◌, refl}
use Rattle.std.specs.Prelude.{Err}
use Rattle.std.proofs.lemmas.Result.{err_from_is_err_and, on_ok_weaker}
use Rattle.text_normal.proofs.WordLemmas.{empty_text, some_text}
use Rattle.text_normal.proofs.MarkedLemmas.{adds_nothing, adds_words, meets_at_rides, meets_after}
use Rattle.text_normal.proofs.marked.MarkedText.add_words.Goals as goal

pub returns-then-is_empty-clause-words : goal.returns-then-is_empty-clause-words
returns-then-is_empty-clause-words g c =
    adds_nothing g.T.EqualCopy.seen c.args.self.now _ _ (empty_text c.args.text.now (sym c.is_empty.ensures
    ∙ c.if-is_empty.true))

pub returns-in_err-add_rides-clause-narrow : goal.returns-in_err-add_rides-clause-narrow
returns-in_err-add_rides-clause-narrow g c = λ e.
    let p = err_from_is_err_and c.from_residual.result c.from_residual.ensures.1 in
    meets_at_rides g.T.EqualCopy.seen c.args.self.now _ _
    (c.add_rides.ensures.never (c.in_err-add_rides.was ∙ ap Err (sym p.2) ∙ sym p.1 ∙ e))

pub returns-clause-words : goal.returns-clause-words
returns-clause-words g c =
    on_ok_weaker c.add_text.result (λ h. adds_words g.T.EqualCopy.seen c.args.self.now _ c.add_rides.new.text
    c.deref.result.now _ _ (some_text c.args.text.now c.utf8.text (sym c.is_empty.ensures ∙ c.if-is_empty.false))
    refl refl c.clear.ensures.items c.deref.ensures.value c.in_ok-add_rides.ensures.read h) c.add_text.ensures.read

pub returns-clause-narrow : goal.returns-clause-narrow
returns-clause-narrow g c = λ e.
    meets_after g.T.EqualCopy.seen c.args.self.now c.add_rides.new.text c.deref.result.now _ _
    c.in_ok-add_rides.ensures.read (c.add_text.ensures.narrow e)
