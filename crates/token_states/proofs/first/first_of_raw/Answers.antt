use Rattle.std.proofs.Common.{◌==◌, refl, sym, ◌∙◌}
use Rattle.std.proofs.lemmas.Bool.{and_left, and_right, ne_eqb}
use Rattle.token_states.specs.Goings.{may_begin}
use Rattle.token_states.proofs.FirstLemmas.{dash_first, raw_first_in, raw_sign_in}
use Rattle.token_states.proofs.first.first_of_raw.Goals.{else-c-eq60-via-else-c-eq60}
use Rattle.token_states.proofs.first.first_of_raw.Goals.{else-c-eq60-via-then-c-eq60+else-may_begin}
use Rattle.token_states.proofs.first.first_of_raw.Goals as goal

pub returns-then-may_be_reference-clause-first : goal.returns-then-may_be_reference-clause-first
returns-then-may_be_reference-clause-first c = (
  (λ table foreign mode rest m. raw_sign_in table foreign c.args.kind mode c.args.c rest
      (sym c.may_be_reference.ensures ∙ c.if-may_be_reference.true) m),
  λ table. (refl, _),
)

pub returns-then-may_end_escape-clause-first : goal.returns-then-may_end_escape-clause-first
returns-then-may_end_escape-clause-first c =
    (refl, dash_first c.args.kind c.args.c (sym c.may_end_escape.ensures ∙ c.if-may_end_escape.true))

pub returns-clause-first : goal.returns-clause-first
returns-clause-first c = (
  c.shown_character.ensures.scalar c.requires,
  λ table foreign mode rest m l. raw_first_in table foreign c.args.last.now c.args.kind mode c.args.c
      c.shown_character.result rest c.shown_character.ensures.value
      (elim c.else-c-eq60.branch [
        | else-c-eq60-via-then-c-eq60+else-may_begin w ↦ and_right (c.args.c == 60)
            (may_begin c.args.last.now c.args.kind) (sym w.may_begin.ensures ∙ w.if-may_begin.false)
        | else-c-eq60-via-else-c-eq60 w ↦ and_left (c.args.c == 60) (may_begin c.args.last.now c.args.kind)
            (ne_eqb c.args.c 60 w.if-c-eq60.false)
      ])
      (sym c.may_be_reference.ensures ∙ c.if-may_be_reference.false)
      (sym c.may_end_escape.ensures ∙ c.if-may_end_escape.false) m l,
)
