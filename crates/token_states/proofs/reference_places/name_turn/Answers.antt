use Rattle.std.proofs.Common.{chars, sym, subst}
use Rattle.token_states.specs.ReferenceTurns.{ReferenceTurns}
use Rattle.token_states.specs.declared.place.ReferencePlace.TheVariants.{Named}
use Rattle.token_states.proofs.ReferenceNames.{denied, longer_turns, name_turns, no_sign_read, other_turns, sign_read}
use Rattle.token_states.proofs.ReferenceNames.{sign_turns}
use Rattle.token_states.proofs.reference_places.name_turn.Goals as goal

pub returns-then-eq-clause-turns : goal.returns-then-eq-clause-turns
returns-then-eq-clause-turns c = λ held d is h.
    subst (ReferenceTurns c.args.table.now Named held d) (sym c.goes.ensures)
    (sign_turns c.args.table.now (chars c.args.text.now) held d is
    (sign_read c.args.text.now c.eq.result c.eq.ensures c.if-eq.true))

pub returns-then-not-has_name_beginning-clause-turns : goal.returns-then-not-has_name_beginning-clause-turns
returns-then-not-has_name_beginning-clause-turns c = λ held d is h.
    other_turns c.args.table.now (chars c.args.text.now) held d is h
    (no_sign_read c.args.text.now c.eq.result c.utf8.text c.eq.ensures c.if-eq.false)
    (denied c.has_name_beginning.result c.has_name_beginning.ensures c.if-not-has_name_beginning.true)

pub returns-then-has_longer_name-clause-turns : goal.returns-then-has_longer_name-clause-turns
returns-then-has_longer_name-clause-turns c = λ held d is h.
    subst (ReferenceTurns c.args.table.now Named held d) (sym c.goes-then-has_longer_name.ensures)
    (longer_turns c.args.table.now (chars c.args.text.now) held d is c.names_are_names.ensures
    (c.has_longer_name.ensures.0 c.if-has_longer_name.true))

pub returns-else-has_longer_name-clause-turns : goal.returns-else-has_longer_name-clause-turns
returns-else-has_longer_name-clause-turns c = λ held d is h.
    name_turns c.args.table.now (chars c.args.text.now) held d is c.names_are_names.ensures
    (c.has_name_beginning.ensures.0 c.if-not-has_name_beginning.false)
    (denied c.has_longer_name.result c.has_longer_name.ensures c.if-has_longer_name.false)
