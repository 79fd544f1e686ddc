use Rattle.std.proofs.Common.{ap, ◌∙◌}
use Rattle.token_states.specs.ReferenceTurns.{digit_turn, hexadecimal_turn, number_turn}
use Rattle.token_states.specs.declared.place.ReferencePlace.TheVariants.{Decimal, Hexadecimal, HexadecimalStart}
use Rattle.token_states.specs.declared.place.ReferencePlace.TheVariants.{Numeric}
use Rattle.token_states.proofs.ReferencePlaces.{decimal_turns, hexadecimal_turns, number_turns, start_turns, turns_at}
use Rattle.token_states.proofs.reference_places.turn_after.Goals as goal

pub returns-in-Numeric-clause-turns : goal.returns-in-Numeric-clause-turns
returns-in-Numeric-clause-turns c = λ held _.
    turns_at c.args.table.now c.args.place Numeric held c.args.c c.number_turn.result
    (number_turn c.args.c) c.in-Numeric.is c.number_turn.ensures (number_turns c.args.table.now held c.args.c)

pub returns-in-HexadecimalStart-clause-turns : goal.returns-in-HexadecimalStart-clause-turns
returns-in-HexadecimalStart-clause-turns c = λ held _.
    turns_at c.args.table.now c.args.place HexadecimalStart held c.args.c c.hexadecimal_turn.result
    (hexadecimal_turn c.args.c) c.in-HexadecimalStart.is c.hexadecimal_turn.ensures
    (start_turns c.args.table.now held c.args.c)

pub returns-in-Decimal-clause-turns : goal.returns-in-Decimal-clause-turns
returns-in-Decimal-clause-turns c = λ held _.
    turns_at c.args.table.now c.args.place Decimal held c.args.c c.digit_turn.result
    (digit_turn Decimal 10 c.args.c) c.in-Decimal.is
    (c.digit_turn.ensures ∙ ap (λ p. digit_turn p 10 c.args.c) c.in-Decimal.is)
    (decimal_turns c.args.table.now held c.args.c)

pub returns-in-Hexadecimal-clause-turns : goal.returns-in-Hexadecimal-clause-turns
returns-in-Hexadecimal-clause-turns c = λ held _.
    turns_at c.args.table.now c.args.place Hexadecimal held c.args.c c.digit_turn-in-Hexadecimal.result
    (digit_turn Hexadecimal 16 c.args.c) c.in-Hexadecimal.is
    (c.digit_turn-in-Hexadecimal.ensures ∙ ap (λ p. digit_turn p 16 c.args.c) c.in-Hexadecimal.is)
    (hexadecimal_turns c.args.table.now held c.args.c)
