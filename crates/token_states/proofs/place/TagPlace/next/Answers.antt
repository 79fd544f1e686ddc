use Rattle.std.proofs.Common.{sym, ◌∙◌, arith}
use Rattle.token_states.proofs.TagSteps.{attribute_begins, gap_goes_on, name_ends, name_goes_on, name_slashed}
use Rattle.token_states.proofs.TagSteps.{name_spaced, slash_is_gap, space_is_gap}
use Rattle.token_states.proofs.place.TagPlace.next.Goals as goal

pub returns-in-47 : goal.returns-in-47
returns-in-47 c = name_ends c.args.self c.args.c c.in-TagName.is (slash_is_gap c.args.c c.in-47.is)

pub returns-in_default : goal.returns-in_default
returns-in_default c =
    name_ends c.args.self c.args.c c.in-TagName.is (space_is_gap c.args.c (sym c.has.ensures ∙ c.if-has.true))

pub returns-in-47-c : goal.returns-in-47-c
returns-in-47-c c = gap_goes_on c.args.self c.args.c c.in-BeforeAttributeName.is (slash_is_gap c.args.c c.in-47-c.is)

pub returns-in_default-c : goal.returns-in_default-c
returns-in_default-c c =
    gap_goes_on c.args.self c.args.c c.in-BeforeAttributeName.is
    (space_is_gap c.args.c (sym c.has-in-BeforeAttributeName.ensures ∙ c.if-has-2.true))

pub returns-in_default-2-c : goal.returns-in_default-2-c
returns-in_default-2-c c =
    attribute_begins c.args.self c.args.c c.in-BeforeAttributeName.is
    (record {
      no_space = sym c.has-in-BeforeAttributeName.ensures ∙ c.if-has-2.false;
      no_slash = omega arith;
      no_greater = omega arith;
    })

pub returns-in-47-c-2 : goal.returns-in-47-c-2
returns-in-47-c-2 c = name_slashed c.args.self c.args.c c.in-AttributeName.is c.in-47-c-2.is

pub returns-in_default-c-2 : goal.returns-in_default-c-2
returns-in_default-c-2 c =
    name_spaced c.args.self c.args.c c.in-AttributeName.is (sym c.has-in-AttributeName.ensures ∙ c.if-has-3.true)

pub returns-in_default-2-c-2 : goal.returns-in_default-2-c-2
returns-in_default-2-c-2 c =
    name_goes_on c.args.self c.args.c c.in-AttributeName.is
    (record {
      no_space = sym c.has-in-AttributeName.ensures ∙ c.if-has-3.false;
      no_slash = omega arith;
      no_greater = omega arith;
    }) (omega arith)
