use Rattle.std.proofs.Common.{arith, true, chars, refl}
use Rattle.std.proofs.lemmas.Bool.{and_from, and_parts}
use Rattle.token_states.specs.RawSound.{is_escaped, is_one_dash_or_two}
use Rattle.token_states.proofs.DashLemmas.{arrow_before, one_before, one_dash, second_dash, three_dashes, two_before}
use Rattle.token_states.proofs.DashLemmas.{two_dashes}
use Rattle.token_states.proofs.script_turns.at_dashes.Goals as goal

pub returns-in-45 : goal.returns-in-45
returns-in-45 c =
    let p = and_parts (is_escaped c.args.kind) (is_one_dash_or_two (chars c.args.held.now)) c.requires in
    λ table foreign mode. (
      refl,
      second_dash table mode c.args.kind c.args.c (chars c.args.held.now) p.0
          (one_dash c.args.held.now c.utf8.held p.1 c.if-held-eq1.true) c.in-45.is,
    )

pub returns-in_default : goal.returns-in_default
returns-in_default c =
    let p = and_parts (is_escaped c.args.kind) (is_one_dash_or_two (chars c.args.held.now)) c.requires in
    λ table foreign mode. (
      refl,
      one_before table mode c.args.kind c.args.c (chars c.args.held.now) p.0
          (one_dash c.args.held.now c.utf8.held p.1 c.if-held-eq1.true) (omega arith),
    )

pub returns-in-45-c : goal.returns-in-45-c
returns-in-45-c c =
    let p = and_parts (is_escaped c.args.kind) (is_one_dash_or_two (chars c.args.held.now)) c.requires in
    λ table foreign mode. (
      three_dashes table mode c.args.kind c.args.c (chars c.args.held.now) p.0
          (two_dashes c.args.held.now c.utf8.held p.1 c.if-held-eq1.false) c.in-45-c.is,
      and_from (is_escaped c.args.kind) true p.0 refl,
    )

pub returns-in-62 : goal.returns-in-62
returns-in-62 c =
    let p = and_parts (is_escaped c.args.kind) (is_one_dash_or_two (chars c.args.held.now)) c.requires in
    λ table foreign mode. (
      refl,
      arrow_before table mode c.args.kind c.args.c (chars c.args.held.now) p.0
          (two_dashes c.args.held.now c.utf8.held p.1 c.if-held-eq1.false) c.in-62.is,
    )

pub returns-in_default-c : goal.returns-in_default-c
returns-in_default-c c =
    let p = and_parts (is_escaped c.args.kind) (is_one_dash_or_two (chars c.args.held.now)) c.requires in
    λ table foreign mode. (
      refl,
      two_before table mode c.args.kind c.args.c (chars c.args.held.now) p.0
          (two_dashes c.args.held.now c.utf8.held p.1 c.if-held-eq1.false) (omega arith) (omega arith),
    )
