use Rattle.std.proofs.Common.{chars, refl}
use Rattle.std.proofs.lemmas.Bool.{and_parts}
use Rattle.token_states.specs.RawSound.{is_escape_begun, is_script_data}
use Rattle.token_states.proofs.EscapeStartLemmas.{escape_before, escape_begins, first_dash, with_dash, without_dash}
use Rattle.token_states.proofs.script_turns.at_escape_start.Goals as goal

pub returns-then-c-ne45 : goal.returns-then-c-ne45
returns-then-c-ne45 c =
    let p = and_parts (is_script_data c.args.kind) (is_escape_begun (chars c.args.held.now)) c.requires in
    λ table foreign mode.
    (refl, escape_before table mode c.args.kind c.args.c (chars c.args.held.now) p.0 p.1 c.if-c-ne45.true)

pub returns-then-held-eq2 : goal.returns-then-held-eq2
returns-then-held-eq2 c =
    let p = and_parts (is_script_data c.args.kind) (is_escape_begun (chars c.args.held.now)) c.requires in
    λ table foreign mode. (
      refl,
      first_dash table mode c.args.kind c.args.c (chars c.args.held.now) p.0
          (without_dash c.args.held.now c.utf8.held p.1 c.if-held-eq2.true) c.if-c-ne45.false,
    )

pub returns : goal.returns
returns c =
    let p = and_parts (is_script_data c.args.kind) (is_escape_begun (chars c.args.held.now)) c.requires in
    λ table foreign mode. (
      escape_begins table mode c.args.kind c.args.c (chars c.args.held.now) p.0
          (with_dash c.args.held.now c.utf8.held p.1 c.if-held-eq2.false) c.if-c-ne45.false,
      refl,
    )
