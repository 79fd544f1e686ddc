use Rattle.std.proofs.Common.{◌==◌, ap, ◌∙◌}
use Rattle.std.specs.Char.{to_ascii_lowercase}
use Rattle.token_states.specs.RawHeld.{is_at}
use Rattle.token_states.proofs.WordLemmas.{at_none, at_some}
use Rattle.token_states.proofs.script_turns.goes_on.Goals as goal

pub returns-in-Some : goal.returns-in-Some
returns-in-Some c =
    let h = c.in-Some.ensures.lookup.3 in
    let low = to_ascii_lowercase c.args.c in
    ap (λ d. d == c.from.result) c.to_ascii_lowercase.ensures.value ∙ ap (λ x. low == x) c.from.ensures
    ∙ at_some low c.as_bytes.result.now c.args.length c.in-Some.b.now h.0 (h.1 0) ∙
    ap (λ ws. is_at low ws c.args.length) c.as_bytes.ensures.value

pub returns-in-None : goal.returns-in-None
returns-in-None c =
    let low = to_ascii_lowercase c.args.c in
    at_none low c.as_bytes.result.now c.args.length c.in-None.ensures.lookup.3 ∙
    ap (λ ws. is_at low ws c.args.length) c.as_bytes.ensures.value
