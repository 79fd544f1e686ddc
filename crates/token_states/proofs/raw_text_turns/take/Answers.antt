use Rattle.std.proofs.Common.{◌≡◌, OnOk, chars, string_bytes, sym, subst}
use Rattle.std.proofs.lemmas.Str.{IsUtf8-string_bytes}
use Rattle.token_states.specs.RawHeld.{held_after}
use Rattle.token_states.proofs.HeldLemmas.{one_more, two_dashes}
use Rattle.token_states.proofs.raw_text_turns.take.Goals as goal

pub returns-in-Goes : goal.returns-in-Goes
returns-in-Goes c =
    let old = string_bytes c.args.held.now in
    let new = string_bytes c.push.new.self in
    subst (λ t. OnOk c.push.result (chars new ≡ held_after t (chars old) c.args.c)) (sym c.in-Goes.is)
    (one_more c.push.result old new c.args.c (IsUtf8-string_bytes c.args.held.now) c.ranges.c.0 c.push.ensures.bytes)

pub returns-in-Shifts : goal.returns-in-Shifts
returns-in-Shifts c =
    let new = string_bytes c.push_str.new.self in
    subst (λ t. OnOk c.push_str.result (chars new ≡ held_after t (chars (string_bytes c.args.held.now)) c.args.c))
    (sym c.in-Shifts.is)
    (two_dashes c.push_str.result (string_bytes c.clear.new.self) new c.clear.ensures.bytes c.push_str.ensures.bytes)
