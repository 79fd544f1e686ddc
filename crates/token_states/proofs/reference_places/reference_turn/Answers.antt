use Rattle.std.proofs.Common.{chars, string_bytes, encode_utf8, ap, ◌∙◌}
use Rattle.std.proofs.lemmas.Str.{IsUtf8-string_bytes}
use Rattle.html_lexemes.proofs.QueueLemmas.{string_length}
use Rattle.token_states.proofs.ReferencePlaces.{before_last, held_with, turns_before, turns_held}
use Rattle.token_states.proofs.reference_places.reference_turn.Goals as goal

pub truncate-requires : goal.truncate-requires
truncate-requires c = λ _.
    before_last (string_bytes c.args.held.now) (string_bytes c.push.new.self) (encode_utf8 c.args.c) c.len-length.result
    (IsUtf8-string_bytes c.args.held.now) (IsUtf8-string_bytes c.push.new.self)
    (c.len-length.ensures ∙ string_length c.args.held.now) c.in_ok-push.ensures.bytes

pub returns-in-EndsBefore-clause-turns : goal.returns-in-EndsBefore-clause-turns
returns-in-EndsBefore-clause-turns c =
    let whole =
    held_with (string_bytes c.args.held.now) (string_bytes c.push.new.self) c.args.c
    (IsUtf8-string_bytes c.args.held.now) c.ranges.c.0 c.in_ok-push.ensures.bytes in
    turns_before c.args.table.now c.args.place (string_bytes c.args.held.now) (string_bytes c.push.new.self)
    (encode_utf8 c.args.c) (string_bytes c.truncate.new.self) c.args.c c.len-length.result c.turn_after-turn.result
    (c.turn_after-turn.ensures.turns (chars (string_bytes c.args.held.now))
    (ap chars c.as_str.ensures.value ∙ whole) c.requires)
    c.in-EndsBefore.is (c.len-length.ensures ∙ string_length c.args.held.now) c.in_ok-push.ensures.bytes
    c.truncate.ensures.bytes

pub returns-in_default-clause-turns : goal.returns-in_default-clause-turns
returns-in_default-clause-turns c =
    let whole =
    held_with (string_bytes c.args.held.now) (string_bytes c.push.new.self) c.args.c
    (IsUtf8-string_bytes c.args.held.now) c.ranges.c.0 c.in_ok-push.ensures.bytes in
    turns_held c.args.table.now c.args.place (chars (string_bytes c.args.held.now))
    (chars (string_bytes c.push.new.self)) c.args.c c.turn_after-turn.result
    (c.turn_after-turn.ensures.turns (chars (string_bytes c.args.held.now))
    (ap chars c.as_str.ensures.value ∙ whole) c.requires)
    c.in_default.not-EndsBefore whole
