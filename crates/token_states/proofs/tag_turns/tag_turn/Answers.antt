use Rattle.std.proofs.Common.{chars, string_bytes}
use Rattle.std.proofs.lemmas.Str.{IsUtf8-string_bytes}
use Rattle.token_states.proofs.TagTurnLemmas.{pushed_text, tag_ends, tag_goes}
use Rattle.token_states.proofs.tag_turns.tag_turn.Goals as goal

pub returns-in-Some-clause-turns : goal.returns-in-Some-clause-turns
returns-in-Some-clause-turns c =
    tag_goes c.args.kind c.args.place (chars (string_bytes c.args.held.now))
    (chars (string_bytes c.push.new.self)) c.args.c c.requires
    (pushed_text _ _ c.args.c (IsUtf8-string_bytes c.args.held.now) c.ranges.c.0 c.in_ok-push.ensures.bytes)
    c.in-Some.next c.in-Some.ensures

pub returns-in-None-clause-turns : goal.returns-in-None-clause-turns
returns-in-None-clause-turns c =
    tag_ends c.args.kind c.args.place (chars (string_bytes c.args.held.now))
    (chars (string_bytes c.push.new.self)) c.args.c c.requires
    (pushed_text _ _ c.args.c (IsUtf8-string_bytes c.args.held.now) c.ranges.c.0 c.in_ok-push.ensures.bytes)
    c.in-None.ensures
