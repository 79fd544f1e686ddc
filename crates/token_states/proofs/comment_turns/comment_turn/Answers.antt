use Rattle.std.proofs.Common.{chars, string_bytes, ap, subst}
use Rattle.token_states.specs.CommentEnds.{IsClosed, IsNotClosed}
use Rattle.token_states.specs.declared.place.LexemeState.TheVariants.{Comment}
use Rattle.token_states.proofs.CommentLemmas.{comment_over, still_open_comment}
use Rattle.token_states.proofs.MarkupHeld.{pushed, taken}
use Rattle.token_states.proofs.comment_turns.comment_turn.Goals as goal

pub returns-then-is_closed : goal.returns-then-is_closed
returns-then-is_closed c =
    let hs = chars (string_bytes c.args.held.now) in
    let now = chars (string_bytes c.push.new.self) in
    let e = pushed c.args.held.now c.push.new.self c.args.c c.ranges.c.0 c.in_ok-push.ensures.bytes in
    let closed = subst IsClosed (ap chars c.deref.ensures) c.if-is_closed.ensures in
    λ table foreign mode. (
      taken table foreign mode Comment hs c.args.c now e,
      comment_over table foreign mode hs now c.args.c c.requires e closed,
    )

pub returns : goal.returns
returns c =
    let hs = chars (string_bytes c.args.held.now) in
    let now = chars (string_bytes c.push.new.self) in
    let e = pushed c.args.held.now c.push.new.self c.args.c c.ranges.c.0 c.in_ok-push.ensures.bytes in
    let more = subst IsNotClosed (ap chars c.deref.ensures) c.if-is_closed.ensures in
    λ table foreign mode. (
      taken table foreign mode Comment hs c.args.c now e,
      still_open_comment hs now c.args.c c.requires e more,
    )
