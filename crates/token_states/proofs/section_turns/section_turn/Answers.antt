use Rattle.std.proofs.Common.{List, ℕ, string_bytes, sym, subst}
use Rattle.std.specs.Str.{chars}
use Rattle.std.proofs.lemmas.Str.{IsUtf8-string_bytes}
use Rattle.token_states.specs.SectionTurns.{SectionTurns}
use Rattle.token_states.proofs.SectionLemmas.{bracket-goes, text-short, two-held, not_two-held}
use Rattle.token_states.proofs.TagTurnLemmas.{pushed_text}
use Rattle.token_states.proofs.section_turns.section_turn.Goals as goal

pub returns-then-eq : goal.returns-then-eq
returns-then-eq c mode =
    subst (λ (h : List ℕ). SectionTurns mode h c.args.c c.after_brackets.result h)
    (sym (two-held (string_bytes c.args.held.now) c.as_str.result.now c.as_str.ensures.value c.if-eq.ensures))
    (c.after_brackets.ensures mode)

pub returns-then-c-ne93 : goal.returns-then-c-ne93
returns-then-c-ne93 c mode =
    text-short (chars (string_bytes c.args.held.now)) c.args.c mode c.requires
    (not_two-held (string_bytes c.args.held.now) c.as_str.result.now c.as_str.ensures.value
    (IsUtf8-string_bytes c.args.held.now) c.if-eq.ensures) c.if-c-ne93.true

pub returns : goal.returns
returns c mode =
    bracket-goes (chars (string_bytes c.args.held.now)) c.args.c mode c.requires
    (not_two-held (string_bytes c.args.held.now) c.as_str.result.now c.as_str.ensures.value
    (IsUtf8-string_bytes c.args.held.now) c.if-eq.ensures)
    (chars (string_bytes c.push.new.self)) c.if-c-ne93.false
    (pushed_text _ _ c.args.c (IsUtf8-string_bytes c.args.held.now) c.ranges.c.0 c.in_ok-push.ensures.bytes)
