use Rattle.std.proofs.Common.{◌≡◌, ◌∷◌, ◌++◌, [], IsTrue, chars, string_bytes, sym, ap, subst, ◌∙◌}
use Rattle.std.proofs.lemmas.Str.{chars-nil}
use Rattle.token_states.specs.Goings.{IsGoing}
use Rattle.token_states.specs.MarkupSound.{is_begun_declaration}
use Rattle.token_states.specs.declared.place.LexemeState.TheVariants.{MarkupDeclarationOpen}
use Rattle.token_states.proofs.DeclarationLemmas.{bogus_taken, no_greater_begun, opened_taken}
use Rattle.token_states.proofs.MarkupHeld.{bogus_over, pushed, still_no_greater, taken}
use Rattle.token_states.proofs.open_turns.declaration_turn.Goals as goal

pub returns-in-Begun : goal.returns-in-Begun
returns-in-Begun c =
    let hs = chars (string_bytes c.args.held.now) in
    let now = chars (string_bytes c.push.new.self) in
    let e = pushed c.args.held.now c.push.new.self c.args.c c.ranges.c.0 c.in_ok-push.ensures.bytes in
    let sound = subst (λ l. IsTrue (is_begun_declaration l)) (ap chars c.deref.ensures) c.in-Begun.ensures in
    λ table mode. (taken table c.args.foreign mode MarkupDeclarationOpen hs c.args.c now e, sound)

pub returns-in-Opens : goal.returns-in-Opens
returns-in-Opens c =
    let hs = chars (string_bytes c.args.held.now) in
    let now = chars (string_bytes c.push.new.self) in
    let cleared = chars (string_bytes c.clear.new.self) in
    let e = pushed c.args.held.now c.push.new.self c.args.c c.ranges.c.0 c.in_ok-push.ensures.bytes in
    let none : cleared ≡ [] = ap chars c.clear.ensures.bytes ∙ chars-nil in
    let opens = c.in-Opens.ensures in
    λ table mode. (
      opened_taken table c.args.foreign mode hs now (chars c.deref.result.now) cleared c.args.c c.in-Opens.place e
          (ap chars c.deref.ensures) none opens.0,
      subst (IsGoing table mode.last_start_tag c.in-Opens.place) (sym none) (opens.1 table mode.last_start_tag),
    )

pub returns-in-Other : goal.returns-in-Other
returns-in-Other c =
    let hs = chars (string_bytes c.args.held.now) in
    let now = chars (string_bytes c.push.new.self) in
    let e = pushed c.args.held.now c.push.new.self c.args.c c.ranges.c.0 c.in_ok-push.ensures.bytes in
    λ table mode. (
      bogus_taken table c.args.foreign mode hs now (chars c.deref.result.now) c.args.c c.requires e
          (ap chars c.deref.ensures) c.in-Other.ensures,
      bogus_over table c.args.foreign mode hs now (no_greater_begun hs c.requires)
          (e ∙ ap (λ d. hs ++ d ∷ []) c.if-c-eq62.true),
    )

pub returns-in-Other-2 : goal.returns-in-Other-2
returns-in-Other-2 c =
    let hs = chars (string_bytes c.args.held.now) in
    let now = chars (string_bytes c.push.new.self) in
    let e = pushed c.args.held.now c.push.new.self c.args.c c.ranges.c.0 c.in_ok-push.ensures.bytes in
    λ table mode. (
      bogus_taken table c.args.foreign mode hs now (chars c.deref.result.now) c.args.c c.requires e
          (ap chars c.deref.ensures) c.in-Other-2.ensures,
      still_no_greater hs now c.args.c (no_greater_begun hs c.requires) e c.if-c-eq62.false,
    )
