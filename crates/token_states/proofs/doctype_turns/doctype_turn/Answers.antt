use Rattle.std.proofs.Common.{◌∷◌, ◌++◌, [], chars, string_bytes, ap, ◌∙◌}
use Rattle.token_states.specs.declared.place.LexemeState.TheVariants.{Doctype}
use Rattle.token_states.proofs.DoctypeEnds.{doctype_over}
use Rattle.token_states.proofs.MarkupHeld.{pushed, still_no_greater, taken}
use Rattle.token_states.proofs.doctype_turns.doctype_turn.Goals as goal

pub returns-then-c-eq62 : goal.returns-then-c-eq62
returns-then-c-eq62 c =
    let hs = chars (string_bytes c.args.held.now) in
    let now = chars (string_bytes c.push.new.self) in
    let e = pushed c.args.held.now c.push.new.self c.args.c c.ranges.c.0 c.in_ok-push.ensures.bytes in
    λ table foreign mode. (
      taken table foreign mode Doctype hs c.args.c now e,
      doctype_over table foreign mode hs now c.requires (e ∙ ap (λ d. hs ++ d ∷ []) c.if-c-eq62.true),
    )

pub returns : goal.returns
returns c =
    let hs = chars (string_bytes c.args.held.now) in
    let now = chars (string_bytes c.push.new.self) in
    let e = pushed c.args.held.now c.push.new.self c.args.c c.ranges.c.0 c.in_ok-push.ensures.bytes in
    λ table foreign mode. (
      taken table foreign mode Doctype hs c.args.c now e,
      still_no_greater hs now c.args.c c.requires e c.if-c-eq62.false,
    )
