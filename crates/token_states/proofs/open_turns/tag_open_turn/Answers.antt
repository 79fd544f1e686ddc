use Rattle.std.proofs.Common.{◌≡◌, ◌==◌, true, chars, string_bytes, sym, ap, ◌∙◌}
use Rattle.html_lexemes.specs.declared.token.TagKind.TheVariants.{StartTag}
use Rattle.token_grammar.specs.Characters.{is_letter}
use Rattle.token_states.proofs.MarkupHeld.{pushed}
use Rattle.token_states.proofs.OpenLemmas.{no_greater_one, only, question_taken, start_tag_taken, tag_sound}
use Rattle.token_states.proofs.open_turns.tag_open_turn.Goals as goal

pub returns-then-is_ascii_alphabetic : goal.returns-then-is_ascii_alphabetic
returns-then-is_ascii_alphabetic c =
    let hs = chars (string_bytes c.args.held.now) in
    let now = chars (string_bytes c.push.new.self) in
    let e = only hs now c.args.c c.requires
    (pushed c.args.held.now c.push.new.self c.args.c c.ranges.c.0 c.in_ok-push.ensures.bytes) in
    let letter : is_letter c.args.c ≡ true = sym c.is_ascii_alphabetic.ensures.value ∙ c.if-is_ascii_alphabetic.true in
    λ table foreign mode. (
      start_tag_taken table foreign mode hs now c.args.c letter c.requires e,
      tag_sound StartTag now c.args.c letter e,
    )

pub returns-in_ok-push-in-63 : goal.returns-in_ok-push-in-63
returns-in_ok-push-in-63 c =
    let hs = chars (string_bytes c.args.held.now) in
    let now = chars (string_bytes c.push-in-63.new.self) in
    let e = only hs now c.args.c c.requires
    (pushed c.args.held.now c.push-in-63.new.self c.args.c c.ranges.c.0 c.in_ok-push-in-63.ensures.bytes) in
    λ table foreign mode. (
      question_taken table foreign mode hs now c.args.c c.in-63.is c.requires e,
      no_greater_one now c.args.c (ap (λ d. d == 62) c.in-63.is) e,
    )
