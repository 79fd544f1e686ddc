use Rattle.std.proofs.Common.{◌≡◌, true, false, chars, string_bytes, sym, ◌∙◌}
use Rattle.std.proofs.lemmas.Bool.{ne_eqb}
use Rattle.html_lexemes.specs.declared.token.TagKind.TheVariants.{EndTag}
use Rattle.token_grammar.specs.Characters.{is_letter}
use Rattle.token_states.specs.declared.place.LexemeState.TheVariants.{EndTagOpen}
use Rattle.token_states.proofs.MarkupHeld.{pushed, taken}
use Rattle.token_states.proofs.OpenLemmas.{end_tag_taken, no_greater_one, only, slash_over, slash_taken, tag_sound}
use Rattle.token_states.proofs.open_turns.end_tag_open_turn.Goals as goal

pub returns-then-is_ascii_alphabetic : goal.returns-then-is_ascii_alphabetic
returns-then-is_ascii_alphabetic c =
    let hs = chars (string_bytes c.args.held.now) in
    let now = chars (string_bytes c.push.new.self) in
    let e = only hs now c.args.c c.requires
    (pushed c.args.held.now c.push.new.self c.args.c c.ranges.c.0 c.in_ok-push.ensures.bytes) in
    let letter : is_letter c.args.c ≡ true = sym c.is_ascii_alphabetic.ensures.value ∙ c.if-is_ascii_alphabetic.true in
    λ table foreign mode. (
      end_tag_taken table foreign mode hs now c.args.c letter c.requires e,
      tag_sound EndTag now c.args.c letter e,
    )

pub returns-then-c-eq62 : goal.returns-then-c-eq62
returns-then-c-eq62 c =
    let hs = chars (string_bytes c.args.held.now) in
    let now = chars (string_bytes c.push.new.self) in
    let p = pushed c.args.held.now c.push.new.self c.args.c c.ranges.c.0 c.in_ok-push.ensures.bytes in
    let e = only hs now c.args.c c.requires p in
    λ table foreign mode. (
      taken table foreign mode EndTagOpen hs c.args.c now p,
      slash_over table foreign mode now c.args.c c.if-c-eq62.true e,
    )

pub returns : goal.returns
returns c =
    let hs = chars (string_bytes c.args.held.now) in
    let now = chars (string_bytes c.push.new.self) in
    let e = only hs now c.args.c c.requires
    (pushed c.args.held.now c.push.new.self c.args.c c.ranges.c.0 c.in_ok-push.ensures.bytes) in
    let other : is_letter c.args.c ≡ false = sym c.is_ascii_alphabetic.ensures.value ∙ c.if-is_ascii_alphabetic.false in
    let n = ne_eqb c.args.c 62 c.if-c-eq62.false in
    λ table foreign mode. (
      slash_taken table foreign mode hs now c.args.c other n c.requires e,
      no_greater_one now c.args.c n e,
    )
