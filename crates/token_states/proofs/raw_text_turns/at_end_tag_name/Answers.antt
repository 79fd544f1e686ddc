use Rattle.std.proofs.Common.{◌&&◌, nat_lt, length, drop, chars, refl, sym, ap, subst, ◌∙◌}
use Rattle.std.proofs.lemmas.Bool.{not-false, not-true}
use Rattle.token_grammar.specs.Characters.{name_of}
use Rattle.token_grammar.specs.Lexemes.{is_last}
use Rattle.token_grammar.specs.Slices.{after}
use Rattle.token_grammar.specs.Tags.{ends_tag_name}
use Rattle.token_states.specs.Goings.{is_end_tag_front}
use Rattle.token_states.specs.RawHeld.{held_after}
use Rattle.token_states.specs.RawTurns.{IsEndTag, IsTextBefore, RawTurns}
use Rattle.token_states.proofs.EndTagLemmas.{end_mark, end_tag_held, last_name, name_goes_on, no_letter, other_name}
use Rattle.token_states.proofs.EndTagLemmas.{tag_begun, tag_not_begun}
use Rattle.token_states.proofs.raw_text_turns.at_end_tag_name.Goals as goal

pub returns-in_default : goal.returns-in_default
returns-in_default c =
    let held = chars c.args.held.now in
    let p = end_tag_held c.args.last.now c.args.kind held c.requires in
    absurd (tag_not_begun held p.1 (c.in_default.ensures.value ∙ ap (λ m. after m held) end_mark))

pub at_letter-requires-clause-letters : goal.at_letter-requires-clause-letters
at_letter-requires-clause-letters c =
    let held = chars c.args.held.now in
    let p = end_tag_held c.args.last.now c.args.kind held c.requires in
    (tag_begun held (chars c.in-Some.letters.now) p.1 (c.in-Some.ensures.value ∙ ap (λ m. after m held) end_mark)).1

pub at_letter-requires-clause-front : goal.at_letter-requires-clause-front
at_letter-requires-clause-front c =
    let held = chars c.args.held.now in
    let p = end_tag_held c.args.last.now c.args.kind held c.requires in
    ap (λ l. is_end_tag_front c.args.last.now (drop 2 l))
    (sym (tag_begun held (chars c.in-Some.letters.now) p.1
    (c.in-Some.ensures.value ∙ ap (λ m. after m held) end_mark)).0) ∙ p.2

pub returns-then-is_ascii_alphabetic : goal.returns-then-is_ascii_alphabetic
returns-then-is_ascii_alphabetic c =
    let held = chars c.args.held.now in
    let p = end_tag_held c.args.last.now c.args.kind held c.requires in
    let t = tag_begun held (chars c.in-Some.letters.now) p.1
    (c.in-Some.ensures.value ∙ ap (λ m. after m held) end_mark) in
    λ table foreign mode e.
    subst (λ l. RawTurns table foreign mode c.args.kind l c.args.c c.at_letter.result
    (held_after c.at_letter.result l c.args.c)) (sym t.0) (c.at_letter.ensures table foreign mode e)

pub returns-then-has : goal.returns-then-has
returns-then-has c =
    let held = chars c.args.held.now in
    let letters = chars c.in-Some.letters.now in
    let p = end_tag_held c.args.last.now c.args.kind held c.requires in
    let t = tag_begun held letters p.1 (c.in-Some.ensures.value ∙ ap (λ m. after m held) end_mark) in
    let other = no_letter c.args.c (sym c.is_ascii_alphabetic.ensures.value ∙ c.if-is_ascii_alphabetic.false) in
    λ table foreign mode e. (
      refl,
      subst (λ l. IsTextBefore table mode c.args.kind l c.args.kind c.args.c) (sym t.0)
          (name_goes_on table mode c.args.kind letters c.args.c p.0 t.1 other
          (not-true (ends_tag_name c.args.c) (sym c.has.ensures ∙ c.if-has.true))),
    )

pub returns-then-branch : goal.returns-then-branch
returns-then-branch c =
    let held = chars c.args.held.now in
    let letters = chars c.in-Some.letters.now in
    let p = end_tag_held c.args.last.now c.args.kind held c.requires in
    let t = tag_begun held letters p.1 (c.in-Some.ensures.value ∙ ap (λ m. after m held) end_mark) in
    let other = no_letter c.args.c (sym c.is_ascii_alphabetic.ensures.value ∙ c.if-is_ascii_alphabetic.false) in
    λ table foreign mode e. subst (λ l. IsEndTag table foreign mode c.args.kind l c.args.c (drop 2 l)) (sym t.0)
    (last_name table foreign mode c.args.kind letters c.args.c p.0 t.1 other
    (not-false (ends_tag_name c.args.c) (sym c.has.ensures ∙ c.if-has.false))
    (ap (λ l. nat_lt 0 (length letters) && is_last l (name_of letters)) e ∙ sym c.in_ok-is_last_name.ensures ∙
    c.if-branch.true))

pub returns : goal.returns
returns c =
    let held = chars c.args.held.now in
    let letters = chars c.in-Some.letters.now in
    let p = end_tag_held c.args.last.now c.args.kind held c.requires in
    let t = tag_begun held letters p.1 (c.in-Some.ensures.value ∙ ap (λ m. after m held) end_mark) in
    let other = no_letter c.args.c (sym c.is_ascii_alphabetic.ensures.value ∙ c.if-is_ascii_alphabetic.false) in
    λ table foreign mode e. (
      refl,
      subst (λ l. IsTextBefore table mode c.args.kind l c.args.kind c.args.c) (sym t.0)
          (other_name table mode c.args.kind letters c.args.c p.0 t.1 other
          (ap (λ l. nat_lt 0 (length letters) && is_last l (name_of letters)) e ∙ sym c.in_ok-is_last_name.ensures ∙
          c.if-branch.false)),
    )
