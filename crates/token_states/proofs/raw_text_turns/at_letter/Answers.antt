use Rattle.std.proofs.Common.{Some, length, refl, chars, sym, ap, ◌∙◌}
use Rattle.token_states.specs.RawHeld.{is_at}
use Rattle.std.specs.Char.{to_ascii_lowercase}
use Rattle.std.proofs.lemmas.Bool.{both_ways}
use Rattle.token_states.specs.Goings.{is_end_tag_front}
use Rattle.token_states.proofs.EndTagLemmas.{letter_goes, letters_bytes, other_last}
use Rattle.token_states.proofs.raw_text_turns.at_letter.Goals as goal

pub returns-in_default : goal.returns-in_default
returns-in_default c =
    absurd (both_ways (is_end_tag_front c.args.last.now (chars c.args.letters.now))
    (ap (λ o. is_end_tag_front o (chars c.args.letters.now)) c.in_default.is) c.requires.front)

pub returns-then-goes_on : goal.returns-then-goes_on
returns-then-goes_on c = λ table foreign mode e. (
  refl,
  letter_goes mode.last_start_tag c.args.kind (chars c.args.letters.now) c.as_str.result.now c.args.c c.requires.kind
      c.requires.letters c.requires.letter
      (ap (λ o. is_end_tag_front o (chars c.args.letters.now)) e ∙ c.requires.front)
      (e ∙ c.in-Some.is ∙ ap (λ n. Some n) (sym c.as_str.ensures)) c.as_str.utf8
      (ap (λ l. is_at (to_ascii_lowercase c.args.c) c.as_str.result.now (length l))
      (sym (letters_bytes c.args.letters.now c.utf8.letters c.requires.letters)) ∙ sym c.goes_on.ensures ∙
      c.if-goes_on.true),
)

pub returns : goal.returns
returns c = λ table foreign mode e. (
  refl,
  other_last table mode c.args.kind (chars c.args.letters.now) c.as_str.result.now c.in-Some.name c.args.c
      c.requires.kind c.requires.letters c.requires.letter (e ∙ c.in-Some.is) c.as_str.utf8 c.as_str.ensures
      (ap (λ l. is_at (to_ascii_lowercase c.args.c) c.as_str.result.now (length l))
      (sym (letters_bytes c.args.letters.now c.utf8.letters c.requires.letters)) ∙ sym c.goes_on.ensures ∙
      c.if-goes_on.false),
)
