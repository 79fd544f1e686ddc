use Rattle.std.proofs.Common.{chars, refl, sym, subst, ◌∙◌}
use Rattle.std.proofs.lemmas.Bool.{not-false, not-true}
use Rattle.token_grammar.specs.Tags.{ends_tag_name}
use Rattle.token_states.specs.RawTurns.{IsTextBefore}
use Rattle.token_states.proofs.EscapeWordLemmas.{word_ends, word_goes_further, word_goes_on, word_stops}
use Rattle.token_states.proofs.script_turns.at_escape_word.Goals.{else-held-word-via-else-held-word}
use Rattle.token_states.proofs.script_turns.at_escape_word.Goals.{else-held-word-via-then-held-word+else-not-has}
use Rattle.token_states.proofs.script_turns.at_escape_word.Goals as goal

pub returns-then-goes_on : goal.returns-then-goes_on
returns-then-goes_on c = λ table foreign mode. (
  refl,
  word_goes_on c.args.kind c.args.held.now c.args.c c.utf8.held c.requires c.word_of-word.result.now
      c.word_of-word.ensures (sym c.goes_on.ensures ∙ c.if-goes_on.true),
)

pub returns-then-not-has : goal.returns-then-not-has
returns-then-not-has c = λ table foreign mode. (
  refl,
  subst (λ k. IsTextBefore table mode c.args.kind (chars c.args.held.now) k c.args.c) (sym c.other_part.ensures)
      (word_ends c.args.kind c.args.held.now c.args.c c.utf8.held c.requires c.word_of-word.result.now
      c.word_of-word.ensures c.if-held-word.true
      (not-false (ends_tag_name c.args.c) (sym c.has.ensures ∙ c.if-not-has.true)) table mode),
)

pub returns : goal.returns
returns c = λ table foreign mode. (
  refl,
  elim c.else-held-word.branch [
    | else-held-word-via-then-held-word+else-not-has w ↦
        word_goes_further c.args.kind c.args.held.now c.args.c c.utf8.held c.requires c.word_of-word.result.now
        c.word_of-word.ensures w.if-held-word.true
        (not-true (ends_tag_name c.args.c) (sym w.has.ensures ∙ w.if-not-has.false)) table mode
    | else-held-word-via-else-held-word w ↦ word_stops c.args.kind c.args.held.now c.args.c c.utf8.held c.requires
        c.word_of-word.result.now c.word_of-word.ensures w.if-held-word.false
        (sym c.goes_on.ensures ∙ c.if-goes_on.false) table mode
  ],
)
