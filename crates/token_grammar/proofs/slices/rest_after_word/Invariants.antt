use Rattle.std.proofs.Common.{◌≡◌, chars, IsUtf8}
use denote.Text.{Utf8}
use denote.Shadow.{shadow}
use Rattle.token_grammar.specs.Slices.{after_word}
use Rattle.token_grammar.proofs.slices.rest_after_word.Given as goal

abbrev pub invariant-word : goal.invariant-word
invariant-word l = record {
  rest_utf8 : shadow (Utf8 l.rest);
  left_utf8 : IsUtf8 l.wanted-iterator.rest.now;
  same : after_word (chars l.word) (chars l.text) ≡ after_word (chars l.wanted-iterator.rest.now) (chars l.rest);
}
