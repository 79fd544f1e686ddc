use Rattle.std.proofs.Common.{◌≡◌, ◌++◌, chars, string_bytes, IsUtf8}
use Rattle.token_grammar.specs.Characters.{shown_text}
use Rattle.token_grammar.proofs.comments.shown.Given as goal

abbrev pub invariant-shown : goal.invariant-shown
invariant-shown l = record {
  left_text : IsUtf8 l.c-iterator.rest.now;
  same : chars (string_bytes l.shown) ++ shown_text (chars l.c-iterator.rest.now) ≡ shown_text (chars l.text);
}
