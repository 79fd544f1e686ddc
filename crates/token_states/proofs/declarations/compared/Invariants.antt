use Rattle.std.proofs.Common.{◌≡◌, chars, IsUtf8}
use denote.Text.{Utf8}
use denote.Shadow.{shadow}
use Rattle.token_states.specs.Spellings.{folded, spelled}
use Rattle.token_states.proofs.declarations.compared.Given as goal

abbrev pub invariant-mark : goal.invariant-mark
invariant-mark l = record {
  rest_utf8 : shadow (Utf8 l.rest);
  left_utf8 : IsUtf8 l.wanted-iterator.rest.now;
  same : spelled (folded l.any_case) (chars l.mark) (chars l.text)
      ≡ spelled (folded l.any_case) (chars l.wanted-iterator.rest.now) (chars l.rest);
}
