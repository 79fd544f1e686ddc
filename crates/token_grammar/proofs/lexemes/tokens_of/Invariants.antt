use Rattle.std.proofs.Common.{◌≡◌, ◌++◌, length}
use Rattle.std.specs.Prelude.{map}
use Rattle.std.specs.Str.{chars}
use denote.Shadow.{shadow}
use denote.Text.{Utf8}
use Rattle.token_grammar.specs.Lexemes.{ordinary_item}
use Rattle.token_grammar.specs.PlainRead.{items_of}
use Rattle.token_grammar.proofs.lexemes.tokens_of.Given as goal

abbrev pub invariant-characters : goal.invariant-characters
invariant-characters l = record {
  text : shadow (Utf8 l.rest);
  so_far : items_of l.tokens.items ++ map ordinary_item (chars l.rest) ≡ map ordinary_item (chars l.fn.text);
}

abbrev pub decreases-characters : goal.decreases-characters
decreases-characters l = length (chars l.rest)
