use Rattle.std.proofs.Common.{◌≡◌, ◌++◌, length}
use Rattle.std.specs.Prelude.{string_bytes}
use Rattle.std.specs.Str.{chars}
use denote.Shadow.{shadow}
use denote.Text.{Utf8}
use Rattle.html_lexemes.specs.LineEnds.{lines_ended}
use Rattle.token_grammar.specs.PageText.{page_text}
use Rattle.token_grammar.proofs.plain.page_text.Given as goal

abbrev pub invariant-characters : goal.invariant-characters
invariant-characters l = record {
  text : shadow (Utf8 l.rest);
  so_far : chars (string_bytes l.page) ++ lines_ended (chars l.rest) ≡ page_text l.fn.discard_mark (chars l.fn.text);
}

abbrev pub decreases-characters : goal.decreases-characters
decreases-characters l = length (chars l.rest)
