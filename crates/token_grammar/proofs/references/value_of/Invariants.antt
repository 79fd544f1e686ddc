use Rattle.std.proofs.Common.{chars, length, string_bytes}
use denote.Text.{Utf8}
use denote.Shadow.{shadow}
use Rattle.token_grammar.proofs.ValueLemmas.{IsValuing}
use Rattle.token_grammar.proofs.references.value_of.Given as goal

abbrev pub invariant-value : goal.invariant-value
invariant-value l = record {
  is_text : shadow (Utf8 l.rest);
  so_far : IsValuing l.table (chars l.text) (chars (string_bytes l.value)) (chars l.rest);
}

abbrev pub decreases-value : goal.decreases-value
decreases-value l = length (chars l.rest)
