use Rattle.std.proofs.Common.{◌≡◌, string_bytes, drop}
use Rattle.serde_json.specs.View.{items_view}
use Rattle.lex_base.proofs.JsonLemmas.{characters, text_and_rest}
use Rattle.lex_base.proofs.json.text_of.Given as goal

abbrev pub invariant-numbers : goal.invariant-numbers
invariant-numbers l =
    characters (items_view l.numbers) ≡ text_and_rest (string_bytes l.text) (drop l.number-index l.numbers)
