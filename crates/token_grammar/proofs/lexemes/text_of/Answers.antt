use Rattle.std.proofs.Common.{◌≡◌, ◌∙◌, ap, arith}
use Rattle.std.specs.Prelude.{string_bytes}
use Rattle.std.specs.Str.{chars}
use lib.Utf8.{encode}
use Rattle.token_grammar.proofs.MarkLemmas.{chars-encode}
use Rattle.token_grammar.proofs.lexemes.text_of.Goals as goal

pub returns : goal.returns
returns c = c.from.ensures ∙ (ap chars (let e : string_bytes c.push.new.self ≡ encode c.args.c = grind (arith, c.in_ok-push.ensures.bytes, c.new-characters.ensures.bytes) in e) ∙ chars-encode c.args.c c.ranges.c.0)
