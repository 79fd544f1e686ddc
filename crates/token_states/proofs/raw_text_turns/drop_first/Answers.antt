use Rattle.std.proofs.Common.{◌++◌, string_bytes, string_len, sym, ap, ◌∙◌}
use lib.Utf8.{encode}
use Rattle.std.proofs.lemmas.Bool.{eqb-true}
use Rattle.std.proofs.lemmas.Str.{IsUtf8-string_bytes}
use Rattle.html_lexemes.proofs.QueueLemmas.{string_length}
use Rattle.token_states.proofs.HeldLemmas.{nothing_left, without_first}
use Rattle.token_states.proofs.raw_text_turns.drop_first.Goals as goal

pub returns-then-is_empty : goal.returns-then-is_empty
returns-then-is_empty c =
    nothing_left (string_bytes c.args.held.now) (sym (string_length c.args.held.now) ∙
    eqb-true (string_len c.args.held.now) 0 (sym c.is_empty.ensures ∙ c.if-is_empty.true))

pub returns : goal.returns
returns c =
    let b = c.remove.ensures.bytes in
    without_first (string_bytes c.args.held.now) (string_bytes c.remove.new.self) c.remove.result
    (IsUtf8-string_bytes c.args.held.now) (b.1 ∙ ap (λ l. encode c.remove.result ++ l) (sym b.2))
