use Rattle.std.proofs.Common.{ap, sym, subst, ◌∙◌, map, ◌<◌, ℕ, List, length}
use Rattle.std.proofs.lemmas.Bool.{eqb-true}
use Rattle.std.proofs.lemmas.List.{map-append}
use Rattle.lex_base.proofs.NameTests.{no_chars, some_chars}
use Rattle.token_grammar.specs.Items.{item_of}
use Rattle.test_token_sinks.proofs.KeptLemmas.{nothing_kept, text_kept}
use Rattle.test_token_sinks.proofs.kept_tokens.keep_text.Goals as goal

pub returns-then-is_empty : goal.returns-then-is_empty
returns-then-is_empty c =
    nothing_kept _ c.args.text (sym c.as_str.ensures ∙ no_chars c.as_str.result.now
    (eqb-true _ 0 (sym c.is_empty.ensures ∙ c.if-is_empty.true)))

pub returns : goal.returns
returns c =
    ap (map item_of) c.in_ok-push.ensures.items ∙ (map-append item_of _ _ ∙ (c.in_ok-text.ensures
    ∙ text_kept _ c.args.text (subst (λ (l : List ℕ). 0 < length l) c.as_str.ensures
    (some_chars c.as_str.result.now c.as_str.utf8 (sym c.is_empty.ensures ∙ c.if-is_empty.false)))))
