use Rattle.std.proofs.Common.{ap, ◌∙◌, chars, ℕ, List}
use Rattle.std.specs.Str.{bytes_eq}
use Rattle.lex_base.proofs.Utf8Order.{same_by_bytes}
use Rattle.test_token_sinks.proofs.preformatted_text.is_named.Goals as goal

pub returns : goal.returns
returns c =
    c.eq.ensures
    ∙ (same_by_bytes _ _ c.as_str.utf8 c.utf8.other ∙
    ap (λ (l : List ℕ). bytes_eq l (chars c.args.other.now)) c.as_str.ensures)
