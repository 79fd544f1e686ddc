use Rattle.std.proofs.Common.{◌++◌, ◌∷◌, [], List, ℕ, reverse, refl, ap, ◌∙◌}
use Rattle.std.proofs.lemmas.Str.{chars-nil}
use Rattle.std.specs.Str.{chars}
use Rattle.test_token_sinks.proofs.PageLemmas.{page_same}
use Rattle.test_token_sinks.proofs.preformatted_text.PreformattedText.new.Goals as goal

pub returns : goal.returns
unfolding chars
returns c =
    page_same
    (ap reverse (c.in_ok-push.ensures.items
    ∙ (ap (λ (l : List (List ℕ)). l ++ c.in_ok-from_str.field-0 ∷ []) c.new-elements.ensures.items ∙
    ap (λ (l : List ℕ). l ∷ []) c.in_ok-from_str.ensures)))
    refl
    (ap chars c.new.ensures.bytes ∙ chars-nil)
