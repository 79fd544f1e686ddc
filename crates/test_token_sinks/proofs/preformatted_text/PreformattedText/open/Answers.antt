use Rattle.std.proofs.Common.{◌∷◌, [], reverse, ap, ◌∙◌}
use Rattle.std.proofs.lemmas.List.{reverse-append}
use Rattle.std.specs.Str.{chars}
use Rattle.test_token_sinks.specs.PreformattedText.{Page}
use Rattle.test_token_sinks.proofs.PageLemmas.{page_same}
use Rattle.test_token_sinks.proofs.preformatted_text.PreformattedText.open.Goals as goal

pub returns : goal.returns
unfolding chars
returns c =
    page_same
    (ap reverse c.in_ok-push.ensures.items ∙ (reverse-append c.self.inside.elements.items (c.args.name ∷ []) ∙
    ap (λ (p : Page). c.args.name ∷ p.elements) c.self.view_is))
    c.is_named-self-inside.ensures
    (ap (λ (p : Page). p.text) c.self.view_is)
