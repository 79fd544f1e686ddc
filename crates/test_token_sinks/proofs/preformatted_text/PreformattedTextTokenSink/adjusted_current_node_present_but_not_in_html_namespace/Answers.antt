use Rattle.std.proofs.Common.{◌≡◌, ◌∷◌, List, ℕ, reverse, drop, codes, ap, subst, ◌∙◌}
use Rattle.std.specs.Str.{chars}
use Rattle.test_token_sinks.specs.PreformattedText.{Page}
use Rattle.test_token_sinks.proofs.PageLemmas.{innermost_named}
use Rattle.test_token_sinks.proofs.preformatted_text.PreformattedTextTokenSink.adjusted_current_node_present_but_not_in_html_namespace.Goals as goal

pub returns : goal.returns
unfolding chars
returns c =
    let innermost = c.innermost.result.now in
    let is : reverse c.as_slice.result.now ≡ c.args.self.now.elements =
    ap reverse c.as_slice.ensures.value ∙ ap (λ (p : Page). p.elements) c.self.view_is in
    innermost_named c.args.self.now.elements innermost (codes "svg") c.is_named.result c.is_named.ensures
    (subst (λ (names : List (List ℕ)). names ≡ innermost ∷ drop 1 names) is c.innermost.ensures)
