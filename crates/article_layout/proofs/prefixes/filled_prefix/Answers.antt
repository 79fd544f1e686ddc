use Rattle.std.proofs.Common.{◌++◌, ◌-◌, ap, ◌∙◌, chars, length, string_bytes}
use Rattle.std.proofs.lemmas.Str.{IsUtf8-string_bytes, chars-append}
use Rattle.layout_state.specs.Items.{spaces}
use Rattle.article_layout.proofs.prefixes.filled_prefix.Goals as goal

pub returns : goal.returns
returns c =
    let old = string_bytes c.in_ok-prefix.prefix in
    ap chars c.in_ok-push_str.ensures.bytes
    ∙ chars-append old c.as_str-2.result.now (IsUtf8-string_bytes c.in_ok-prefix.prefix)
    ∙ ap (λ cs. chars old ++ cs) (ap chars c.as_str-2.ensures.value ∙ c.in_ok-rest.ensures
    ∙ ap spaces (c.saturating_sub-missing.ensures
    ∙ ap (λ n. c.args.columns - n) (c.characters.ensures ∙ ap (λ bs. length (chars bs)) c.as_str.ensures.value)))
    ∙ ap (λ cs. cs ++ spaces (c.args.columns - length cs)) c.in_ok-prefix.ensures
