use Rattle.std.proofs.Common.{◌++◌, ap, ◌∙◌, chars, string_bytes}
use Rattle.std.proofs.lemmas.Str.{chars-append, IsUtf8-string_bytes}
use Rattle.block_trait.proofs.TextLemmas.{element_characters}
use Rattle.block_trait.proofs.texts.push_element.Goals as goal

pub returns : goal.returns
returns g c =
    let old = string_bytes c.args.text.now in
    ap chars c.in_ok-push_str.ensures.bytes
    ∙ chars-append old c.as_str.result.now (IsUtf8-string_bytes c.args.text.now)
    ∙ ap (λ cs. chars old ++ cs) (ap chars c.as_str.ensures
    ∙ element_characters g.T.EqualCopy.seen c.args.element.now)
