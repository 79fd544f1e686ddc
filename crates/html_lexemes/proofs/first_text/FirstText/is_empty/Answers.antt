use Rattle.std.proofs.Common.{sym, ◌∙◌}
use Rattle.std.proofs.lemmas.Str.{IsUtf8-string_bytes}
use Rattle.html_lexemes.proofs.QueueLemmas.{ends_at, string_length}
use Rattle.html_lexemes.proofs.first_text.FirstText.is_empty.Goals as goal

pub returns : goal.returns
returns c =
    let s = c.self.inside.text in
    let ends =
    ends_at _ c.self.inside.start c.len.result (IsUtf8-string_bytes s) c.self.invariant
    (c.len.ensures ∙ string_length s) in
    (λ e. sym c.self.view_is ∙ ends.0 e, λ none. ends.1 (c.self.view_is ∙ none))
