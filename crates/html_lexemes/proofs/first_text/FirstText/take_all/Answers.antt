use Rattle.std.proofs.Common.{ap, ◌∙◌, chars, string_bytes}
use Rattle.std.proofs.lemmas.Str.{chars-nil}
use Rattle.html_lexemes.proofs.first_text.FirstText.take_all.Goals as goal

pub returns-clause-none : goal.returns-clause-none
returns-clause-none c =
    ap (λ t. chars (string_bytes t)) c.replace.ensures.after ∙ ap chars c.new.ensures.bytes ∙ chars-nil
