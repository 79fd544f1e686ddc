use Rattle.std.proofs.Common.{◌++◌, ap, ◌∙◌, chars, string_bytes}
use Rattle.std.proofs.lemmas.Str.{chars-nil}
use Rattle.test_token_lines.specs.TokenLines.{lines_from}
use Rattle.test_token_lines.proofs.token_lines.TokenLines.new.Goals as goal

pub returns : goal.returns
returns c rest =
    ap (λ l. l ++ lines_from (chars (string_bytes c.new-2.result)) rest) (ap chars c.new.ensures.bytes ∙ chars-nil)
    ∙ ap (λ l. lines_from l rest) (ap chars c.new-2.ensures.bytes ∙ chars-nil)
