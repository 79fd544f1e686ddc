use Rattle.std.proofs.Common.{◌≡◌, ◌++◌, ◌==◌, ◌∙◌, ap, append-nil, codes, false, rules, string_bytes, string_len, sym}
use Rattle.std.proofs.Common.{true}
use Rattle.std.proofs.lemmas.Str.{IsUtf8-string_bytes, chars-nil}
use Rattle.std.specs.Str.{chars}
use Rattle.test_token_lines.specs.TokenLines.{field, line, text_line}
use Rattle.test_token_lines.proofs.AddedLines.{no_text, said_line}
use Rattle.test_token_lines.proofs.token_lines.TokenLines.end_text.Goals as goal

pub returns-in_ok-push_line-clause-lines : goal.returns-in_ok-push_line-clause-lines
unfolding chars
returns-in_ok-push_line-clause-lines c =
    let text = c.args.self.now.text in
    let some : (string_len text == 0) ≡ false = search rules in
    let old = chars (string_bytes c.args.self.now.lines) in
    c.in_ok-push_line.ensures
    ∙ ap (λ bs. old ++ line (codes "text") (field (chars bs))) c.as_str.ensures.value
    ∙ ap (λ cs. old ++ cs)
    (sym (said_line (string_bytes text) (string_len text) (IsUtf8-string_bytes text) text.bytes.ok.0 some))

pub returns-in_ok-push_line-clause-text : goal.returns-in_ok-push_line-clause-text
returns-in_ok-push_line-clause-text c = ap chars c.clear.ensures.bytes ∙ chars-nil

pub returns-else-not-is_empty-clause-lines : goal.returns-else-not-is_empty-clause-lines
returns-else-not-is_empty-clause-lines c =
    let text = c.args.self.now.text in
    let old = chars (string_bytes c.args.self.now.lines) in
    let none : (string_len text == 0) ≡ true = search rules in
    sym (append-nil old)
    ∙ ap (λ cs. old ++ text_line cs) (sym (no_text (string_bytes text) (string_len text) text.bytes.ok.0 none))

pub returns-else-not-is_empty-clause-text : goal.returns-else-not-is_empty-clause-text
returns-else-not-is_empty-clause-text c =
    let text = c.args.self.now.text in
    let none : (string_len text == 0) ≡ true = search rules in
    no_text (string_bytes text) (string_len text) text.bytes.ok.0 none
