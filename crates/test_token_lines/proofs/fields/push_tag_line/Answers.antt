use Rattle.std.proofs.Common.{List, ℕ, ◌++◌, ap, ◌∙◌, codes, string_bytes}
use Rattle.std.specs.Str.{chars}
use Rattle.test_token_lines.proofs.AddedLines.{both, is_line}
use Rattle.test_token_lines.specs.TokenLines.{field, flag, kind_word}
use Rattle.test_token_lines.proofs.fields.push_tag_line.Goals as goal

pub returns : goal.returns
unfolding chars
returns c =
    let tag = c.args.tag.now in
    let old = chars (string_bytes c.args.lines.now) in
    let word = chars (string_bytes c.push_word.new.lines) in
    let name = chars (string_bytes c.push_field.new.line) in
    let closing = chars (string_bytes c.push_flag.new.lines) in
    let all = chars (string_bytes c.push_flag-2.new.lines) in
    let is_closing : List ℕ = flag tag.self_closing (codes "self-closing") in
    let had_duplicates : List ℕ = flag tag.had_duplicate_attributes (codes "duplicates") in
    is_line c.end_line.result old word all (chars (string_bytes c.end_line.new.lines)) (kind_word tag.kind)
    (field tag.name ++ (is_closing ++ had_duplicates))
    (c.in_ok-push_word.ensures ∙ ap (λ cs. old ++ cs) c.kind_word.ensures)
    (both word name all (field tag.name) (is_closing ++ had_duplicates)
    (c.in_ok-push_field.ensures ∙ ap (λ cs. word ++ field cs) c.as_str.ensures)
    (both name closing all is_closing had_duplicates c.in_ok-push_flag.ensures c.in_ok-push_flag-2.ensures))
    c.end_line.ensures
