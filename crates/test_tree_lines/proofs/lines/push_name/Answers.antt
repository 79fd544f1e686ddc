use Rattle.std.proofs.Common.{◌≡◌, ◌++◌, ap, ◌∙◌, append_assoc, rules, string_bytes}
use Rattle.std.proofs.lemmas.Result.{IfOk-equal}
use Rattle.std.specs.Str.{chars}
use Rattle.test_tree_lines.specs.TreeLines.{field, namespace_word}
use Rattle.test_tree_lines.proofs.lines.push_name.Goals as goal

pub returns : goal.returns
unfolding chars
returns c =
    let word = chars (string_bytes c.push_word.new.lines) in
    let namespace : chars (string_bytes c.push_field.new.line) ≡ word ++ field (namespace_word c.args.name.now.ns) =
    c.in_ok-push_field.ensures ∙ ap (λ cs. word ++ field cs) c.namespace_word.ensures in
    search (rules, IfOk-equal, append_assoc, namespace)
