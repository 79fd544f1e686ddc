use Rattle.std.proofs.Common.{◌≡◌, ◌++◌, ap, ◌∙◌, codes}
use Rattle.std.proofs.lemmas.Str.{chars-nil}
use Rattle.std.specs.Str.{chars}
use Rattle.test_tree_lines.specs.TreeLines.{field, line, lines_below, mode_word}
use Rattle.test_tree_lines.proofs.tree_lines.lines_of.Goals as goal

pub returns : goal.returns
unfolding chars
returns c =
    let word = chars c.word_of.result.now in
    let mode : word ≡ mode_word c.args.dom.now.quirks = c.word_of.ensures ∙ ap mode_word c.quirks_mode.ensures in
    c.in_ok-push_below.ensures
    ∙ ap (λ l. l ++ lines_below c.args.dom.now.forest)
    (c.in_ok-push_line.ensures
    ∙ ap (λ l. l ++ line (codes "quirks") (field word)) (ap chars c.new-lines.ensures.bytes ∙ chars-nil)
    ∙ ap (λ cs. line (codes "quirks") (field cs)) mode)
