use Rattle.std.proofs.Common.{◌++◌, ap, ◌∙◌, chars}
use Rattle.std.proofs.lemmas.Str.{chars-nil}
use Rattle.test_tree_lines.specs.TreeLines.{lines_below}
use Rattle.test_tree_lines.proofs.tree_lines.lines_below.Goals as goal

pub returns : goal.returns
returns c =
    c.in_ok-push_below.ensures
    ∙ ap (λ l. l ++ lines_below c.args.dom.now.forest) (ap chars c.new-lines.ensures.bytes ∙ chars-nil)
