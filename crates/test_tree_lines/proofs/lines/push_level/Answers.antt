use Rattle.std.proofs.Common.{[], ◌∷◌, ◌++◌, ap, ◌∙◌, replicate, string_bytes}
use Rattle.std.specs.Str.{chars}
use Rattle.test_tree_lines.proofs.AddedLines.{both, one_more}
use Rattle.test_tree_lines.proofs.lines.push_level.Goals as goal

pub spaces-preserved : goal.spaces-preserved
unfolding chars
spaces-preserved c =
    let old = chars (string_bytes c.args.lines.now) in
    both old (chars (string_bytes c.spaces.lines)) (chars (string_bytes c.push_word.new.lines))
    (replicate c.spaces.counter 32) (32 ∷ []) c.spaces.invariant c.in_ok-push_word.ensures
    ∙ ap (λ cs. old ++ cs) (one_more c.spaces.counter 32)
