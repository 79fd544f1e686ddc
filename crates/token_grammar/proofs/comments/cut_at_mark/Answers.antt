use Rattle.std.proofs.Common.{sym}
use Rattle.token_grammar.specs.Comments.{comment_mark}
use Rattle.token_grammar.proofs.MarkLemmas.{IsLeft-all, IsLeft-boundary, IsLeft-past, shorter}
use Rattle.token_grammar.proofs.comments.cut_at_mark.Goals as goal

pub cut-init : goal.cut-init
cut-init c = (c.utf8.text, IsLeft-all comment_mark c.args.text.now c.utf8.text)

pub split_at-requires : goal.split_at-requires
split_at-requires c = IsLeft-boundary comment_mark c.args.text.now c.cut.marked.now c.cut.invariant.1

pub cut-smaller : goal.cut-smaller
cut-smaller c = shorter _ _ _ c.cut.invariant.1.left_text c.in-Some.ensures.utf8 c.in-Some.ensures.value

pub cut-preserved : goal.cut-preserved
cut-preserved c =
    let left = c.in-Some.ensures in (
      left.utf8,
      IsLeft-past comment_mark _ _ _ _ c.cut.invariant.1 left.scalar left.utf8 left.value
          (sym c.in_default-after_mark.ensures.value),
    )
