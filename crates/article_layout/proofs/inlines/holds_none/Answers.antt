use Rattle.std.proofs.Common.{◌∙◌}
use Rattle.article_layout.proofs.InlineLemmas.{empty_holds_none}
use Rattle.article_layout.proofs.inlines.holds_none.Goals as goal

pub returns : goal.returns
returns c = c.is_empty.ensures ∙ empty_holds_none c.args.contents.now
