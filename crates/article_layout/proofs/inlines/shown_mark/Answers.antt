use Rattle.std.proofs.Common.{rules}
use Rattle.std.proofs.lemmas.Str.{chars-nil}
use Rattle.article_layout.proofs.inlines.shown_mark.Goals as goal

pub returns-else-options : goal.returns-else-options
returns-else-options c = search (rules, chars-nil)
