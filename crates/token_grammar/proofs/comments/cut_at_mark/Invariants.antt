use Rattle.std.proofs.Common.{length}
use denote.Text.{Utf8}
use denote.Shadow.{shadow}
use Rattle.token_grammar.specs.Comments.{comment_mark}
use Rattle.token_grammar.proofs.MarkLemmas.{IsLeft}
use Rattle.token_grammar.proofs.comments.cut_at_mark.Given as goal

abbrev pub invariant-cut : goal.invariant-cut
invariant-cut l = shadow (Utf8 l.marked) × IsLeft comment_mark l.text l.marked

abbrev pub decreases-cut : goal.decreases-cut
decreases-cut l = length l.marked
