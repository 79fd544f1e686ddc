use denote.Shadow.{shadow}
use denote.Text.{Utf8}
use Rattle.std.proofs.Common.{chars, length}
use Rattle.tree_serializer.specs.Escapes.{escaped}
use Rattle.tree_serializer.proofs.GrowthLemmas.{IsGrowing}
use Rattle.tree_serializer.proofs.escape.write_escaped.Given as goal

-- what was written and what the rest is escaped to are the whole
abbrev pub invariant-runs : goal.invariant-runs
invariant-runs g l = record {
  text : shadow (Utf8 l.rest);
  growing : IsGrowing (g.W.ByteWriter.contents l.fn.writer) (g.W.ByteWriter.contents l.writer)
      (escaped l.in_value (chars l.text)) (escaped l.in_value (chars l.rest))
      (g.W.ByteWriter.has_failed l.fn.writer) (g.W.ByteWriter.has_failed l.writer);
}

abbrev pub decreases-runs : goal.decreases-runs
decreases-runs g l = length l.rest
