use Rattle.std.proofs.Common.{drop}
use Rattle.tree_serializer.specs.Escapes.{attributes_text}
use Rattle.tree_serializer.proofs.GrowthLemmas.{IsGrowing}
use Rattle.tree_serializer.proofs.tags.write_attributes.Given as goal

abbrev pub invariant-attributes : goal.invariant-attributes
invariant-attributes g l =
    IsGrowing (g.W.ByteWriter.contents l.fn.writer) (g.W.ByteWriter.contents l.writer)
    (attributes_text l.attributes) (attributes_text (drop l.attribute-index l.attributes))
    (g.W.ByteWriter.has_failed l.fn.writer) (g.W.ByteWriter.has_failed l.writer)
