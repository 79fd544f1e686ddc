-- A renderer that keeps no annotations: all else is as in one that keeps them.
use Rattle.std.specs.Prelude.{false, List, []}
use Rattle.block_layout.specs.Retagged.{relaid}
use Rattle.block_trait.specs.Renderers.{Sub}

-- the tag of a text without annotations
abbrev pub no_tag : {A : Type 0} → List A → List A
no_tag tags = []

-- a renderer without its annotations, which keeps none of those that come
abbrev pub bare_of : {H A : Type 0} → Sub H A → Sub H A
bare_of s = record s { laid = relaid no_tag s.laid; annotations = []; keeps = false }
