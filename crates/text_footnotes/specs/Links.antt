-- What contracts see of the links.
use Rattle.std.specs.Prelude.{ℕ, List}
use Rattle.text_pieces.specs.Sources.{names}
use Rattle.text_footnotes.specs.declared.link_targets.LinkTargets.{LinkTargets}

-- the targets of the links so far, in order
abbrev pub all_targets : LinkTargets → List (List ℕ)
all_targets links = names links.targets.items
