use Rattle.std.proofs.Common.{◌∙◌}
use Rattle.tree_names.proofs.CountLemmas.{place_in_table}
use Rattle.tree_names.proofs.counts.place_of_known.Goals as goal

pub returns : goal.returns
returns c = c.from.ensures ∙ place_in_table c.args.places.now _ c.args.known c.requires
