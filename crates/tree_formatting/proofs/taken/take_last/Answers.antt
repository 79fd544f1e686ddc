use Rattle.std.proofs.Common.{[], ◌∷◌, ◌++◌, ap, sym, ◌∙◌}
use Rattle.tree_formatting.specs.Counted.{tags_of}
use Rattle.tree_formatting.proofs.CountLemmas.{tags_of-marker}
use Rattle.tree_formatting.proofs.taken.take_last.Goals as goal

pub returns-in-Some-Marker-clause-tags : goal.returns-in-Some-Marker-clause-tags
returns-in-Some-Marker-clause-tags g c = λ none. sym (ap tags_of (c.in-Some-Marker.ensures.items
    ∙ ap (λ e. c.pop.new.self.items ++ e ∷ []) c.in-Some-Marker.field-0-is) ∙ tags_of-marker c.pop.new.self.items)
