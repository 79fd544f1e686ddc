use Rattle.std.proofs.Common.{◌≡◌}
use Rattle.render_values.specs.Arena.{IsFlat}
use Rattle.render_conversion.specs.Styles.{styles_of}
use Rattle.render_conversion.specs.Turns.{AreOpen, later, weight}
use Rattle.render_conversion.proofs.walk.read_all.Given as goal

-- with what is left the nodes come to what they came to at first
abbrev pub invariant-turns : goal.invariant-turns
invariant-turns l = record {
  same : later l.options (styles_of l.rules) l.dom.forest l.turns l.nodes.items
      ≡ later l.options (styles_of l.rules) l.dom.forest l.fn.turns l.fn.nodes.items;
  opened : AreOpen l.nodes.items l.turns;
  flat : IsFlat l.nodes.items;
}

abbrev pub decreases-turns : goal.decreases-turns
decreases-turns l = weight l.dom.forest l.turns
