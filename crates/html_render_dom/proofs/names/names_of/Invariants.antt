use Rattle.std.proofs.Common.{take}
use Rattle.html_render_dom.specs.Names.{HasNames}
use Rattle.html_render_dom.proofs.names.names_of.Given as goal

abbrev pub invariant-loop-attribute : goal.invariant-loop-attribute
invariant-loop-attribute l = HasNames l.names (take l.attribute-index l.attributes)
