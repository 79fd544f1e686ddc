use Rattle.html_render_dom.specs.Numbers.{number_of}
use Rattle.dom_writing.proofs.NodeLemmas.{no_element_past}
use Rattle.dom_writing.proofs.emitting.element_name.Goals as goal

pub unreachable-requires-in-None : goal.unreachable-requires-in-None
unreachable-requires-in-None c =
    no_element_past (number_of c.args.node) c.args.dom.now.forest c.in-None.ensures.stands c.requires
