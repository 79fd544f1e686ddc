use Rattle.html_render_dom.specs.Numbers.{number_of}
use Rattle.dom_writing.proofs.NodeLemmas.{holder_past}
use Rattle.dom_writing.proofs.inner.holder.Goals as goal

pub returns-in-None : goal.returns-in-None
returns-in-None c = holder_past (number_of c.args.node) c.args.dom.now.forest c.in-None.ensures.stands
