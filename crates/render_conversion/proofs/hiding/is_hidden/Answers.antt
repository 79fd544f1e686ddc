use Rattle.std.proofs.Common.{ap}
use Rattle.html_render_dom.specs.Numbers.{number_of}
use Rattle.render_conversion.specs.Hiding.{is_hidden}
use Rattle.render_conversion.proofs.NodeLemmas.{as_document}
use Rattle.render_conversion.proofs.hiding.is_hidden.Goals as goal

pub returns-in-None : goal.returns-in-None
returns-in-None c =
    ap is_hidden (as_document (number_of c.args.node) c.args.dom.now.forest c.in-None.ensures.stands)
