use Rattle.html_render_dom.specs.Numbers.{number_of}
use Rattle.render_conversion.proofs.NodeLemmas.{no_text}
use Rattle.render_conversion.proofs.titles.push_own_text.Goals as goal

pub returns-in-None : goal.returns-in-None
returns-in-None c =
    no_text (number_of c.args.node) c.args.dom.now.forest c.args.text.now c.in-None.ensures.stands
