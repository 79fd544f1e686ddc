use Rattle.render_conversion.specs.Seen.{seen_parts}
use Rattle.render_conversion.specs.Styles.{styles_of}
use Rattle.render_conversion.proofs.VisitLemmas.{after_ok}
use Rattle.render_conversion.proofs.walk.trailing.Goals as goal

pub returns : goal.returns
returns c = λ options.
    after_ok c.say.result options (styles_of c.args.rules.now) c.args.dom.now.forest c.args.node c.args.place
    c.args.turns.now c.args.nodes.now.items c.say.new.nodes.items (seen_parts c.style_of-style.result)
    c.requires.ordered c.requires.flat c.style_of-style.ensures c.say.ensures
