use Rattle.std.proofs.Common.{OnOk, ◌∷◌, subst, sym}
use Rattle.render_conversion.specs.Styles.{styles_of}
use Rattle.render_conversion.specs.Turns.{AreOpen, IsDone}
use Rattle.render_conversion.proofs.VisitLemmas.{close_by, closing_by}
use Rattle.render_conversion.proofs.walk.take.Goals as goal

pub returns-in-Close : goal.returns-in-Close
returns-in-Close c =
    close_by c.close.result c.args.options (styles_of c.args.rules.now) c.args.dom.now.forest c.args.turn
    c.in-Close.opened c.args.turns.now c.args.nodes.now.items c.close.new.nodes.items c.in-Close.is c.requires.ordered
    c.close.ensures

pub returns-in-After : goal.returns-in-After
returns-in-After c = subst (λ turn. OnOk c.trailing.result (IsDone c.args.options (styles_of c.args.rules.now)
    c.args.dom.now.forest (turn ∷ c.args.turns.now) c.args.nodes.now.items c.trailing.new.turns
    c.trailing.new.nodes.items)) (sym c.in-After.is) (c.trailing.ensures c.args.options)

pub returns-in-Closing : goal.returns-in-Closing
returns-in-Closing c =
    closing_by c.push_closing.result c.args.options (styles_of c.args.rules.now) c.args.dom.now.forest c.args.turn
    c.in-Closing.inner c.args.turns.now c.args.nodes.now.items c.push_closing.new.nodes.items c.in-Closing.is
    (subst (λ turn. AreOpen c.args.nodes.now.items (turn ∷ c.args.turns.now)) c.in-Closing.is c.requires.ordered)
    c.requires.flat c.push_closing.ensures

pub returns-in-Table : goal.returns-in-Table
returns-in-Table c = subst (λ turn. OnOk c.start_table.result (IsDone c.args.options (styles_of c.args.rules.now)
    c.args.dom.now.forest (turn ∷ c.args.turns.now) c.args.nodes.now.items c.start_table.new.turns
    c.start_table.new.nodes.items)) (sym c.in-Table.is)
    (c.start_table.ensures c.args.options (styles_of c.args.rules.now))
