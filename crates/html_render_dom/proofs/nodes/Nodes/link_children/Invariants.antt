use Rattle.std.proofs.Common.{◌≡◌, length}
use Rattle.html_render_dom.proofs.Following.{IsLinking}
use Rattle.html_render_dom.specs.Nodes.{chain, kinds_of, links_of}
use Rattle.std.specs.Prelude.{option_map}
use Rattle.html_render_dom.specs.Numbers.{number_of}
use Rattle.html_render_dom.proofs.nodes.Nodes.link_children.Given as goal

abbrev pub invariant-loop-rest : goal.invariant-loop-rest
invariant-loop-rest l = (kinds_of l.self ≡ kinds_of l.fn.self)
    × IsLinking (number_of l.parent) (option_map number_of l.rest) (option_map number_of l.fn.first)
    (links_of l.fn.self) (links_of l.self)

abbrev pub decreases-loop-rest : goal.decreases-loop-rest
decreases-loop-rest l = length (chain (links_of l.fn.self).next (length (links_of l.fn.self).next)
    (option_map number_of l.rest))
