use Rattle.std.proofs.Common.{◌≡◌, ◌++◌, length}
use Rattle.html_render_dom.specs.Numbers.{number_of}
use Rattle.dom_writing.specs.Dumps.{dump_of}
use Rattle.dom_writing.specs.ToCome.{all_of, lines_to_come}
use Rattle.dom_writing.proofs.dump.lines_from.Given as goal

-- what is written and what is to come are the whole
abbrev pub invariant-nodes : goal.invariant-nodes
invariant-nodes l =
    l.lines ++ lines_to_come l.dom.forest (all_of l.next l.coming.items) ≡ dump_of (number_of l.fn.target) l.dom.forest

abbrev pub decreases-nodes : goal.decreases-nodes
decreases-nodes l = length (lines_to_come l.dom.forest (all_of l.next l.coming.items))
