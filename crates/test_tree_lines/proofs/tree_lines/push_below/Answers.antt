use Rattle.std.proofs.Common.{◌++◌, ◌<◌, ap, length, subst, sym, ◌∙◌, chars, string_bytes}
use Rattle.test_tree_lines.specs.ToCome.{lines_to_come}
use Rattle.test_tree_lines.proofs.ComingLemmas.{popped}
use Rattle.test_tree_lines.proofs.tree_lines.push_below.Goals as goal

pub nodes-smaller : goal.nodes-smaller
nodes-smaller c =
    let f = c.args.dom.now.forest in
    subst (λ l. length (lines_to_come f c.push_first.new.coming.items) < length l)
    (sym (popped f c.nodes.coming.items c.pop.new.self.items c.in-Some.first c.in-Some.ensures.items))
    c.in_ok-push_first.ensures.1

pub nodes-preserved : goal.nodes-preserved
nodes-preserved c =
    let f = c.args.dom.now.forest in
    c.in_ok-push_first.ensures.0
    ∙ ap (λ l. chars (string_bytes c.nodes.lines) ++ l)
    (sym (popped f c.nodes.coming.items c.pop.new.self.items c.in-Some.first c.in-Some.ensures.items))
    ∙ c.nodes.invariant
