use Rattle.std.proofs.Common.{List, ap, inr, option_map, subst, sym, ◌∙◌}
use Rattle.tree_forest.specs.Orders.{IsIn}
use Rattle.tree_names.specs.ElementSets.{special_elements}
use Rattle.tree_names.specs.Sets.{is_element_of}
use Rattle.tree_model.specs.Building.{stack_of}
use Rattle.html_tree_state.proofs.BlockWords.{block_plain, block_special}
use Rattle.tree_model.proofs.Stacks.{stack_of_last}
use Rattle.html_tree_state.proofs.construction.Construction.furthest_block.Goals as goal

pub loop-node-preserved-then-is_special : goal.loop-node-preserved-then-is_special
loop-node-preserved-then-is_special g c =
    let number = g.S.TreeSink.view.number in
    let whole = ap (λ (o : List g.row.S-Handle.Denot). stack_of number o) c.in-Some.ensures.cases.0
    ∙ stack_of_last number c.in-Some.lower.now c.in-Some.node.now in
    record {
      elements = record { are = λ k i. c.loop-node.invariant.elements.are k (subst (IsIn k) (sym whole) (inr i)) };
      same = c.loop-node.invariant.same ∙ block_special (number c.args.element) (number c.in-Some.node.now)
          (g.S.TreeSink.view.forest c.args.self.now.sink) (stack_of number c.in-Some.lower.now)
          (stack_of number c.loop-node.open.now) (option_map number c.loop-node.block) whole
          (sym c.same_node.ensures ∙ c.if-same_node.false)
          (ap (is_element_of special_elements) (sym c.elem_name.ensures) ∙ sym c.is_special.ensures
          ∙ c.if-is_special.true);
    }

pub loop-node-preserved : goal.loop-node-preserved
loop-node-preserved g c =
    let number = g.S.TreeSink.view.number in
    let whole = ap (λ (o : List g.row.S-Handle.Denot). stack_of number o) c.in-Some.ensures.cases.0
    ∙ stack_of_last number c.in-Some.lower.now c.in-Some.node.now in
    record {
      elements = record { are = λ k i. c.loop-node.invariant.elements.are k (subst (IsIn k) (sym whole) (inr i)) };
      same = c.loop-node.invariant.same ∙ block_plain (number c.args.element) (number c.in-Some.node.now)
          (g.S.TreeSink.view.forest c.args.self.now.sink) (stack_of number c.in-Some.lower.now)
          (stack_of number c.loop-node.open.now) (option_map number c.loop-node.block) whole
          (sym c.same_node.ensures ∙ c.if-same_node.false)
          (ap (is_element_of special_elements) (sym c.elem_name.ensures) ∙ sym c.is_special.ensures
          ∙ c.if-is_special.false);
    }
