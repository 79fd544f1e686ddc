use Rattle.std.proofs.Common.{ℕ, ◌<◌, false, inr, List, length, map, sym, ap, subst, ◌∙◌, option_map, arith}
use Rattle.std.proofs.lemmas.Bool.Decides.{nat_tests}
use Rattle.tree_forest.specs.Forest.{name_of}
use Rattle.tree_forest.specs.Orders.{IsIn}
use Rattle.html_lexemes.specs.declared.names.QualName.{QualName}
use Rattle.tree_model.specs.Building.{stack_of}
use Rattle.tree_model.proofs.Stacks.{stack_of_last}
use Rattle.tree_predicates.specs.Modes.{own_mode, reset_mode}
use Rattle.html_tree_state.proofs.ResetLemmas.{reset_further, reset_own}
use Rattle.html_tree_state.proofs.construction.Construction.reset_insertion_mode.Goals as goal

pub loop-element-init : goal.loop-element-init
loop-element-init g c =
    let number = g.S.TreeSink.view.number in
    record {
      elements = record {
        are = λ n i. c.requires.elements n
            (subst (λ (o : List g.row.S-Handle.Denot). IsIn n (stack_of number o)) c.open_elements-open.ensures i);
      };
      same = ap (λ (o : List g.row.S-Handle.Denot). reset_mode (option_map (λ name. name.now) c.args.context)
          c.args.has_head c.args.template_mode
          (map (λ n. name_of n (g.S.TreeSink.view.forest c.args.self.now.sink)) (stack_of number o)))
          (sym c.open_elements-open.ensures);
    }

pub returns-in-Some-own_mode : goal.returns-in-Some-own_mode
returns-in-Some-own_mode g c =
    let number = g.S.TreeSink.view.number in
    let name_at = λ (n : ℕ). name_of n (g.S.TreeSink.view.forest c.args.self.now.sink) in
    let held : 0 < length c.in-Some.lower.now = grind (arith, nat_tests, c.is_empty.ensures, c.if-is_empty.false) in
    let own = ap (λ (n : QualName). own_mode n false c.args.has_head c.args.template_mode)
    (sym c.elem_name-name.ensures) ∙ sym c.own_mode.ensures ∙ c.in-Some-own_mode.is in
    sym (c.loop-element.invariant.same
    ∙ ap (λ (o : List g.row.S-Handle.Denot). reset_mode (option_map (λ name. name.now) c.args.context)
    c.args.has_head c.args.template_mode (map name_at (stack_of number o))) c.in-Some.ensures.cases.0
    ∙ reset_own name_at number (option_map (λ name. name.now) c.args.context) c.args.has_head c.args.template_mode
    c.in-Some.lower.now c.in-Some.element.now c.in-Some-own_mode.mode held own)

pub loop-element-preserved : goal.loop-element-preserved
loop-element-preserved g c =
    let number = g.S.TreeSink.view.number in
    let name_at = λ (n : ℕ). name_of n (g.S.TreeSink.view.forest c.args.self.now.sink) in
    let held : 0 < length c.in-Some.lower.now = grind (arith, nat_tests, c.is_empty.ensures, c.if-is_empty.false) in
    let own = ap (λ (n : QualName). own_mode n false c.args.has_head c.args.template_mode)
    (sym c.elem_name-name.ensures) ∙ sym c.own_mode.ensures ∙ c.in_default-own_mode.is in
    record {
      elements = record {
        are = λ n i. c.loop-element.invariant.elements.are n
            (subst (λ (o : List g.row.S-Handle.Denot). IsIn n (stack_of number o)) (sym c.in-Some.ensures.cases.0)
            (subst (IsIn n) (sym (stack_of_last number c.in-Some.lower.now c.in-Some.element.now)) (inr i)));
      };
      same = c.loop-element.invariant.same
          ∙ ap (λ (o : List g.row.S-Handle.Denot). reset_mode (option_map (λ name. name.now) c.args.context)
          c.args.has_head c.args.template_mode (map name_at (stack_of number o))) c.in-Some.ensures.cases.0
          ∙ reset_further name_at number (option_map (λ name. name.now) c.args.context) c.args.has_head
          c.args.template_mode c.in-Some.lower.now c.in-Some.element.now held own;
    }
