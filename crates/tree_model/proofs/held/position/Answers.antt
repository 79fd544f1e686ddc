use Rattle.std.proofs.Common.{◌≡◌, ℕ, ◌-◌, ◌==◌, drop, false, suc, subst, arith}
use Rattle.std.proofs.lemmas.Bool.Decides.{nat_tests}
use Rattle.tree_forest.specs.Forest.{is_in}
use Rattle.tree_model.specs.Building.{stack_of}
use Rattle.tree_model.proofs.OpenLemmas.{none_after_more, open_at}
use Rattle.tree_model.proofs.held.position.Goals as goal

pub returns-then-same_node-clause-found : goal.returns-then-same_node-clause-found
returns-then-same_node-clause-found g c =
    let number = g.S.TreeSink.view.number in
    let e : c.back.at ≡ suc (c.back.at - 1) = omega arith in
    let P : ℕ → Type 0 = λ v. is_in (number c.args.target) (stack_of number (drop v c.args.elements.now)) ≡ false in
    open_at number (number c.args.target) c.args.elements.now (c.back.at - 1) c.index-elements-at.result (omega arith)
    c.index-elements-at.is (grind (arith, nat_tests, c.same_node.ensures, c.if-same_node.true))
    (subst P e c.back.invariant.1)

pub back-preserved : goal.back-preserved
back-preserved g c =
    let number = g.S.TreeSink.view.number in
    let e : c.back.at ≡ suc (c.back.at - 1) = omega arith in
    let P : ℕ → Type 0 = λ v. is_in (number c.args.target) (stack_of number (drop v c.args.elements.now)) ≡ false in
    let other : (number c.args.target == number c.index-elements-at.result) ≡ false =
    grind (arith, nat_tests, c.same_node.ensures, c.if-same_node.false) in (
      omega arith,
      none_after_more number (number c.args.target) c.args.elements.now (c.back.at - 1)
          c.index-elements-at.result (omega arith) c.index-elements-at.is other (subst P e c.back.invariant.1),
    )
