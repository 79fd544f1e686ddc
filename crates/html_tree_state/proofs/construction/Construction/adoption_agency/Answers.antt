use Rattle.std.proofs.Common.{◌≡◌, ap, sym, ◌∙◌, arith, if◌then◌else◌}
use Rattle.tree_model.specs.Adoption.{turns}
use Rattle.tree_model.specs.Building.{seen}
use Rattle.tree_model.specs.Scopes.{popped}
use Rattle.html_tree_state.proofs.construction.Construction.adoption_agency.Goals as goal

pub returns-clause-seen : goal.returns-clause-seen
returns-clause-seen g c =
    let tree = g.S.TreeSink in
    let first = seen tree.view c.args.self.now.held c.args.self.now.sink in
    let now = seen tree.view c.turns.self.held c.turns.self.sink in
    let none : c.turns.left ≡ 0 = omega (arith, c.turns-test.false) in
    sym (ap (λ k. turns k c.args.name.now now) none) ∙ c.turns.invariant.same
    ∙ sym (ap (λ b. if b then popped first else turns 8 c.args.name.now first)
    (sym c.is_current_unlisted.ensures ∙ c.if-is_current_unlisted.false))
