use Rattle.std.proofs.Common.{◌≡◌, ℕ, sym, ap, ◌∙◌, ◌-◌, length, take, arith}
use Rattle.tree_formatting.specs.Entries.{entries_of, entry_of}
use Rattle.tree_model.specs.Building.{stack_of}
use Rattle.tree_model.specs.Formatting.{made_already}
use Rattle.tree_model.proofs.MadeAnewLemmas.{entries_more, kept_before, kept_length}
use Rattle.html_tree_state.proofs.reconstruction.kept_entries.Goals as goal

pub returns-then-stays : goal.returns-then-stays
returns-then-stays g c =
    let number = g.S.TreeSink.view.number in
    kept_length number (stack_of number c.args.elements.now) c.args.entries.now c.back.at c.index-entries-at.result
    (omega arith) c.back.invariant.0 c.index-entries-at.is (sym c.stays.ensures ∙ c.if-stays.true)
    ∙ ap length c.back.invariant.1

pub back-preserved : goal.back-preserved
back-preserved g c =
    let number = g.S.TreeSink.view.number in
    let stack = stack_of number c.args.elements.now in (
      omega arith,
      sym (ap (made_already stack) (entries_more number c.args.entries.now c.back.at c.index-entries-at.result
          (omega arith) c.back.invariant.0 c.index-entries-at.is)
          ∙ kept_before stack (entry_of number c.index-entries-at.result)
          (entries_of number (take (c.back.at - 1) c.args.entries.now)) (sym c.stays.ensures ∙ c.if-stays.false))
          ∙ c.back.invariant.1,
    )

pub returns : goal.returns
returns g c =
    let number = g.S.TreeSink.view.number in
    let e : c.back.at ≡ 0 = omega arith in
    ap (λ (v : ℕ). length (made_already (stack_of number c.args.elements.now)
    (entries_of number (take v c.args.entries.now)))) (sym e) ∙ ap length c.back.invariant.1
