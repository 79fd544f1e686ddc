use Rattle.std.proofs.Common.{◌∙◌, sym, arith}
use Rattle.tree_formatting.proofs.PlaceLemmas.{none_after_more, stands_at}
use Rattle.tree_formatting.proofs.find.position.Goals as goal

pub returns-then-is_entry_of-clause-found : goal.returns-then-is_entry_of-clause-found
returns-then-is_entry_of-clause-found g c = stands_at g.S.TreeSink.view.number (g.S.TreeSink.view.number c.args.target)
    c.args.entries.now c.back.at c.index-entries-at.result (omega arith) c.back.invariant.0 c.index-entries-at.is
    (sym c.is_entry_of.ensures ∙ c.if-is_entry_of.true) c.back.invariant.1

pub back-preserved : goal.back-preserved
back-preserved g c = (
  omega arith,
  none_after_more g.S.TreeSink.view.number (g.S.TreeSink.view.number c.args.target)
      c.args.entries.now c.back.at c.index-entries-at.result (omega arith) c.back.invariant.0 c.index-entries-at.is
      (sym c.is_entry_of.ensures ∙ c.if-is_entry_of.false) c.back.invariant.1,
)
