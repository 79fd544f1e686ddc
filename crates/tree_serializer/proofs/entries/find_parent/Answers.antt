use Rattle.std.proofs.Common.{ap, length, sym, ◌==◌, ◌∙◌}
use Rattle.tree_serializer.proofs.EntryLemmas.{within_open}
use Rattle.tree_serializer.proofs.entries.find_parent.Goals as goal

pub returns-then-not-is_empty-clause-ok : goal.returns-then-not-is_empty-clause-ok
returns-then-not-is_empty-clause-ok c =
    within_open c.args.makes_parents c.args.entries.now.items
    (ap (λ l. length l == 0) (sym c.as_slice.ensures.value) ∙ sym c.is_empty.ensures ∙ c.if-not-is_empty.true)
