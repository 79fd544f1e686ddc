use Rattle.std.proofs.Common.{ap, ◌∙◌, Some}
use Rattle.tree_serializer.specs.Entries.{entries_of, is_silent_in}
use Rattle.tree_serializer.proofs.EntryLemmas.{opened, pushed}
use Rattle.tree_serializer.proofs.entries.open_entry.Goals as goal

pub returns-clause-ok : goal.returns-clause-ok
returns-clause-ok c =
    opened c.args.makes_parents c.is_silent-in_silence.result c.args.name.now c.args.entries.now.items
    c.find_parent.new.entries.items c.push.new.self.items
    (record { name = Some c.in_ok-copy.copy; is_silent = c.is_silent_within.result })
    c.in_ok-find_parent.ensures.ok
    (c.is_silent-in_silence.ensures ∙ ap (λ l. is_silent_in (entries_of l)) c.as_slice.ensures.value)
    (ap Some c.in_ok-copy.ensures) c.is_silent_within.ensures
    (pushed _ _ _ _ c.if-is_err.ensures.negation c.push.ensures.items)
