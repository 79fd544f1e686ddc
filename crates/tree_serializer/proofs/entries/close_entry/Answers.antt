use Rattle.std.proofs.Common.{vec_len}
use Rattle.tree_serializer.proofs.EntryLemmas.{closed_none, closed_one}
use Rattle.tree_serializer.proofs.entries.close_entry.Goals as goal

pub returns-in-Some-clause-ok : goal.returns-in-Some-clause-ok
returns-in-Some-clause-ok c =
    closed_one c.args.makes_parents c.args.entries.now.items c.pop.new.self.items c.in-Some.entry
    c.in-Some.ensures.items

pub returns-in-None-clause-ok : goal.returns-in-None-clause-ok
returns-in-None-clause-ok c =
    closed_none c.args.makes_parents c.args.entries.now.items c.pop.new.self.items (vec_len c.args.entries.now)
    c.in-None.ensures.cases.0 c.in-None.ensures.rest c.in-None.ensures.items c.if-makes_parents.true
