use Rattle.tree_formatting.proofs.PlaceLemmas.{given_in, marker_stays}
use Rattle.tree_formatting.proofs.CountLemmas.{counted_same, tags_set}
use Rattle.tree_formatting.proofs.list.FormattingList.give.Goals as goal

pub returns-in_default : goal.returns-in_default
returns-in_default g c = marker_stays c.args.self.now c.self.inside.entries.items c.args.index c.self.view_is
    c.index_mut.result.now c.index_mut.ensures.value c.in_default.is c.args.to

pub returns : goal.returns
returns g c = given_in c.args.self.now c.self.inside.entries.items c.args.index c.self.view_is c.index_mut.result.now
    c.in-Element.handle c.in-Element.field-1 c.index_mut.ensures.value c.in-Element.is c.args.to

pub invariant_of-self-2 : goal.invariant_of-self-2
invariant_of-self-2 g c = counted_same c.self.inside.counts _ _
    (tags_set c.self.inside.entries.items c.args.index c.index_mut.result.now c.in-Element.handle c.in-Element.field-1
    c.index_mut.ensures.value c.in-Element.is c.args.to) c.self.invariant
