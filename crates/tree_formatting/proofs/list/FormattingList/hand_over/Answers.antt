use Rattle.std.proofs.Common.{ap, sym, ◌∙◌}
use Rattle.tree_formatting.specs.Entries.{entries_of, handed_over}
use Rattle.tree_formatting.proofs.PlaceLemmas.{given_at, stands_in}
use Rattle.tree_formatting.proofs.EntryLemmas.{handed_over_none}
use Rattle.tree_formatting.proofs.CountLemmas.{counted_same, tags_set}
use Rattle.tree_formatting.proofs.list.FormattingList.hand_over.Goals as goal

pub returns-in-Element : goal.returns-in-Element
returns-in-Element g c = given_at g.S.TreeSink.view.number (g.S.TreeSink.view.number c.args.target) c.args.self.now
    c.self.inside.entries.items c.in-Some.at
    (stands_in g.S.TreeSink.view.number (g.S.TreeSink.view.number c.args.target) c.as_slice.result.now c.args.self.now
    c.in-Some.at (c.as_slice.ensures.value ∙ c.self.view_is) c.in-Some.ensures.found)
    c.self.view_is c.index_mut.result.now c.in-Element.handle c.in-Element.field-1 c.index_mut.ensures.value
    c.in-Element.is c.args.to

pub returns-in_default : goal.returns-in_default
returns-in_default g c =
    let n = g.S.TreeSink.view.number c.args.target in
    let m = g.S.TreeSink.view.number c.args.to in
    ap (entries_of g.S.TreeSink.view.number) (sym (c.as_slice.ensures.value ∙ c.self.view_is))
    ∙ sym (handed_over_none n m (entries_of g.S.TreeSink.view.number c.as_slice.result.now)
    (c.position.ensures.missing c.in_default.is))
    ∙ ap (λ v. handed_over n m (entries_of g.S.TreeSink.view.number v)) (c.as_slice.ensures.value ∙ c.self.view_is)

pub invariant_of-self : goal.invariant_of-self
invariant_of-self g c = counted_same c.self.inside.counts _ _
    (tags_set c.self.inside.entries.items c.in-Some.at c.index_mut.result.now c.in-Element.handle c.in-Element.field-1
    c.index_mut.ensures.value c.in-Element.is c.args.to) c.self.invariant
