use Rattle.std.proofs.Common.{ap, sym, ◌∙◌}
use Rattle.std.specs.List.{insert}
use Rattle.tree_formatting.specs.Entries.{entries_of, is_listed}
use Rattle.tree_formatting.specs.declared.entry.FormatEntry.TheVariants.{Element}
use Rattle.tree_formatting.proofs.PlaceLemmas.{moved, put, put_first, stands_in, stays, within}
use Rattle.tree_formatting.proofs.CountLemmas.{moved_counted}
use Rattle.tree_formatting.proofs.list.FormattingList.move_after.Goals as goal
use Rattle.tree_formatting.proofs.list.FormattingList.move_after.Goals.{in-Some-position, in-None}

pub returns-in_default-clause-ok : goal.returns-in_default-clause-ok
returns-in_default-clause-ok g c = stays g.S.TreeSink.view.number (g.S.TreeSink.view.number c.args.target)
    (entries_of g.S.TreeSink.view.number c.args.self.now) (g.S.TreeSink.view.number c.args.to)
    (g.S.TreeSink.view.number c.args.after)
    (ap (λ v. is_listed (g.S.TreeSink.view.number c.args.target) (entries_of g.S.TreeSink.view.number v))
    (sym (c.as_slice.ensures.value ∙ c.self.view_is)) ∙ c.position.ensures.missing c.in_default.is)

pub returns-clause-ok : goal.returns-clause-ok
returns-clause-ok g c = moved g.S.TreeSink.view.number (g.S.TreeSink.view.number c.args.target) c.args.self.now
    c.self.inside.entries.items c.in-Some.at
    (stands_in g.S.TreeSink.view.number (g.S.TreeSink.view.number c.args.target) c.as_slice.result.now c.args.self.now
    c.in-Some.at (c.as_slice.ensures.value ∙ c.self.view_is) c.in-Some.ensures.found)
    c.self.view_is c.remove.result c.in-Element.field-0 c.in-Element.tag c.remove.ensures.value c.in-Element.is
    c.remove.new.self.items c.remove.ensures.items (g.S.TreeSink.view.number c.args.to) (g.S.TreeSink.view.number
    c.args.after)
    (entries_of g.S.TreeSink.view.number c.insert.new.self.items)
    (ap (entries_of g.S.TreeSink.view.number) c.in_ok-insert.ensures.items ∙ elim c.match-position-2.branch [
      | in-Some-position w ↦
          ap (λ v. entries_of g.S.TreeSink.view.number (insert c.remove.new.self.items v
          (Element c.args.to c.in-Element.tag))) w.place-is
          ∙ put g.S.TreeSink.view.number (g.S.TreeSink.view.number c.args.after) c.remove.new.self.items
          w.in-Some-position.before
          (stands_in g.S.TreeSink.view.number (g.S.TreeSink.view.number c.args.after) c.as_slice-2.result.now
          c.remove.new.self.items w.in-Some-position.before c.as_slice-2.ensures.value w.in-Some-position.ensures.found)
          c.args.to c.in-Element.tag
      | in-None w ↦
          ap (λ v. entries_of g.S.TreeSink.view.number (insert c.remove.new.self.items v
          (Element c.args.to c.in-Element.tag))) w.place-is
          ∙ put_first g.S.TreeSink.view.number (g.S.TreeSink.view.number c.args.after) c.remove.new.self.items c.args.to
          c.in-Element.tag (ap (λ v. is_listed (g.S.TreeSink.view.number c.args.after)
          (entries_of g.S.TreeSink.view.number v))
          (sym c.as_slice-2.ensures.value) ∙ c.position-2.ensures.missing w.in-None.is)
    ])

pub invariant_of-self-2 : goal.invariant_of-self-2
invariant_of-self-2 g c =
    let n = g.S.TreeSink.view.number c.args.target in
    moved_counted c.self.inside.entries.items c.in-Some.at c.remove.result
    (within g.S.TreeSink.view.number n c.self.inside.entries.items c.in-Some.at (stands_in g.S.TreeSink.view.number n
    c.as_slice.result.now c.self.inside.entries.items c.in-Some.at c.as_slice.ensures.value c.in-Some.ensures.found))
    c.remove.ensures.value c.in-Element.field-0 c.args.to c.in-Element.tag c.in-Element.is c.self.inside.counts
    c.remove.new.self.items c.remove.ensures.items _ c.insert.new.self.items c.in_ok-insert.ensures.items
    c.self.invariant
