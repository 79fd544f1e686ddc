use Rattle.std.proofs.Common.{[], ◌∷◌, ◌++◌, ap, sym, ◌∙◌}
use Rattle.std.specs.List.{remove}
use Rattle.tree_formatting.specs.Counted.{tags_of}
use Rattle.tree_formatting.specs.Entries.{entries_of}
use Rattle.tree_formatting.specs.Pushing.{pushed}
use Rattle.tree_formatting.specs.declared.entry.FormatEntry.TheVariants.{Element}
use Rattle.tree_formatting.proofs.CountLemmas.{alike_within, counted_same, fewer_counted, pushed_counted}
use Rattle.tree_formatting.proofs.PushLemmas.{pushed_for_three, pushed_with_room}
use Rattle.tree_formatting.proofs.list.FormattingList.push_element.Goals as goal

pub returns-in-Some-clause-ok : goal.returns-in-Some-clause-ok
returns-in-Some-clause-ok g c = λ number. ap (entries_of number) (c.take_off.ensures.items
    ∙ ap (λ v. remove v c.in-Some.at) (c.in_ok-push.ensures.items ∙ ap (λ v. v ++ Element c.args.handle c.args.tag ∷ [])
    (sym c.as_slice.ensures.value)))
    ∙ pushed_for_three number c.as_slice.result.now c.args.handle c.args.tag c.in-Some.at c.in-Some.ensures.many
    ∙ ap (λ v. pushed (number c.args.handle) c.args.tag (entries_of number v))
    (c.as_slice.ensures.value ∙ c.self.view_is)

pub returns-in_default-clause-ok : goal.returns-in_default-clause-ok
returns-in_default-clause-ok g c = λ number. ap (entries_of number)
    (c.in_ok-push.ensures.items ∙ ap (λ v. v ++ Element c.args.handle c.args.tag ∷ []) (sym c.as_slice.ensures.value))
    ∙ pushed_with_room number c.as_slice.result.now c.args.handle c.args.tag
    (c.earliest_of_three-earliest.ensures.few c.in_default.is)
    ∙ ap (λ v. pushed (number c.args.handle) c.args.tag (entries_of number v))
    (c.as_slice.ensures.value ∙ c.self.view_is)

pub invariant_of-self : goal.invariant_of-self
invariant_of-self g c = c.in_err-most.ensures.err (tags_of c.self.inside.entries.items) c.self.invariant

pub earliest_of_three-earliest-requires : goal.earliest_of_three-earliest-requires
earliest_of_three-earliest-requires g c = λ number. alike_within number c.args.tag c.as_slice.result.now
    c.in_ok-most.most (c.in_ok-most.ensures.most (tags_of c.as_slice.result.now)
    (counted_same c.self.inside.counts _ _ (ap tags_of c.as_slice.ensures.value) c.self.invariant))

pub invariant_of-self-in_err-push : goal.invariant_of-self-in_err-push
invariant_of-self-in_err-push g c = counted_same c.count_in.new.self _ _ (ap tags_of c.in_err-push.ensures.items)
    (fewer_counted c.count_in.new.self _ c.args.tag
    (c.in_ok-most.ensures.ok (tags_of c.self.inside.entries.items) c.self.invariant))

pub invariant_of-self-in-Some : goal.invariant_of-self-in-Some
invariant_of-self-in-Some g c = c.take_off.ensures.counted (pushed_counted c.count_in.new.self
    c.self.inside.entries.items c.push.new.self.items c.args.handle c.args.tag c.in_ok-push.ensures.items
    (c.in_ok-most.ensures.ok (tags_of c.self.inside.entries.items) c.self.invariant))

pub invariant_of-self-in_default : goal.invariant_of-self-in_default
invariant_of-self-in_default g c = pushed_counted c.count_in.new.self
    c.self.inside.entries.items c.push.new.self.items c.args.handle c.args.tag c.in_ok-push.ensures.items
    (c.in_ok-most.ensures.ok (tags_of c.self.inside.entries.items) c.self.invariant)
