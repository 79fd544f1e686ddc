use Rattle.std.proofs.Common.{ap, arith, option_map, sym, ◌∙◌}
use Rattle.tree_formatting.specs.Entries.{entries_of, last_named}
use Rattle.tree_formatting.proofs.EntryLemmas.{copied_number}
use Rattle.tree_formatting.proofs.CountLemmas.{named_none}
use Rattle.tree_formatting.proofs.list.FormattingList.last_named.Goals as goal

pub returns : goal.returns
returns g c = λ number. ap (option_map number) c.copied.ensures
    ∙ copied_number number c.last_of_name.result
    ∙ c.last_of_name.ensures number
    ∙ ap (λ v. last_named c.args.name.now (entries_of number v)) (c.as_slice.ensures.value ∙ c.self.view_is)

pub returns-then-most_named-eq0 : goal.returns-then-most_named-eq0
returns-then-most_named-eq0 g c = λ number. sym (ap (λ v. last_named c.args.name.now (entries_of number v))
    (sym c.self.view_is) ∙ named_none number c.args.name.now c.self.inside.entries.items
    (let most = c.most_named.ensures _ c.self.invariant in omega (arith, most)))
