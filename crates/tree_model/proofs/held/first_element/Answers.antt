use Rattle.std.proofs.Common.{Option, option_map, sym, subst, ◌∙◌}
use Rattle.tree_model.specs.Building.{stack_of}
use Rattle.tree_model.specs.OpenAt.{IsFirstOpened}
use Rattle.tree_model.proofs.OpenLemmas.{first_get}
use Rattle.tree_model.proofs.held.first_element.Goals as goal

pub returns : goal.returns
returns g c = λ number. subst
    (λ (o : Option g.row.H.Denot). IsFirstOpened (option_map number o) (stack_of number c.args.elements.now))
    (sym (c.copied.ensures ∙ c.first.ensures.value)) (first_get number c.args.elements.now)
