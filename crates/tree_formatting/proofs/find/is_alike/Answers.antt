use Rattle.tree_formatting.proofs.AlikeLemmas.{alike_from_equivalent, equivalent_from_alike, same_tests}
use Rattle.tree_formatting.specs.Alike.{are_alike}
use Rattle.tree_formatting.proofs.find.is_alike.Goals as goal

pub returns : goal.returns
returns c = same_tests c.equiv_modulo_attr_order.result (are_alike c.args.held.now c.args.tag.now)
    (λ e. alike_from_equivalent c.args.held.now c.args.tag.now (c.equiv_modulo_attr_order.ensures.0 e))
    (λ e. c.equiv_modulo_attr_order.ensures.1 (equivalent_from_alike c.args.held.now c.args.tag.now e))
