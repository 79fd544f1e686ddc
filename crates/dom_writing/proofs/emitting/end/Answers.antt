use Rattle.std.proofs.Common.{◌∷◌, [], ap, sym}
use Rattle.tree_forest.specs.Forest.{name_of}
use Rattle.html_render_dom.specs.Numbers.{number_of}
use Rattle.tree_serializer.specs.Calls.{finish}
use Rattle.dom_writing.proofs.StepLemmas.{leaf_err, leaf_ok}
use Rattle.dom_writing.proofs.emitting.end.Goals as goal

pub returns-clause-ok : goal.returns-clause-ok
returns-clause-ok g c =
    leaf_ok g.S.Serializer.means c.args.dom.now.forest _ _ (finish c.element_name.result.now)
    (finish (name_of (number_of c.args.node) c.args.dom.now.forest) ∷ []) c.args.turns.now.items c.end_elem.result
    (ap (λ n. finish n ∷ []) (sym c.element_name.ensures)) c.requires.1 c.end_elem.ensures

pub returns-clause-err : goal.returns-clause-err
returns-clause-err g c =
    leaf_err g.S.Serializer.means c.args.dom.now.forest _ _ (finish c.element_name.result.now)
    (finish (name_of (number_of c.args.node) c.args.dom.now.forest) ∷ []) c.args.turns.now.items c.end_elem.result
    (ap (λ n. finish n ∷ []) (sym c.element_name.ensures)) c.end_elem.ensures
