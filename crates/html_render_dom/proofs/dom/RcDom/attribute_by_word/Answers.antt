use Rattle.std.proofs.Common.{ap, sym, ◌∙◌, chars}
use Rattle.std.specs.Option.{option_map}
use Rattle.tree_forest.specs.Forest.{element_of}
use Rattle.tree_predicates.specs.Attributes.{value_of}
use Rattle.html_render_dom.specs.Numbers.{number_of}
use Rattle.html_render_dom.proofs.LentLemmas.{document_past}
use Rattle.html_render_dom.proofs.dom.RcDom.attribute_by_word.Goals as goal

pub returns-in_err-attrs : goal.returns-in_err-attrs
returns-in_err-attrs c =
    ap (option_map (λ value. chars value.now)) c.from_residual.ensures
    ∙ sym (ap (λ kind. value_of c.args.word.now (element_of kind).attributes)
    (document_past (number_of c.args.target) c.args.self.now.forest c.in_err-attrs.ensures.stands))
