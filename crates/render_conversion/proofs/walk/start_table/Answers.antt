use Rattle.std.proofs.Common.{[], ◌∷◌, ◌++◌, ◌∙◌, ap}
use Rattle.std.specs.Prelude.{None}
use Rattle.render_values.specs.declared.info.RenderInfo.TheVariants.{Table}
use Rattle.render_conversion.proofs.VisitLemmas.{table_by}
use Rattle.render_conversion.proofs.walk.start_table.Goals as goal

pub returns : goal.returns
returns c = λ options styles.
    table_by c.push_table_parts.result options styles c.args.dom.now.forest c.args.node c.len-at.result
    c.args.turns.now c.push.new.self c.push_table_parts.new.turns c.args.nodes.now.items c.push-2.new.self.items
    (λ n ns. c.a_tree_goes_one_step_on.ensures.first c.args.dom.now.forest n ns c.requires.forest)
    c.requires.ordered c.requires.flat (c.len-at.ensures ∙ c.args.nodes.now.ok.0) c.in_ok-push.ensures
    (c.in_ok-push-2.ensures.items ∙ ap (λ look. c.args.nodes.now.items ++ record {
      head = record { info = Table; style = look; fragment = None };
      below = 0;
    } ∷ []) c.plain.ensures) c.push_table_parts.ensures
