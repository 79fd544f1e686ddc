use Rattle.std.proofs.Common.{[], ap, refl, rules, ◌∷◌, ◌∙◌}
use Rattle.tree_serializer.specs.Openings.{opening_entry}
use Rattle.tree_serializer.proofs.GrowthLemmas.{on_err}
use Rattle.tree_serializer.proofs.LentLemmas.{part_of_none, whole_failed, whole_kinds, whole_ok, whole_part}
use Rattle.tree_serializer.proofs.LentLemmas.{whole_stays}
use Rattle.tree_serializer.proofs.whole_walk.serialize.Goals as goal

pub returns-in_err-scope-clause-part : goal.returns-in_err-scope-clause-part
returns-in_err-scope-clause-part g c = on_err _ c.from_residual.ensures.0 (part_of_none _ _)

pub returns-in_err-entries-clause-part : goal.returns-in_err-entries-clause-part
returns-in_err-entries-clause-part g c = on_err _ c.from_residual-in_err-entries.ensures.0 (part_of_none _ _)

pub returns-clause-ok : goal.returns-clause-ok
returns-clause-ok g c =
    whole_ok g.W.ByteWriter.contents c.serialize-emitted.result c.args.opts.traversal_scope
    (g.T.Serialize.node c.args.node.now) (g.T.Serialize.forest c.args.node.now)
    _ c.serialize-emitted.new.serializer.writer.0.now c.serialize-emitted.ensures
    (c.in_ok-entries.ensures.ok ∙ ap (λ e. e ∷ []) (c.opening_entry.ensures ∙ ap opening_entry c.in_ok-scope.ensures))
    refl (search rules)

pub returns-clause-part : goal.returns-clause-part
returns-clause-part g c =
    whole_part g.W.ByteWriter.contents c.serialize-emitted.result c.args.opts.traversal_scope
    (g.T.Serialize.node c.args.node.now) (g.T.Serialize.forest c.args.node.now)
    _ c.serialize-emitted.new.serializer.writer.0.now c.serialize-emitted.ensures
    (c.in_ok-entries.ensures.ok ∙ ap (λ e. e ∷ []) (c.opening_entry.ensures ∙ ap opening_entry c.in_ok-scope.ensures))
    refl (search rules)

pub returns-clause-failed : goal.returns-clause-failed
returns-clause-failed g c =
    whole_failed g.W.ByteWriter.has_failed c.serialize-emitted.result c.args.opts.traversal_scope
    (g.T.Serialize.node c.args.node.now) (g.T.Serialize.forest c.args.node.now)
    _ c.serialize-emitted.new.serializer.writer.0.now c.serialize-emitted.ensures
    (c.in_ok-entries.ensures.ok ∙ ap (λ e. e ∷ []) (c.opening_entry.ensures ∙ ap opening_entry c.in_ok-scope.ensures))
    refl (search rules)

pub returns-clause-stays : goal.returns-clause-stays
returns-clause-stays g c =
    whole_stays g.W.ByteWriter.has_failed c.serialize-emitted.result c.args.opts.traversal_scope
    (g.T.Serialize.node c.args.node.now) (g.T.Serialize.forest c.args.node.now)
    _ c.serialize-emitted.new.serializer.writer.0.now c.serialize-emitted.ensures
    (c.in_ok-entries.ensures.ok ∙ ap (λ e. e ∷ []) (c.opening_entry.ensures ∙ ap opening_entry c.in_ok-scope.ensures))
    refl (search rules)

pub returns-clause-kinds : goal.returns-clause-kinds
returns-clause-kinds g c =
    whole_kinds c.serialize-emitted.result c.args.opts.traversal_scope
    (g.T.Serialize.node c.args.node.now) (g.T.Serialize.forest c.args.node.now)
    c.serialize-emitted.ensures
    (c.in_ok-entries.ensures.ok ∙ ap (λ e. e ∷ []) (c.opening_entry.ensures ∙ ap opening_entry c.in_ok-scope.ensures))
