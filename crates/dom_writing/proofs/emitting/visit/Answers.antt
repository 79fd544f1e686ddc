use Rattle.std.proofs.Common.{[], ◌∷◌, chars, ap, sym, ◌∙◌}
use Rattle.tree_forest.specs.Forest.{comment, doctype, instruction, text}
use Rattle.html_render_dom.specs.Nodes.{kind_of}
use Rattle.html_render_dom.specs.Numbers.{number_of}
use Rattle.tree_serializer.specs.Calls.{doctype_of, instruction_of, remark, text_run}
use Rattle.dom_writing.proofs.NodeLemmas.{plain_holds}
use Rattle.dom_writing.proofs.StepLemmas.{leaf_err, leaf_ok, node_calls}
use Rattle.dom_writing.proofs.emitting.visit.Goals as goal

pub unreachable-requires-in-None : goal.unreachable-requires-in-None
unreachable-requires-in-None g c =
    plain_holds (number_of c.args.node) c.args.dom.now.forest c.in-None.ensures.stands c.requires.1.0

pub returns-in-Some-Text-clause-ok : goal.returns-in-Some-Text-clause-ok
returns-in-Some-Text-clause-ok g c =
    leaf_ok g.S.Serializer.means c.args.dom.now.forest _ _ (text_run (chars c.as_str.result.now))
    _ c.args.turns.now.items
    c.write_text.result
    (node_calls c.args.dom.now.forest (number_of c.args.node) (text c.in-Some-Text.contents)
    (λ n. c.a_walk_goes_one_step_on.ensures c.args.dom.now.forest n c.requires.0) (sym (ap kind_of
    c.in-Some-Text.field-0-is) ∙ c.in-Some-Text.ensures.kind)
    ∙ ap (λ cs. text_run cs ∷ []) (sym c.as_str.ensures))
    c.requires.1.1 c.write_text.ensures

pub returns-in-Some-Text-clause-err : goal.returns-in-Some-Text-clause-err
returns-in-Some-Text-clause-err g c =
    leaf_err g.S.Serializer.means c.args.dom.now.forest _ _ (text_run (chars c.as_str.result.now))
    _ c.args.turns.now.items
    c.write_text.result
    (node_calls c.args.dom.now.forest (number_of c.args.node) (text c.in-Some-Text.contents)
    (λ n. c.a_walk_goes_one_step_on.ensures c.args.dom.now.forest n c.requires.0) (sym (ap kind_of
    c.in-Some-Text.field-0-is) ∙ c.in-Some-Text.ensures.kind)
    ∙ ap (λ cs. text_run cs ∷ []) (sym c.as_str.ensures))
    c.write_text.ensures

pub returns-in-Some-Comment-clause-ok : goal.returns-in-Some-Comment-clause-ok
returns-in-Some-Comment-clause-ok g c =
    leaf_ok g.S.Serializer.means c.args.dom.now.forest _ _ (remark (chars c.as_str-in-Some-Comment.result.now))
    _ c.args.turns.now.items
    c.write_comment.result
    (node_calls c.args.dom.now.forest (number_of c.args.node) (comment c.in-Some-Comment.contents)
    (λ n. c.a_walk_goes_one_step_on.ensures c.args.dom.now.forest n c.requires.0) (sym (ap kind_of
    c.in-Some-Comment.field-0-is) ∙ c.in-Some-Comment.ensures.kind)
    ∙ ap (λ cs. remark cs ∷ []) (sym c.as_str-in-Some-Comment.ensures))
    c.requires.1.1 c.write_comment.ensures

pub returns-in-Some-Comment-clause-err : goal.returns-in-Some-Comment-clause-err
returns-in-Some-Comment-clause-err g c =
    leaf_err g.S.Serializer.means c.args.dom.now.forest _ _ (remark (chars c.as_str-in-Some-Comment.result.now))
    _ c.args.turns.now.items
    c.write_comment.result
    (node_calls c.args.dom.now.forest (number_of c.args.node) (comment c.in-Some-Comment.contents)
    (λ n. c.a_walk_goes_one_step_on.ensures c.args.dom.now.forest n c.requires.0) (sym (ap kind_of
    c.in-Some-Comment.field-0-is) ∙ c.in-Some-Comment.ensures.kind)
    ∙ ap (λ cs. remark cs ∷ []) (sym c.as_str-in-Some-Comment.ensures))
    c.write_comment.ensures

pub returns-in-Some-Doctype-clause-ok : goal.returns-in-Some-Doctype-clause-ok
returns-in-Some-Doctype-clause-ok g c =
    leaf_ok g.S.Serializer.means c.args.dom.now.forest _ _ (doctype_of (chars c.as_str-in-Some-Doctype.result.now))
    _ c.args.turns.now.items
    c.write_doctype.result
    (node_calls c.args.dom.now.forest (number_of c.args.node) (doctype c.in-Some-Doctype.name _ _)
    (λ n. c.a_walk_goes_one_step_on.ensures c.args.dom.now.forest n c.requires.0) (sym (ap kind_of
    c.in-Some-Doctype.field-0-is) ∙ c.in-Some-Doctype.ensures.kind)
    ∙ ap (λ cs. doctype_of cs ∷ []) (sym c.as_str-in-Some-Doctype.ensures))
    c.requires.1.1 c.write_doctype.ensures

pub returns-in-Some-Doctype-clause-err : goal.returns-in-Some-Doctype-clause-err
returns-in-Some-Doctype-clause-err g c =
    leaf_err g.S.Serializer.means c.args.dom.now.forest _ _ (doctype_of (chars c.as_str-in-Some-Doctype.result.now))
    _ c.args.turns.now.items
    c.write_doctype.result
    (node_calls c.args.dom.now.forest (number_of c.args.node) (doctype c.in-Some-Doctype.name _ _)
    (λ n. c.a_walk_goes_one_step_on.ensures c.args.dom.now.forest n c.requires.0) (sym (ap kind_of
    c.in-Some-Doctype.field-0-is) ∙ c.in-Some-Doctype.ensures.kind)
    ∙ ap (λ cs. doctype_of cs ∷ []) (sym c.as_str-in-Some-Doctype.ensures))
    c.write_doctype.ensures

pub returns-in-Some-ProcessingInstruction-clause-ok : goal.returns-in-Some-ProcessingInstruction-clause-ok
returns-in-Some-ProcessingInstruction-clause-ok g c =
    leaf_ok g.S.Serializer.means c.args.dom.now.forest _ _ (instruction_of
    (chars c.as_str-in-Some-ProcessingInstruction.result.now)
    (chars c.as_str-in-Some-ProcessingInstruction-2.result.now)) _ c.args.turns.now.items
    c.write_processing_instruction.result
    (node_calls c.args.dom.now.forest (number_of c.args.node) (instruction c.in-Some-ProcessingInstruction.target
    c.in-Some-ProcessingInstruction.contents)
    (λ n. c.a_walk_goes_one_step_on.ensures c.args.dom.now.forest n c.requires.0) (sym (ap kind_of
    c.in-Some-ProcessingInstruction.field-0-is) ∙ c.in-Some-ProcessingInstruction.ensures.kind)
    ∙ (ap (λ cs. instruction_of cs c.in-Some-ProcessingInstruction.contents ∷ [])
    (sym c.as_str-in-Some-ProcessingInstruction.ensures)
    ∙ ap (λ cs. instruction_of (chars c.as_str-in-Some-ProcessingInstruction.result.now) cs ∷ [])
    (sym c.as_str-in-Some-ProcessingInstruction-2.ensures)))
    c.requires.1.1 c.write_processing_instruction.ensures

pub returns-in-Some-ProcessingInstruction-clause-err : goal.returns-in-Some-ProcessingInstruction-clause-err
returns-in-Some-ProcessingInstruction-clause-err g c =
    leaf_err g.S.Serializer.means c.args.dom.now.forest _ _ (instruction_of
    (chars c.as_str-in-Some-ProcessingInstruction.result.now)
    (chars c.as_str-in-Some-ProcessingInstruction-2.result.now)) _ c.args.turns.now.items
    c.write_processing_instruction.result
    (node_calls c.args.dom.now.forest (number_of c.args.node) (instruction c.in-Some-ProcessingInstruction.target
    c.in-Some-ProcessingInstruction.contents)
    (λ n. c.a_walk_goes_one_step_on.ensures c.args.dom.now.forest n c.requires.0) (sym (ap kind_of
    c.in-Some-ProcessingInstruction.field-0-is) ∙ c.in-Some-ProcessingInstruction.ensures.kind)
    ∙ (ap (λ cs. instruction_of cs c.in-Some-ProcessingInstruction.contents ∷ [])
    (sym c.as_str-in-Some-ProcessingInstruction.ensures)
    ∙ ap (λ cs. instruction_of (chars c.as_str-in-Some-ProcessingInstruction.result.now) cs ∷ [])
    (sym c.as_str-in-Some-ProcessingInstruction-2.ensures)))
    c.write_processing_instruction.ensures
