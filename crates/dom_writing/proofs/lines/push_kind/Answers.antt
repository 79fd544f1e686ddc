use Rattle.std.proofs.Common.{chars, ap, sym, ◌∙◌}
use Rattle.std.proofs.lemmas.Result.{on_ok_weaker}
use Rattle.html_render_dom.specs.Nodes.{kind_of}
use Rattle.html_render_dom.specs.Numbers.{number_of}
use Rattle.dom_writing.proofs.FuelLemmas.{kind_nowhere}
use Rattle.dom_writing.proofs.LineLemmas.{comment_words, doctype_words, document_word, element_words, instruction_words}
use Rattle.dom_writing.proofs.LineLemmas.{named, text_words, two_added}
use Rattle.dom_writing.proofs.lines.push_kind.Goals as goal

pub returns-in-Some-Doctype : goal.returns-in-Some-Doctype
returns-in-Some-Doctype c =
    on_ok_weaker c.push_words.result
    (λ h. named c.args.lines.now c.push_words.new.lines _ _
    (doctype_words _ c.in-Some-Doctype.name _ _ (chars c.as_str.result.now)
    (sym (ap kind_of c.in-Some-Doctype.field-0-is) ∙ c.in-Some-Doctype.ensures.kind) c.as_str.ensures) h)
    c.push_words.ensures

pub returns-in-Some-Text : goal.returns-in-Some-Text
returns-in-Some-Text c =
    on_ok_weaker c.push_text.result
    (λ h. named c.args.lines.now c.push_text.new.lines _ _
    (text_words _ c.in-Some-Text.contents (chars c.as_str-in-Some-Text.result.now)
    (sym (ap kind_of c.in-Some-Text.field-0-is) ∙ c.in-Some-Text.ensures.kind) c.as_str-in-Some-Text.ensures) h)
    c.push_text.ensures

pub returns-in-Some-Comment : goal.returns-in-Some-Comment
returns-in-Some-Comment c =
    on_ok_weaker c.push_text-in-Some-Comment.result
    (λ h. named c.args.lines.now c.push_text-in-Some-Comment.new.lines _ _
    (comment_words _ c.in-Some-Comment.contents (chars c.as_str-in-Some-Comment.result.now)
    (sym (ap kind_of c.in-Some-Comment.field-0-is) ∙ c.in-Some-Comment.ensures.kind)
    c.as_str-in-Some-Comment.ensures) h)
    c.push_text-in-Some-Comment.ensures

pub returns-in-Some-ProcessingInstruction : goal.returns-in-Some-ProcessingInstruction
returns-in-Some-ProcessingInstruction c =
    on_ok_weaker c.push_words-in-Some-ProcessingInstruction.result
    (λ h. named c.args.lines.now c.push_words-in-Some-ProcessingInstruction.new.lines _ _
    (instruction_words _ c.in-Some-ProcessingInstruction.target _
    (chars c.as_str-in-Some-ProcessingInstruction.result.now)
    (sym (ap kind_of c.in-Some-ProcessingInstruction.field-0-is) ∙ c.in-Some-ProcessingInstruction.ensures.kind)
    c.as_str-in-Some-ProcessingInstruction.ensures) h)
    c.push_words-in-Some-ProcessingInstruction.ensures

pub returns-in_ok-push_words-in-Some-Element : goal.returns-in_ok-push_words-in-Some-Element
returns-in_ok-push_words-in-Some-Element c =
    on_ok_weaker c.push_str.result
    (λ h. two_added c.args.lines.now c.push_words-in-Some-Element.new.lines c.push_str.new.self _ _ _
    c.in_ok-push_words-in-Some-Element.ensures h
    (element_words _ _ (chars c.as_str-in-Some-Element.result.now)
    (sym (ap kind_of c.in-Some-Element.field-0-is) ∙ c.in-Some-Element.ensures.kind)
    c.as_str-in-Some-Element.ensures))
    c.push_str.ensures.ok

pub returns-in-Some-Document : goal.returns-in-Some-Document
returns-in-Some-Document c =
    on_ok_weaker c.push_str-in-Some-Document.result
    (λ h. named c.args.lines.now c.push_str-in-Some-Document.new.self _ _
    (document_word _ (sym (ap kind_of c.in-Some-Document.field-0-is) ∙ c.in-Some-Document.ensures.kind)) h)
    c.push_str-in-Some-Document.ensures.ok

pub returns-in-None : goal.returns-in-None
returns-in-None c =
    on_ok_weaker c.push_str-in-None.result
    (λ h. named c.args.lines.now c.push_str-in-None.new.self _ _
    (document_word _
    (sym (kind_nowhere (number_of c.args.node) c.args.dom.now.forest c.in-None.ensures.stands))) h)
    c.push_str-in-None.ensures.ok
