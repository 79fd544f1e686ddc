use Rattle.std.proofs.Common.{◌∙◌, sym}
use Rattle.render_conversion.proofs.TextLemmas.{empty_text, image_made, image_none, some_text}
use Rattle.render_conversion.proofs.meaning.imaged.Goals as goal

pub returns-then-is_empty : goal.returns-then-is_empty
returns-then-is_empty c =
    c.nothing.ensures
    ∙ image_none _ _ (sym c.in_ok-source.ensures ∙ (sym c.as_str.ensures
    ∙ empty_text c.as_str.result.now (sym c.is_empty.ensures ∙ c.if-is_empty.true)))

pub returns : goal.returns
returns c =
    image_made c.leaf.result _ c.in_ok-source.source c.in_ok-title.title _ c.leaf.ensures c.in_ok-source.ensures
    (c.in_ok-title.ensures ∙ c.in_ok-copied.ensures)
    (λ none. some_text c.as_str.result.now c.as_str.utf8 (sym c.is_empty.ensures ∙ c.if-is_empty.false)
    (c.as_str.ensures ∙ none))
