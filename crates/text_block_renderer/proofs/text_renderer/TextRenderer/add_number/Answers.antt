use Rattle.std.proofs.Common.{Option, Some, None, chars, sym, ap, ◌∙◌}
use Rattle.std.proofs.lemmas.Result.{on_ok_weaker}
use Rattle.block_renderer.specs.Seen.{sub_of, marking}
use Rattle.text_block_renderer.specs.Parts.{Parts}
use Rattle.text_block_renderer.specs.SeenParts.{parts_of}
use Rattle.text_block_renderer.proofs.PartLemmas.{number_added}
use Rattle.text_block_renderer.proofs.text_renderer.TextRenderer.add_number.Goals as goal

pub returns-clause-done : goal.returns-clause-done
returns-clause-done g c =
    let seen = g.D.Annotation.EqualCopy.seen in
    let d = g.D.TextDecorator in
    let p = parts_of seen d.view.held c.args.self.now in
    let new = sub_of seen d.view.held c.add_inline_text.new.self in
    on_ok_weaker c.add_inline_text.result (λ h. λ tag q.
    number_added (marking d.view tag) p c.in_ok-number.number
    (chars c.as_str.result.now) (Some new) c.if-not-self.false c.in_ok-number.ensures.number
    (ap chars c.as_str.ensures.value ∙ c.in_ok-mark.ensures) (h tag q)
    ∙ ap (λ targets. let parts : Option (Parts d.Held g.D.Annotation.EqualCopy.Seen)
    = Some (record { below = p.below; current = new; targets = targets }) in parts)
    (sym c.in_ok-number.ensures.stay))
    c.add_inline_text.ensures.outcome.done

pub returns-clause-narrow : goal.returns-clause-narrow
returns-clause-narrow g c = λ e. λ tag p.
    let seen = g.D.Annotation.EqualCopy.seen in
    let d = g.D.TextDecorator in
    number_added (marking d.view tag)
    (parts_of seen d.view.held c.args.self.now) c.in_ok-number.number (chars c.as_str.result.now) None
    c.if-not-self.false
    c.in_ok-number.ensures.number
    (ap chars c.as_str.ensures.value ∙ c.in_ok-mark.ensures)
    (c.add_inline_text.ensures.outcome.narrow e tag p)
