use Rattle.std.proofs.Common.{sym, ◌∙◌, ap, ◌||◌}
use Rattle.text_lines.specs.Tagged.{line_items}
use Rattle.text_preserved.specs.Preserved.{has_text}
use Rattle.text_pieces.proofs.ElementLemmas.{has_text-append}
use Rattle.text_preserved.proofs.laying.Rows.has_text.Goals as goal

pub returns-then-has_text : goal.returns-then-has_text
returns-then-has_text g c =
    let seen = g.T.EqualCopy.seen in
    let line = line_items seen c.args.self.now.line in
    let tail = line_items seen c.args.self.now.tail in
    c.if-has_text.true ∙ ap (λ b. b || has_text tail) (sym c.if-has_text.true ∙ c.has_text.ensures)
    ∙ sym (has_text-append line tail)

pub returns-else-has_text : goal.returns-else-has_text
returns-else-has_text g c =
    let seen = g.T.EqualCopy.seen in
    let line = line_items seen c.args.self.now.line in
    let tail = line_items seen c.args.self.now.tail in
    c.has_text-else-has_text.ensures ∙ ap (λ b. b || has_text tail) (sym c.if-has_text.false ∙ c.has_text.ensures)
    ∙ sym (has_text-append line tail)
