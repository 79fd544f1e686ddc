use Rattle.std.specs.Prelude.{map}
use Rattle.std.proofs.Common.{sym, ◌∙◌, ap}
use Rattle.std.specs.Option.{option_map}
use Rattle.text_borders.specs.Borders.{border_of}
use Rattle.text_cells.specs.Texts.{laid_line_of}
use Rattle.text_cells.specs.Ends.{first_border, without_first}
use Rattle.text_cells.proofs.BlockLemmas.{first_taken, rest_taken}
use Rattle.text_cells.proofs.block_lines.BlockLines.take_first_border.Goals as goal

pub returns-clause-first : goal.returns-clause-first
returns-clause-first g c =
    let seen = g.T.EqualCopy.seen in
    first_taken seen c.args.self.now.parts.items c.pop_front.new.self.items c.in-Some.first
    (map (laid_line_of seen) c.args.self.now.lines) (option_map (border_of seen) c.in_ok-border.border)
    (ap (λ v. v.items) (sym c.replace-parts.ensures.value) ∙ sym c.from_vec-parts.ensures.items
    ∙ c.in-Some.ensures.items)
    (c.in_ok-border.ensures.first ∙ ap (λ ls. first_border (map (laid_line_of seen) ls)) c.of_lines.ensures)

pub returns-clause-rest : goal.returns-clause-rest
returns-clause-rest g c =
    let seen = g.T.EqualCopy.seen in
    rest_taken seen c.args.self.now.parts.items c.pop_front.new.self.items c.into_vec-2.result.items c.in-Some.first
    c.part.result (map (laid_line_of seen) c.args.self.now.lines)
    (ap (λ v. v.items) (sym c.replace-parts.ensures.value) ∙ sym c.from_vec-parts.ensures.items
    ∙ c.in-Some.ensures.items) (c.into_vec-2.ensures.items ∙ c.in_ok-push_front.ensures.items) c.part.ensures.texts
    (ap (λ v. map (laid_line_of seen) v.items) c.part.ensures.before
    ∙ ap (map (laid_line_of seen)) c.in_ok-into_vec.ensures ∙ c.in_ok-border.ensures.rest
    ∙ ap (λ ls. without_first (map (laid_line_of seen) ls)) c.of_lines.ensures)
