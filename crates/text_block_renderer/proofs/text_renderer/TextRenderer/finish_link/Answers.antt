use Rattle.std.proofs.Common.{ap, ◌∙◌}
use Rattle.std.specs.Option.{option_map, option_and_then}
use Rattle.std.proofs.lemmas.Result.{on_ok_weaker}
use Rattle.block_renderer.specs.Seen.{marking}
use Rattle.text_block_renderer.specs.Parts.{with_current, add_part_number}
use Rattle.text_block_renderer.specs.SeenParts.{parts_of}
use Rattle.text_block_renderer.proofs.text_renderer.TextRenderer.finish_link.Goals as goal

pub returns-clause-done : goal.returns-clause-done
returns-clause-done g c =
    let seen = g.D.Annotation.EqualCopy.seen in
    let d = g.D.TextDecorator in
    on_ok_weaker c.add_number.result (λ h. λ tag p.
    ap (λ o. option_and_then (add_part_number (marking d.view tag))
    (option_map (with_current (parts_of seen d.view.held c.args.self.now)) o))
    (c.in_ok-end_link.ensures.outcome.done tag p) ∙ h tag p)
    c.add_number.ensures.done

pub returns-clause-narrow : goal.returns-clause-narrow
returns-clause-narrow g c = λ e. λ tag p.
    let seen = g.D.Annotation.EqualCopy.seen in
    let d = g.D.TextDecorator in
    ap (λ o. option_and_then (add_part_number (marking d.view tag))
    (option_map (with_current (parts_of seen d.view.held c.args.self.now)) o))
    (c.in_ok-end_link.ensures.outcome.done tag p) ∙ c.add_number.ensures.narrow e tag p
