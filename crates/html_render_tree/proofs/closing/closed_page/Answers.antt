use Rattle.std.proofs.Common.{None, Some}
use Rattle.block_renderer.specs.Seen.{marking, sub_of}
use Rattle.text_block_renderer.specs.SeenParts.{parts_of}
use Rattle.html_render_tree.proofs.LineLemmas.{if_ok_by, noted_as, with_targets_as}
use Rattle.html_render_tree.proofs.closing.closed_page.Goals as goal

pub returns-clause-closed : goal.returns-clause-closed
returns-clause-closed g c = if_ok_by _ _ c.with_targets.result (λ s h. λ tag p.
    with_targets_as (marking g.D.TextDecorator.view tag) g.D.Annotation.EqualCopy.seen g.D.TextDecorator.view.closes _ _
    _ _
    (Some (sub_of g.D.Annotation.EqualCopy.seen g.D.TextDecorator.view.held s))
    (noted_as (parts_of g.D.Annotation.EqualCopy.seen g.D.TextDecorator.view.held c.args.text) (sub_of
    g.D.Annotation.EqualCopy.seen g.D.TextDecorator.view.held c.into_inner-sub.result.0) _ _
    c.into_inner-sub.ensures.sub
    c.into_inner-sub.ensures.links c.in_ok-targets.ensures) c.into_inner-sub.ensures.sub (h tag p))
    c.with_targets.ensures.closed

pub returns-clause-narrow : goal.returns-clause-narrow
returns-clause-narrow g c = λ e. λ tag p.
    with_targets_as (marking g.D.TextDecorator.view tag) g.D.Annotation.EqualCopy.seen g.D.TextDecorator.view.closes _ _
    _ _ None
    (noted_as (parts_of g.D.Annotation.EqualCopy.seen g.D.TextDecorator.view.held c.args.text) (sub_of
    g.D.Annotation.EqualCopy.seen g.D.TextDecorator.view.held c.into_inner-sub.result.0) _ _
    c.into_inner-sub.ensures.sub
    c.into_inner-sub.ensures.links c.in_ok-targets.ensures) c.into_inner-sub.ensures.sub
    (c.with_targets.ensures.narrow e tag p)
