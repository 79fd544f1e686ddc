use Rattle.std.proofs.Common.{ap, rules, sym, w64, ◌∙◌}
use Rattle.std.proofs.lemmas.Int.{to_z-of_z}
use Rattle.block_renderer.specs.Seen.{marking, sub_of}
use Rattle.text_decorators.specs.Marks.{ordered_item, unordered_item}
use Rattle.layout_state.specs.Items.{item_mark}
use Rattle.layout_state.specs.LayoutState.{mark_of}
use Rattle.layout_state.specs.Seen.{laying_of}
use Rattle.layout_state.specs.declared.around.ItemMark.{ItemMark}
use Rattle.layout_state.proofs.CallLemmas.{if_ok_by, marked}
use Rattle.layout_state.proofs.laying.LayoutState.prefix_of.Goals as goal

pub returns-in-Bullet-clause-text : goal.returns-in-Bullet-clause-text
returns-in-Bullet-clause-text g c = if_ok_by _ _ c.unordered_item_prefix.result (λ s h. λ tag.
    marked (marking g.D.TextDecorator.view tag) unordered_item (laying_of g.D.Annotation.EqualCopy.seen
    g.D.TextDecorator.view.held c.args.self.now)
    (sub_of g.D.Annotation.EqualCopy.seen g.D.TextDecorator.view.held c.current_mut.result.now) _
    c.current_mut.ensures.sub h
    ∙ ap (λ (k : ItemMark). mark_of (marking g.D.TextDecorator.view tag) (item_mark k) (laying_of
    g.D.Annotation.EqualCopy.seen
    g.D.TextDecorator.view.held c.args.self.now)) (sym c.in-Bullet.is))
    c.unordered_item_prefix.ensures.answer.answer

pub returns-in-Number-clause-text : goal.returns-in-Number-clause-text
returns-in-Number-clause-text g c = if_ok_by _ _ c.ordered_item_prefix.result (λ s h. λ tag.
    marked (marking g.D.TextDecorator.view tag) (ordered_item c.in-Number.number) (laying_of
    g.D.Annotation.EqualCopy.seen g.D.TextDecorator.view.held c.args.self.now)
    (sub_of g.D.Annotation.EqualCopy.seen g.D.TextDecorator.view.held c.current_mut-in-Number.result.now) _
    c.current_mut-in-Number.ensures.sub
    (h ∙ ap (λ z. g.D.TextDecorator.view.text (sub_of g.D.Annotation.EqualCopy.seen g.D.TextDecorator.view.held
    c.current_mut-in-Number.result.now).held (ordered_item z))
    (to_z-of_z w64 c.in-Number.number (search rules)))
    ∙ ap (λ (k : ItemMark). mark_of (marking g.D.TextDecorator.view tag) (item_mark k) (laying_of
    g.D.Annotation.EqualCopy.seen
    g.D.TextDecorator.view.held c.args.self.now)) (sym c.in-Number.is))
    c.ordered_item_prefix.ensures.answer.answer
