use Rattle.std.proofs.Common.{refl}
use Rattle.block_renderer.specs.Seen.{sub_of}
use Rattle.layout_state.proofs.CallLemmas.{part_entered}
use Rattle.layout_state.proofs.laying.LayoutState.enter_part.Goals as goal

pub returns-clause-done : goal.returns-clause-done
returns-clause-done g c = λ tag p. part_entered _ c.args.width _ _ _ _
    (sub_of g.D.Annotation.EqualCopy.seen g.D.TextDecorator.view.held c.new_part_renderer.new.self) _
    c.current_mut.ensures.sub refl
    c.in_ok-part.ensures.part.answer c.replace_current.ensures.new
