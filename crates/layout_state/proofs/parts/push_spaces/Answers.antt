use Rattle.layout_state.proofs.TextLemmas.{space_added}
use Rattle.layout_state.proofs.parts.push_spaces.Goals as goal

pub spaces-preserved : goal.spaces-preserved
spaces-preserved c = space_added _ _ c.spaces.text c.spaces._space c.spaces.invariant c.in_ok-push_str.ensures.bytes
