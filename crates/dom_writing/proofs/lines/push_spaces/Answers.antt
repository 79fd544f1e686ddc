use Rattle.std.proofs.Common.{◌*◌, ◌/◌}
use Rattle.dom_writing.proofs.LineLemmas.{eight_added, space_added}
use Rattle.dom_writing.proofs.lines.push_spaces.Goals as goal

pub eights-preserved : goal.eights-preserved
eights-preserved c =
    eight_added _ _ _ c.eights.counter c.eights.invariant c.in_ok-push_str.ensures.ok

pub spaces-preserved : goal.spaces-preserved
spaces-preserved c =
    space_added _ _ _ (c.args.count / 8 * 8) c.spaces.counter c.spaces.invariant c.in_ok-push_str-2.ensures.ok
