use Rattle.std.proofs.Common.{◌≡◌, ◌+◌, ◌-◌, arith, length}
use Rattle.text_lines.proofs.Joined.{last_extends}
use Rattle.text_lines.proofs.Joins.{last_kept}
use Rattle.text_lines.proofs.joining.reserve_last.Goals as goal

pub returns-clause-items : goal.returns-clause-items
returns-clause-items g c =
    let es = c.args.elements.now.items in
    let last : (c.len-last.result - 1) + 1 ≡ length es = omega (arith, c.args.elements.now.ok.0) in
    last_kept g.T.EqualCopy.seen es _ _ _ last c.index_mut.ensures.value c.reserve.ensures

pub returns-clause-joined : goal.returns-clause-joined
returns-clause-joined g c = λ joined.
    let es = c.args.elements.now.items in
    let last : (c.len-last.result - 1) + 1 ≡ length es = omega (arith, c.args.elements.now.ok.0) in
    last_extends g.T.EqualCopy.seen es _ _ _ _ last c.index_mut.ensures.value c.reserve.ensures joined
