use Rattle.std.proofs.Common.{◌≡◌, ◌+◌, ◌-◌, length, arith}
use Rattle.std.proofs.lemmas.Result.{on_ok_weaker, on_err_weaker}
use Rattle.text_lines.proofs.Joined.{last_joined}
use Rattle.text_lines.proofs.Joins.{last_extended, last_kept}
use Rattle.text_lines.proofs.joining.extend_last.Goals as goal

pub returns-clause-ok : goal.returns-clause-ok
returns-clause-ok g c =
    let es = c.args.elements.now.items in
    let last : (c.len-last.result - 1) + 1 ≡ length es = omega (arith, c.args.elements.now.ok.0) in
    let at : c.len-last.result - 1 ≡ length es - 1 = omega (arith, c.args.elements.now.ok.0) in
    on_ok_weaker c.push_str.result (λ h tag ends. last_extended g.T.EqualCopy.seen es _ _ _ c.args.text.now last at
    c.index_mut.ensures.value h tag ends) c.push_str.ensures.ok

pub returns-clause-err : goal.returns-clause-err
returns-clause-err g c =
    let es = c.args.elements.now.items in
    let last : (c.len-last.result - 1) + 1 ≡ length es = omega (arith, c.args.elements.now.ok.0) in
    on_err_weaker c.push_str.result (λ h. last_kept g.T.EqualCopy.seen es _ _ _ last c.index_mut.ensures.value h)
    c.push_str.ensures.err

pub returns-clause-joined : goal.returns-clause-joined
returns-clause-joined g c =
    let es = c.args.elements.now.items in
    let last : (c.len-last.result - 1) + 1 ≡ length es = omega (arith, c.args.elements.now.ok.0) in
    last_joined g.T.EqualCopy.seen es _ _ _ c.args.text.now c.push_str.result last c.index_mut.ensures.value
    c.push_str.ensures.ok c.push_str.ensures.err
