use Rattle.std.proofs.Common.{◌≡◌, ◌+◌, ◌-◌, ◌++◌, length, arith, ap, ◌∙◌}
use Rattle.std.specs.Prelude.{encode_utf8}
use Rattle.std.proofs.lemmas.Result.{on_ok_weaker, on_err_weaker}
use Rattle.text_lines.proofs.Joined.{last_joined}
use Rattle.text_lines.proofs.Joins.{chars_of_one, last_extended, last_kept}
use Rattle.text_lines.specs.Elements.{elements_items, tagged}
use Rattle.text_lines.proofs.joining.extend_last_by.Goals as goal

pub returns-clause-ok : goal.returns-clause-ok
returns-clause-ok g c =
    let es = c.args.elements.now.items in
    let last : (c.len-last.result - 1) + 1 ≡ length es = omega (arith, c.args.elements.now.ok.0) in
    let at : c.len-last.result - 1 ≡ length es - 1 = omega (arith, c.args.elements.now.ok.0) in
    on_ok_weaker c.push.result (λ h tag ends. last_extended g.T.EqualCopy.seen es _ _ _ (encode_utf8 c.args.c) last at
    c.index_mut.ensures.value h tag ends ∙ ap (λ cs. elements_items g.T.EqualCopy.seen es ++ tagged cs tag)
    (chars_of_one c.args.c c.ranges.c.0)) c.push.ensures.ok

pub returns-clause-err : goal.returns-clause-err
returns-clause-err g c =
    let es = c.args.elements.now.items in
    let last : (c.len-last.result - 1) + 1 ≡ length es = omega (arith, c.args.elements.now.ok.0) in
    on_err_weaker c.push.result (λ h. last_kept g.T.EqualCopy.seen es _ _ _ last c.index_mut.ensures.value h)
    c.push.ensures.err

pub returns-clause-joined : goal.returns-clause-joined
returns-clause-joined g c =
    let es = c.args.elements.now.items in
    let last : (c.len-last.result - 1) + 1 ≡ length es = omega (arith, c.args.elements.now.ok.0) in
    last_joined g.T.EqualCopy.seen es _ _ _ (encode_utf8 c.args.c) c.push.result last c.index_mut.ensures.value
    c.push.ensures.ok c.push.ensures.err
