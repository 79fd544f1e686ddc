use Rattle.std.proofs.lemmas.Result.{IfOk-weaker}
use Rattle.command_line.proofs.AddedRules.{added}
use Rattle.command_line.proofs.rules.command.Goals as goal

pub returns : goal.returns
returns c =
    let one = added _ _ _ _ _ c.in_ok-arg.ensures c.number.ensures.local c.number.ensures.rule
    c.without_options.ensures in
    let two = added _ _ _ _ _ c.in_ok-arg-2.ensures c.number-2.ensures.local c.number-2.ensures.rule one in
    let three = added _ _ _ _ _ c.in_ok-arg-3.ensures c.flag.ensures.local c.flag.ensures.rule two in
    let four = added _ _ _ _ _ c.in_ok-arg-4.ensures c.flag-2.ensures.local c.flag-2.ensures.rule three in
    let five = added _ _ _ _ _ c.in_ok-arg-5.ensures c.flag-3.ensures.local c.flag-3.ensures.rule four in
    let six = added _ _ _ _ _ c.in_ok-arg-6.ensures c.flag-4.ensures.local c.flag-4.ensures.rule five in
    let seven = added _ _ _ _ _ c.in_ok-arg-7.ensures c.text.ensures.local c.text.ensures.rule six in
    IfOk-weaker c.arg-8.result _ _ (λ command adds. added _ command _ _ _ adds c.file.ensures.local c.file.ensures.rule
    seven) c.arg-8.ensures
