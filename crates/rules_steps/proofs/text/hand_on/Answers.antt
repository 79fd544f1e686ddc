use Rattle.std.proofs.Common.{◌∙◌}
use Rattle.rules_steps.proofs.text.hand_on.Goals as goal

pub rules-smaller : goal.rules-smaller
rules-smaller g c = c.in_ok-pass_on.ensures.passed.less

pub rules-preserved : goal.rules-preserved
rules-preserved g c =
    let passed = c.in_ok-pass_on.ensures.passed in
    record {
      calm = record { ready = c.in_ok-pass_on.ensures.ready; flag = passed.flag };
      same = λ k ks e. passed.same k ks e ∙ c.rules.invariant.same k ks e;
    }
