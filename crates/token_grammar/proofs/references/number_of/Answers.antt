use Rattle.std.proofs.Common.{arith}
use Rattle.token_grammar.proofs.NumberLemmas.{counting_more, counting_ends}
use Rattle.token_grammar.proofs.references.number_of.Goals as goal

pub digits-preserved : goal.digits-preserved
digits-preserved c = record {
  so_far =
      counting_more _ _ _ _ _ c.digits.invariant.so_far _ c.in-Some.digit c.saturating_mul.result c.unwrap_or.result _
      c.to_digit.result c.requires.least c.in-Some.ensures.steps.0
      c.saturating_mul.ensures c.to_digit.ensures.value c.unwrap_or.ensures c.saturating_add-number.ensures;
  can_next = tt;
  is_finite = tt;
}

pub returns : goal.returns
returns c = counting_ends _ _ _ _ _ c.digits.invariant.so_far (omega arith) c.in-None.ensures.steps.0.0
