-- What was found before comes first, over two steps.
use Rattle.std.proofs.Common.{◌++◌, ap, ◌∙◌, append_assoc}
use Rattle.token_errors.specs.declared.errors.ParseErrors.{ParseErrors}
use Rattle.token_errors.specs.Found.{GoesOn, found_of}

pub goes_on_twice : (a b c : ParseErrors) → GoesOn a b → GoesOn b c → GoesOn a c
goes_on_twice a b c first second = record {
  wording = second.wording ∙ first.wording;
  more = first.more ++ second.more;
  order = second.order
      ∙ (ap (λ found. found ++ second.more) first.order ∙ append_assoc (found_of a) first.more second.more);
}
