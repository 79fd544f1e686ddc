use Rattle.std.proofs.Common.{rules}
use Rattle.token_errors.specs.Found.{GoesOn}
use Rattle.token_errors.proofs.GoesOnLemmas.{goes_on_twice}
use Rattle.token_errors.proofs.errors.ParseErrors.at_tag_end.Goals.{then-not-is_empty+in_ok-emit, else-not-is_empty}
use Rattle.token_errors.proofs.errors.ParseErrors.at_tag_end.Goals as goal

pub returns-in_err-emit-2-clause-found : goal.returns-in_err-emit-2-clause-found
returns-in_err-emit-2-clause-found c =
    let emitted : GoesOn c.finish_attribute.new.self c.if-not-is_empty.self =
    elim c.if-not-is_empty.branch
    [ then-not-is_empty+in_ok-emit w ↦ search rules | else-not-is_empty w ↦ search rules ] in
    goes_on_twice _ _ _ (goes_on_twice _ _ _ c.finish_attribute.ensures.found emitted) c.in_err-emit-2.ensures.found
