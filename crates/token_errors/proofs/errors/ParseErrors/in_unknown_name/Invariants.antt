use Rattle.token_errors.specs.Found.{GoesOn}
use Rattle.token_errors.proofs.errors.ParseErrors.in_unknown_name.Given as goal

abbrev pub invariant-characters : goal.invariant-characters
invariant-characters l = record {
  found : GoesOn l.fn.self l.self;
}
