use Rattle.std.proofs.Common.{◌≡◌, false}
use Rattle.token_errors.specs.Found.{GoesOn, is_watching}
use Rattle.token_errors.proofs.errors.ParseErrors.in_bogus_comment.Given as goal

abbrev pub invariant-characters : goal.invariant-characters
invariant-characters l = record {
  found : GoesOn l.fn.self l.self;
  unwatched : is_watching l.self ≡ false;
}
