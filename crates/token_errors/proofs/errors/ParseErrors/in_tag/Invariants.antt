use Rattle.std.proofs.Common.{◌≡◌, false, length}
use denote.Text.{Utf8}
use denote.Shadow.{shadow}
use Rattle.token_errors.specs.Found.{GoesOn, is_watching}
use Rattle.token_errors.proofs.errors.ParseErrors.in_tag.Given as goal

abbrev pub invariant-characters : goal.invariant-characters
invariant-characters l = record {
  is_text : shadow (Utf8 l.rest);
  found : GoesOn l.fn.self l.self;
  unwatched : is_watching l.self ≡ false;
}

abbrev pub decreases-characters : goal.decreases-characters
decreases-characters l = length l.rest
