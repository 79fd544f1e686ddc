use Rattle.std.proofs.Common.{sym, ap, ◌∙◌, subst, string_bytes}
use Rattle.std.proofs.lemmas.Str.{chars-nil}
use Rattle.std.specs.Str.{chars}
use Rattle.token_states.specs.Sound.{IsSound}
use Rattle.html_tokenizer.proofs.pending.Pending.give_back.Goals as goal

pub invariant_of-self : goal.invariant_of-self
invariant_of-self c = record {
  sound = subst (λ place. IsSound place (chars (string_bytes c.clear.new.self))) (sym c.requires.at)
      (ap chars c.clear.ensures.bytes ∙ chars-nil);
}
