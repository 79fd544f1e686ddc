use Rattle.std.proofs.Common.{sym, ap, ◌∙◌, subst, string_bytes}
use Rattle.std.proofs.lemmas.Str.{chars-nil}
use Rattle.std.specs.Str.{chars}
use Rattle.token_states.specs.Sound.{IsSound}
use Rattle.html_tokenizer.proofs.pending.Pending.take_all.Goals as goal

pub invariant_of-self : goal.invariant_of-self
invariant_of-self c =
    record {
      sound = subst (λ x. IsSound x (chars (string_bytes c.take_out.new.text)))
          (sym c.replace-place.ensures.after) (ap chars c.take_out.ensures.left ∙ chars-nil);
    }
