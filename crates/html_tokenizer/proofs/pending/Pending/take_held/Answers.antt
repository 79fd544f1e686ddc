use Rattle.std.proofs.Common.{refl, sym, ap, ◌∙◌, subst, string_bytes}
use Rattle.std.proofs.lemmas.Str.{chars-nil}
use Rattle.std.specs.Str.{chars}
use Rattle.token_states.specs.Sound.{IsSound}
use Rattle.token_states.specs.declared.place.LexemeState.TheVariants.{CdataSection}
use Rattle.html_tokenizer.proofs.pending.Pending.take_held.Goals as goal

pub invariant_of-self : goal.invariant_of-self
invariant_of-self c = record {
  sound = subst (λ x. IsSound x (chars (string_bytes c.take_out.new.text))) (sym c.requires)
      (subst (λ x. IsSound CdataSection x) (sym (ap chars c.take_out.ensures.left ∙ chars-nil)) refl);
}

pub returns-clause-held : goal.returns-clause-held
returns-clause-held c = ap chars c.take_out.ensures.left ∙ chars-nil
