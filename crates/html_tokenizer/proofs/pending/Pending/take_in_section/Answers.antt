use Rattle.std.proofs.Common.{sym, ap, ◌∙◌, subst, string_bytes}
use Rattle.std.proofs.lemmas.Str.{chars-nil}
use Rattle.std.specs.Str.{chars}
use Rattle.token_states.specs.Sound.{IsSound}
use Rattle.html_tokenizer.proofs.PendingLemmas.{section_ended, section_sound, section_stays, some_mode}
use Rattle.html_tokenizer.proofs.pending.Pending.take_in_section.Goals as goal

pub invariant_of-self : goal.invariant_of-self
invariant_of-self c = record { sound = ap chars c.clear.ensures.bytes ∙ chars-nil }

pub invariant_of-self-in-Ends : goal.invariant_of-self-in-Ends
invariant_of-self-in-Ends c = record { sound = ap chars c.clear-in-Ends.ensures.bytes ∙ chars-nil }

pub invariant_of-self-in_default : goal.invariant_of-self-in_default
invariant_of-self-in_default c =
    let p = c.args.self.now in
    let now = chars (string_bytes c.section_turn.new.held) in
    let old = subst (λ x. IsSound x (chars (string_bytes p.held))) c.requires p.sound in
    record {
      sound = subst (λ x. IsSound x now) (sym c.requires)
          (section_sound some_mode (chars (string_bytes p.held)) c.args.c c.in-Ok.turn now c.in_default.not-Ends old
          (c.in-Ok.ensures some_mode));
    }

pub returns-in-Ends : goal.returns-in-Ends
returns-in-Ends c = λ mode.
    section_ended mode (chars (string_bytes c.args.self.now.held)) c.args.c c.in-Ok.turn
    (chars (string_bytes c.section_turn.new.held)) (chars (string_bytes c.clear-in-Ends.new.self)) c.in-Ends.is
    (ap chars c.clear-in-Ends.ensures.bytes ∙ chars-nil) (c.in-Ok.ensures mode)

pub returns-in_default : goal.returns-in_default
returns-in_default c = λ mode.
    section_stays mode (chars (string_bytes c.args.self.now.held)) c.args.c c.in-Ok.turn c.args.self.now.place
    (chars (string_bytes c.section_turn.new.held)) c.requires c.in_default.not-Ends (c.in-Ok.ensures mode)
