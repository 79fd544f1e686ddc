use Rattle.std.proofs.Common.{[], refl, sym, ap, ◌∙◌, subst, string_bytes}
use Rattle.std.proofs.lemmas.Str.{chars-nil}
use Rattle.std.specs.Str.{chars}
use Rattle.token_states.specs.PlaceKinds.{IsPlaceOf}
use Rattle.token_states.specs.Sound.{IsSound}
use Rattle.token_states.specs.Turns.{IsOver, IsTaken}
use Rattle.token_states.specs.declared.turn.Turn.TheVariants.{Goes, Ends, EndsBefore}
use Rattle.html_tokenizer.proofs.GoingLemmas.{ended_before, ended_untagged, going_sound}
use Rattle.html_tokenizer.proofs.PendingLemmas.{kept, some_mode, turned}
use Rattle.html_tokenizer.proofs.pending.Pending.take.Goals as goal

pub invariant_of-self : goal.invariant_of-self
invariant_of-self c = record { sound = ap chars c.clear.ensures.bytes ∙ chars-nil }

pub invariant_of-self-in-Goes : goal.invariant_of-self-in-Goes
invariant_of-self-in-Goes c =
    let p = c.args.self.now in
    let t = turned c.args.table.now c.args.foreign p.place (chars (string_bytes p.held)) c.args.c
    (chars (string_bytes c.markup_turn.new.held)) _ c.in-Ok.done c.in-Some.turn
    (Goes c.in-Goes.next) c.in-Ok.ensures.turns c.in-Some.is c.in-Goes.is in
    record {
      sound = going_sound c.args.table.now some_mode.last_start_tag c.in-Goes.next _
          (t c.args.foreign some_mode (λ _. refl)).1;
    }

pub invariant_of-self-in-Ends : goal.invariant_of-self-in-Ends
invariant_of-self-in-Ends c = record { sound = ap chars c.take_out.ensures.left ∙ chars-nil }

pub invariant_of-self-in-EndsBefore : goal.invariant_of-self-in-EndsBefore
invariant_of-self-in-EndsBefore c =
    record {
      sound = subst (λ x. IsSound x (chars (string_bytes c.take_out-in-EndsBefore.new.text)))
          (sym c.replace-last.ensures.after) (ap chars c.take_out-in-EndsBefore.ensures.left ∙ chars-nil);
    }

pub returns-in-Goes-clause-advance : goal.returns-in-Goes-clause-advance
returns-in-Goes-clause-advance c =
    let p = c.args.self.now in
    let t = turned c.args.table.now c.args.foreign p.place (chars (string_bytes p.held)) c.args.c
    (chars (string_bytes c.markup_turn.new.held)) _ c.in-Ok.done c.in-Some.turn
    (Goes c.in-Goes.next) c.in-Ok.ensures.turns c.in-Some.is c.in-Goes.is in
    t

pub returns-in-Ends-clause-advance : goal.returns-in-Ends-clause-advance
returns-in-Ends-clause-advance c =
    let p = c.args.self.now in
    let held = chars (string_bytes p.held) in
    let t = turned c.args.table.now c.args.foreign p.place held c.args.c
    (chars (string_bytes c.markup_turn.new.held)) _ c.in-Ok.done c.in-Some.turn
    (Ends c.in-Ends.last) c.in-Ok.ensures.turns c.in-Some.is c.in-Ends.is in
    let same = ap (λ x. chars (string_bytes x)) c.take_out.ensures.taken in
    λ asked mode e. (
      subst (λ x. IsTaken c.args.table.now asked mode p.place held c.args.c c.in-Ends.last x) (sym same)
          (t asked mode e).0,
      subst (λ x. IsOver c.args.table.now asked mode c.in-Ends.last x []) (sym same) (t asked mode e).1,
    )

pub returns-in-EndsBefore-clause-advance : goal.returns-in-EndsBefore-clause-advance
returns-in-EndsBefore-clause-advance c =
    let p = c.args.self.now in
    let held = chars (string_bytes p.held) in
    let t = turned c.args.table.now c.args.foreign p.place held c.args.c
    (chars (string_bytes c.markup_turn.new.held)) _ c.in-Ok.done c.in-Some.turn EndsBefore c.in-Ok.ensures.turns
    c.in-Some.is c.in-EndsBefore.is in
    let same = ap (λ x. chars (string_bytes x)) c.take_out-in-EndsBefore.ensures.taken in
    λ asked mode e.
    let over =
    ended_before c.args.table.now asked mode p.place held c.args.c (chars (string_bytes c.markup_turn.new.held))
    (t asked mode e) in (
      c.replace-last.ensures.value,
      (
        same ∙ over.0,
        (
          over.1,
          ended_untagged c.args.table.now asked mode p.place held c.args.c
              (chars (string_bytes c.markup_turn.new.held)) p.sound (t asked mode e),
        ),
      ),
    )

pub returns-in-Goes-clause-kind : goal.returns-in-Goes-clause-kind
returns-in-Goes-clause-kind c =
    kept c.args.self.now.place c.in-Ok.done c.in-Some.turn
    (Goes c.in-Goes.next) c.in-Ok.ensures.kind c.in-Some.is c.in-Goes.is

pub returns-in-Ends-clause-kind : goal.returns-in-Ends-clause-kind
returns-in-Ends-clause-kind c =
    kept c.args.self.now.place c.in-Ok.done c.in-Some.turn
    (Ends c.in-Ends.last) c.in-Ok.ensures.kind c.in-Some.is c.in-Ends.is

pub returns-in-EndsBefore-clause-kind : goal.returns-in-EndsBefore-clause-kind
returns-in-EndsBefore-clause-kind c = λ kind h. subst (IsPlaceOf kind) (sym c.replace-last.ensures.value) h
