use Rattle.std.proofs.Common.{false, refl, ap, ◌∙◌, subst, string_bytes}
use Rattle.std.proofs.lemmas.Str.{chars-nil}
use Rattle.std.specs.Str.{chars}
use Rattle.html_tokenizer.proofs.GoingLemmas.{raw_going_held}
use Rattle.html_tokenizer.proofs.PendingLemmas.{RawTurnsTo, mode_with, some_table}
use Rattle.html_tokenizer.proofs.pending.Pending.take_raw.Goals as goal

pub invariant_of-self : goal.invariant_of-self
invariant_of-self c = record { sound = ap chars c.clear.ensures.bytes ∙ chars-nil }

pub invariant_of-self-in-Goes : goal.invariant_of-self-in-Goes
invariant_of-self-in-Goes c =
    let t = subst (λ x. RawTurnsTo c.args.last.now c.args.kind (chars (string_bytes c.args.self.now.held)) c.args.c
    (chars (string_bytes c.raw_turn.new.held)) x) c.in-Goes.is c.in-Ok.ensures in
    record {
      sound = raw_going_held c.args.last.now c.args.kind c.in-Goes.next
          (chars (string_bytes c.raw_turn.new.held)) (t some_table false (mode_with c.args.last.now) refl).1;
    }

pub invariant_of-self-in-Before : goal.invariant_of-self-in-Before
invariant_of-self-in-Before c = record { sound = ap chars c.take_out.ensures.left ∙ chars-nil }

pub invariant_of-self-in-Shifts : goal.invariant_of-self-in-Shifts
invariant_of-self-in-Shifts c =
    let t = subst (λ x. RawTurnsTo c.args.last.now c.args.kind (chars (string_bytes c.args.self.now.held)) c.args.c
    (chars (string_bytes c.raw_turn.new.held)) x) c.in-Shifts.is c.in-Ok.ensures in
    record {
      sound = raw_going_held c.args.last.now c.in-Shifts.trailing c.in-Shifts.next
          (chars (string_bytes c.raw_turn.new.held)) (t some_table false (mode_with c.args.last.now) refl).1;
    }

pub invariant_of-self-in-EndTag : goal.invariant_of-self-in-EndTag
invariant_of-self-in-EndTag c =
    let t = subst (λ x. RawTurnsTo c.args.last.now c.args.kind (chars (string_bytes c.args.self.now.held)) c.args.c
    (chars (string_bytes c.raw_turn.new.held)) x) c.in-EndTag.is c.in-Ok.ensures in
    record { sound = (t some_table false (mode_with c.args.last.now) refl).in_name }

pub returns-in-Goes : goal.returns-in-Goes
returns-in-Goes c =
    let t = subst (λ x. RawTurnsTo c.args.last.now c.args.kind (chars (string_bytes c.args.self.now.held)) c.args.c
    (chars (string_bytes c.raw_turn.new.held)) x) c.in-Goes.is c.in-Ok.ensures in
    λ table foreign mode e. ((t table foreign mode e).0, (refl, (t table foreign mode e).1))

pub returns-in-Before : goal.returns-in-Before
returns-in-Before c =
    let t = subst (λ x. RawTurnsTo c.args.last.now c.args.kind (chars (string_bytes c.args.self.now.held)) c.args.c
    (chars (string_bytes c.raw_turn.new.held)) x) c.in-Before.is c.in-Ok.ensures in
    λ table foreign mode e. (
      refl,
      (
        ap chars c.take_out.ensures.left ∙ chars-nil,
        (
          ap (λ x. chars (string_bytes x)) c.take_out.ensures.taken ∙ (t table foreign mode e).0,
          (t table foreign mode e).1,
        ),
      ),
    )

pub returns-in-Shifts : goal.returns-in-Shifts
returns-in-Shifts c =
    let t = subst (λ x. RawTurnsTo c.args.last.now c.args.kind (chars (string_bytes c.args.self.now.held)) c.args.c
    (chars (string_bytes c.raw_turn.new.held)) x) c.in-Shifts.is c.in-Ok.ensures in
    λ table foreign mode e. ((t table foreign mode e).0, (refl, (t table foreign mode e).1))

pub returns-in-EndTag : goal.returns-in-EndTag
returns-in-EndTag c =
    let t = subst (λ x. RawTurnsTo c.args.last.now c.args.kind (chars (string_bytes c.args.self.now.held)) c.args.c
    (chars (string_bytes c.raw_turn.new.held)) x) c.in-EndTag.is c.in-Ok.ensures in
    λ table foreign mode e. (t table foreign mode e, refl)
