use Rattle.std.proofs.Common.{false, refl, ap, sym, ◌∙◌, ◌++◌, string_bytes, subst}
use Rattle.std.proofs.lemmas.Str.{chars-append, IsUtf8-string_bytes}
use Rattle.std.specs.Str.{chars}
use Rattle.token_grammar.specs.Items.{characters}
use Rattle.html_tokenizer.specs.Advances.{RawAdvances}
use Rattle.token_states.specs.PlaceKinds.{IsPlaceOf, IsWithinMarkup}
use Rattle.token_grammar.specs.declared.modes.TextKind.TheVariants.{Raw}
use Rattle.token_grammar.proofs.KindLemmas.{ready_of}
use Rattle.html_tokenizer.proofs.GoingLemmas.{within_markup}
use Rattle.html_tokenizer.proofs.PendingLemmas.{raw_place, some_table}
use Rattle.html_tokenizer.proofs.RawReads.{raw_before, raw_end_tag, raw_goes, raw_shifts}
use Rattle.html_tokenizer.proofs.EmitsLemmas.{emits_same}
use Rattle.html_tokenizer.proofs.reader.Reader.take_in_raw_text.Goals as goal

pub begin-requires-clause-place : goal.begin-requires-clause-place
begin-requires-clause-place g c =
    let r = c.args.self.now in
    (subst (λ x. RawAdvances some_table false r.mode c.in-RawText.kind
    (chars (string_bytes r.pending.held)) c.args.c x c.take_raw.new.self.place
    (chars (string_bytes c.take_raw.new.self.held))) c.in-Before.is
    (c.in_ok-take_raw.ensures some_table false r.mode refl)).0

pub returns-in-Goes-clause-reads : goal.returns-in-Goes-clause-reads
returns-in-Goes-clause-reads g c = λ table rest final l.
    let r = c.args.self.now in
    let now = c.take_raw.new.self in
    let a = subst
    (λ x. RawAdvances table false r.mode c.in-RawText.kind
    (chars (string_bytes r.pending.held)) c.args.c x now.place (chars (string_bytes now.held))) c.in-Goes.is
    (c.in_ok-take_raw.ensures table false r.mode refl) in
    raw_goes table g.S.TokenSink.means r.mode c.in-RawText.kind c.in-RawText.place r.pending.place now.place
    (chars (string_bytes r.pending.held)) (chars (string_bytes now.held)) c.args.c rest
    (g.S.TokenSink.means.step (g.S.TokenSink.state c.args.sink.now) (characters (chars (string_bytes r.run)))) final
    (sym c.place.ensures ∙ c.in-RawText.is) a.1.0 a.0 l

pub returns-in_ok-begin-in-Before-clause-reads : goal.returns-in_ok-begin-in-Before-clause-reads
returns-in_ok-begin-in-Before-clause-reads g c = λ table rest final l.
    let r = c.args.self.now in
    let now = c.take_raw.new.self in
    let a = subst
    (λ x. RawAdvances table false r.mode c.in-RawText.kind
    (chars (string_bytes r.pending.held)) c.args.c x now.place (chars (string_bytes now.held))) c.in-Before.is
    (c.in_ok-take_raw.ensures table false r.mode refl) in
    raw_before table g.S.TokenSink.means r.mode c.in-RawText.kind c.in-Before.trailing c.in-RawText.place r.pending.place
    now.place (chars (string_bytes r.pending.held)) (chars (string_bytes now.held))
    (chars (string_bytes c.in-Before.text)) (chars (string_bytes r.run))
    (chars (string_bytes c.push_str.new.self)) c.args.c rest
    (g.S.TokenSink.state c.args.sink.now) final g.met.S.TokenSink.lawful.joins g.met.S.TokenSink.lawful.skips
    (sym c.place.ensures ∙ c.in-RawText.is) a.0 a.1.0 a.1.1.0
    (ap chars (c.in_ok-push_str-in-Before.ensures.bytes ∙ ap (λ x. string_bytes r.run ++ x) c.as_str.ensures.value) ∙
    chars-append (string_bytes r.run) (string_bytes c.in-Before.text) (IsUtf8-string_bytes r.run)) a.1.1.1
    (c.in_ok-begin-in-Before.ensures.reads table rest final l)

pub returns-in_ok-push_str-in-Shifts-clause-reads : goal.returns-in_ok-push_str-in-Shifts-clause-reads
returns-in_ok-push_str-in-Shifts-clause-reads g c = λ table rest final l.
    let r = c.args.self.now in
    let now = c.take_raw.new.self in
    let a = subst
    (λ x. RawAdvances table false r.mode c.in-RawText.kind
    (chars (string_bytes r.pending.held)) c.args.c x now.place (chars (string_bytes now.held))) c.in-Shifts.is
    (c.in_ok-take_raw.ensures table false r.mode refl) in
    raw_shifts table g.S.TokenSink.means r.mode c.in-RawText.kind c.in-Shifts.trailing c.in-RawText.place r.pending.place
    now.place (chars (string_bytes r.pending.held)) (chars (string_bytes now.held)) (chars c.in-Shifts.text.now)
    (chars (string_bytes r.run)) (chars (string_bytes c.push_str-in-Shifts.new.self)) c.args.c rest
    (g.S.TokenSink.state c.args.sink.now) final g.met.S.TokenSink.lawful.joins g.met.S.TokenSink.lawful.skips
    (sym c.place.ensures ∙ c.in-RawText.is) a.1.0
    (ap chars c.in_ok-push_str-in-Shifts.ensures.bytes ∙ chars-append (string_bytes r.run) c.in-Shifts.text.now
    (IsUtf8-string_bytes r.run)) a.0 l

pub returns-in-EndTag-clause-place : goal.returns-in-EndTag-clause-place
returns-in-EndTag-clause-place g c =
    let r = c.args.self.now in
    let now = c.take_raw.new.self in
    let a = subst
    (λ x. RawAdvances some_table false r.mode c.in-RawText.kind
    (chars (string_bytes r.pending.held)) c.args.c x now.place (chars (string_bytes now.held))) c.in-EndTag.is
    (c.in_ok-take_raw.ensures some_table false r.mode refl) in
    λ _. subst IsWithinMarkup (sym a.1) tt

pub returns-in-EndTag-clause-reads : goal.returns-in-EndTag-clause-reads
returns-in-EndTag-clause-reads g c = λ table rest final l.
    let r = c.args.self.now in
    let now = c.take_raw.new.self in
    let s = g.S.TokenSink.means.step (g.S.TokenSink.state c.args.sink.now) (characters (chars (string_bytes r.run))) in
    let f = g.S.TokenSink.means.foreign s in
    let a = subst
    (λ x. RawAdvances table f r.mode c.in-RawText.kind
    (chars (string_bytes r.pending.held)) c.args.c x now.place (chars (string_bytes now.held))) c.in-EndTag.is
    (c.in_ok-take_raw.ensures table f r.mode refl) in
    raw_end_tag table g.S.TokenSink.means r.mode c.in-RawText.kind c.in-RawText.place r.pending.place now.place
    (chars (string_bytes r.pending.held)) (chars (string_bytes now.held)) c.args.c rest s final
    (sym c.place.ensures ∙ c.in-RawText.is) a.1 a.0 l

pub returns-in-Goes-clause-emits : goal.returns-in-Goes-clause-emits
returns-in-Goes-clause-emits g c =
    emits_same g.S.TokenSink.means (g.S.TokenSink.state c.args.sink.now) (g.S.TokenSink.state c.args.sink.now) refl

pub returns-in_ok-push_str-in-Shifts-clause-emits : goal.returns-in_ok-push_str-in-Shifts-clause-emits
returns-in_ok-push_str-in-Shifts-clause-emits g c =
    emits_same g.S.TokenSink.means (g.S.TokenSink.state c.args.sink.now) (g.S.TokenSink.state c.args.sink.now) refl

pub returns-in-EndTag-clause-emits : goal.returns-in-EndTag-clause-emits
returns-in-EndTag-clause-emits g c =
    emits_same g.S.TokenSink.means (g.S.TokenSink.state c.args.sink.now) (g.S.TokenSink.state c.args.sink.now) refl

pub returns-in-Goes-clause-holds : goal.returns-in-Goes-clause-holds
returns-in-Goes-clause-holds g c = λ table _.
    let r = c.args.self.now in
    let now = c.take_raw.new.self in
    (subst (λ x. RawAdvances table false r.mode c.in-RawText.kind
    (chars (string_bytes r.pending.held)) c.args.c x now.place (chars (string_bytes now.held))) c.in-Goes.is
    (c.in_ok-take_raw.ensures table false r.mode refl)).1.1

pub returns-in_ok-push_str-in-Shifts-clause-holds : goal.returns-in_ok-push_str-in-Shifts-clause-holds
returns-in_ok-push_str-in-Shifts-clause-holds g c = λ table _.
    let r = c.args.self.now in
    let now = c.take_raw.new.self in
    (subst (λ x. RawAdvances table false r.mode c.in-RawText.kind
    (chars (string_bytes r.pending.held)) c.args.c x now.place (chars (string_bytes now.held))) c.in-Shifts.is
    (c.in_ok-take_raw.ensures table false r.mode refl)).1.1

pub returns-in_default : goal.returns-in_default
returns-in_default g c = record {
  memory = tt;
  placed = c.requires.placed;
  ready = c.requires.ready;
  holds = λ table e. absurd (let k = e in cc);
  emits = emits_same g.S.TokenSink.means (g.S.TokenSink.state c.args.sink.now)
      (g.S.TokenSink.state c.args.sink.now) refl;
  place = λ _. within_markup c.args.self.now.pending.place c.requires.place
      (λ kind place e. c.in_default.not-RawText kind place (c.place.ensures ∙ e));
  reads = λ table rest final l. l;
}

pub begin-requires-clause-ready : goal.begin-requires-clause-ready
begin-requires-clause-ready g c =
    ready_of g.S.TokenSink.ready g.S.TokenSink.welcomes c.args.self.now.mode.text (Raw c.in-Before.trailing)
    (g.S.TokenSink.state c.args.sink.now) (λ h. absurd h) c.requires.ready

pub returns-in_ok-push_str-in-Shifts-clause-ready : goal.returns-in_ok-push_str-in-Shifts-clause-ready
returns-in_ok-push_str-in-Shifts-clause-ready g c =
    ready_of g.S.TokenSink.ready g.S.TokenSink.welcomes c.args.self.now.mode.text (Raw c.in-Shifts.trailing)
    (g.S.TokenSink.state c.args.sink.now) (λ h. absurd h) c.requires.ready

pub returns-in-Goes-clause-placed : goal.returns-in-Goes-clause-placed
returns-in-Goes-clause-placed g c =
    let r = c.args.self.now in
    let now = c.take_raw.new.self in
    let a = subst
    (λ x. RawAdvances some_table false r.mode c.in-RawText.kind
    (chars (string_bytes r.pending.held)) c.args.c x now.place (chars (string_bytes now.held))) c.in-Goes.is
    (c.in_ok-take_raw.ensures some_table false r.mode refl) in
    raw_place r.mode.text c.in-RawText.kind now.place a.1.0

pub returns-in_ok-push_str-in-Shifts-clause-placed : goal.returns-in_ok-push_str-in-Shifts-clause-placed
returns-in_ok-push_str-in-Shifts-clause-placed g c =
    let r = c.args.self.now in
    let now = c.take_raw.new.self in
    let a = subst
    (λ x. RawAdvances some_table false r.mode c.in-RawText.kind
    (chars (string_bytes r.pending.held)) c.args.c x now.place (chars (string_bytes now.held))) c.in-Shifts.is
    (c.in_ok-take_raw.ensures some_table false r.mode refl) in
    raw_place (Raw c.in-Shifts.trailing) c.in-Shifts.trailing now.place a.1.0

pub returns-in-EndTag-clause-placed : goal.returns-in-EndTag-clause-placed
returns-in-EndTag-clause-placed g c =
    let r = c.args.self.now in
    let now = c.take_raw.new.self in
    let a = subst
    (λ x. RawAdvances some_table false r.mode c.in-RawText.kind
    (chars (string_bytes r.pending.held)) c.args.c x now.place (chars (string_bytes now.held))) c.in-EndTag.is
    (c.in_ok-take_raw.ensures some_table false r.mode refl) in
    subst (IsPlaceOf r.mode.text) (sym a.1) tt
