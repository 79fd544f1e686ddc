use Rattle.std.proofs.Common.{[], refl, ap, ◌∙◌, string_bytes}
use Rattle.std.proofs.lemmas.Str.{chars-nil}
use Rattle.std.specs.Str.{chars}
use Rattle.token_grammar.specs.Items.{characters}
use Rattle.html_tokenizer.proofs.GoingLemmas.{going_sound}
use Rattle.html_tokenizer.proofs.PendingLemmas.{some_table}
use Rattle.html_tokenizer.proofs.ReadsLemmas.{held_none, null_read, opened_read, raw_opened, text_read}
use Rattle.html_tokenizer.proofs.EmitsLemmas.{emits_same}
use Rattle.html_tokenizer.proofs.reader.Reader.begin.Goals as goal

pub returns-in_ok-read_text-in-Text-clause-reads : goal.returns-in_ok-read_text-in-Text-clause-reads
returns-in_ok-read_text-in-Text-clause-reads g c = λ table rest final l.
    let r = c.args.self.now in
    let e = c.read_text.ensures in
    text_read table g.S.TokenSink.means r.mode r.pending.place
    (chars (string_bytes r.pending.held)) c.args.c c.in-Text.shown rest
    (g.S.TokenSink.means.step (g.S.TokenSink.state c.args.sink.now) (characters (chars (string_bytes r.run))))
    (g.S.TokenSink.means.step (g.S.TokenSink.state c.read_text.new.sink)
    (characters (chars (string_bytes c.read_text.new.self.run)))) final
    c.requires.place (held_none r.pending c.requires.place) c.in_ok-read_text-in-Text.ensures.emitted
    (λ f. c.in-Text.ensures.first.1 table f r.mode rest refl refl)
    (rw (e.mode, e.pending) at l)

pub returns-in_ok-emit_null-in-Null-clause-reads : goal.returns-in_ok-emit_null-in-Null-clause-reads
returns-in_ok-emit_null-in-Null-clause-reads g c = λ table rest final l.
    let r = c.args.self.now in
    let e = c.emit_null.ensures in
    null_read table g.S.TokenSink.means r.mode r.pending.place (chars (string_bytes r.pending.held)) c.args.c rest
    (chars (string_bytes c.emit_null.new.self.run))
    (g.S.TokenSink.means.step (g.S.TokenSink.state c.args.sink.now) (characters (chars (string_bytes r.run))))
    (g.S.TokenSink.state c.emit_null.new.sink) final
    g.met.S.TokenSink.lawful.skips c.requires.place (held_none r.pending c.requires.place)
    (ap chars c.in_ok-emit_null-in-Null.ensures.run ∙ chars-nil)
    (λ f. c.in-Null.ensures.first table f r.mode rest refl refl) c.in_ok-emit_null-in-Null.ensures.emitted
    (rw (e.mode, e.pending) at l)

pub returns-in_ok-open_raw-in-OpensRaw-clause-reads : goal.returns-in_ok-open_raw-in-OpensRaw-clause-reads
returns-in_ok-open_raw-in-OpensRaw-clause-reads g c = λ table rest final l.
    let r = c.args.self.now in
    raw_opened table g.S.TokenSink.means r.mode c.in-OpensRaw.kind c.in-OpensRaw.place r.pending.place
    c.open_raw.new.self.place (chars (string_bytes r.pending.held))
    (chars (string_bytes c.open_raw.new.self.held)) c.args.c rest
    (g.S.TokenSink.means.step (g.S.TokenSink.state c.args.sink.now) (characters (chars (string_bytes r.run)))) final
    c.in-OpensRaw.ensures.first.0 c.requires.place (held_none r.pending c.requires.place)
    c.in_ok-open_raw-in-OpensRaw.ensures.place c.in_ok-open_raw-in-OpensRaw.ensures.held l

pub open-requires-clause-sound : goal.open-requires-clause-sound
open-requires-clause-sound g c =
    going_sound some_table c.args.self.now.mode.last_start_tag c.in-Opens.place []
    (c.in-Opens.ensures.first.1 some_table)

pub returns-in-Opens-clause-emits : goal.returns-in-Opens-clause-emits
returns-in-Opens-clause-emits g c =
    emits_same g.S.TokenSink.means (g.S.TokenSink.state c.args.sink.now) (g.S.TokenSink.state c.args.sink.now) refl

pub returns-in-Opens-clause-reads : goal.returns-in-Opens-clause-reads
returns-in-Opens-clause-reads g c = λ table rest final l.
    let r = c.args.self.now in
    opened_read table g.S.TokenSink.means r.mode c.in-Opens.place r.pending.place c.open.new.self.place
    (chars (string_bytes r.pending.held)) (chars (string_bytes c.open.new.self.held)) c.args.c rest
    (g.S.TokenSink.means.step (g.S.TokenSink.state c.args.sink.now) (characters (chars (string_bytes r.run)))) final
    c.requires.place (held_none r.pending c.requires.place) c.open.ensures.place c.open.ensures.held
    (λ f. c.in-Opens.ensures.first.0 table f r.mode rest refl) l

pub returns-in_ok-open_raw-in-OpensRaw-clause-emits : goal.returns-in_ok-open_raw-in-OpensRaw-clause-emits
returns-in_ok-open_raw-in-OpensRaw-clause-emits g c =
    emits_same g.S.TokenSink.means (g.S.TokenSink.state c.args.sink.now) (g.S.TokenSink.state c.args.sink.now) refl
