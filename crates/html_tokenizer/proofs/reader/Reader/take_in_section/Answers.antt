use Rattle.std.proofs.Common.{refl, ap, sym, ◌∙◌, ◌∷◌, [], ◌++◌, map, string_bytes, subst}
use Rattle.std.proofs.lemmas.Str.{IsUtf8-string_bytes}
use Rattle.std.specs.Str.{chars}
use Rattle.token_grammar.specs.Items.{characters}
use Rattle.token_grammar.specs.Lexemes.{ordinary_item}
use Rattle.std.specs.List.{fold}
use Rattle.html_tokenizer.specs.Reads.{Leaves}
use Rattle.token_states.specs.SectionTurns.{SectionAdvances}
use Rattle.html_tokenizer.proofs.GoingLemmas.{section_going}
use Rattle.html_tokenizer.proofs.PendingLemmas.{some_mode}
use Rattle.html_tokenizer.proofs.RawReads.{section_more, section_on}
use Rattle.html_tokenizer.proofs.ReadsLemmas.{on_ok_four, pushed_one}
use Rattle.html_tokenizer.proofs.EmitsLemmas.{emits_same}
use Rattle.html_tokenizer.proofs.reader.Reader.take_in_section.Goals as goal

pub read_section_text-requires-clause-place : goal.read_section_text-requires-clause-place
read_section_text-requires-clause-place g c =
    let r = c.args.self.now in
    let now = c.take_in_section.new.self in
    (subst (λ x. SectionAdvances some_mode (chars (string_bytes r.pending.held)) c.args.c x now.place
    (chars (string_bytes now.held))) c.in-Text.is (c.in_ok-take_in_section.ensures some_mode)).0

pub returns-in-Goes-clause-reads : goal.returns-in-Goes-clause-reads
returns-in-Goes-clause-reads g c = λ table rest final l.
    let r = c.args.self.now in
    let now = c.take_in_section.new.self in
    section_on table g.S.TokenSink.means r.mode r.pending.place now.place (chars (string_bytes r.pending.held))
    (chars (string_bytes now.held)) c.args.c rest
    (g.S.TokenSink.means.step (g.S.TokenSink.state c.args.sink.now) (characters (chars (string_bytes r.run)))) final
    c.in_ok-take_in_section.field-0 c.in-Goes.is c.requires.place (c.in_ok-take_in_section.ensures r.mode) l

pub returns-in_ok-push-in-Shifts-clause-reads : goal.returns-in_ok-push-in-Shifts-clause-reads
returns-in_ok-push-in-Shifts-clause-reads g c = λ table rest final l.
    let r = c.args.self.now in
    let now = c.take_in_section.new.self in
    let held = chars (string_bytes r.pending.held) in
    let s0 = g.S.TokenSink.state c.args.sink.now in
    let a = subst (λ x. SectionAdvances r.mode held c.args.c x now.place (chars (string_bytes now.held))) c.in-Shifts.is
    (c.in_ok-take_in_section.ensures r.mode) in
    section_more table g.S.TokenSink.means r.mode r.pending.place now.place held
    (chars (string_bytes now.held)) held c.args.c rest (characters (93 ∷ []) ∷ [])
    (g.S.TokenSink.means.step s0 (characters (chars (string_bytes r.run))))
    (g.S.TokenSink.means.step s0 (characters (chars (string_bytes c.push.new.self)))) final c.requires.place a.0
    a.1.0 (a.1.1 rest)
    (ap (λ x. g.S.TokenSink.means.step s0 (characters x))
    (pushed_one (string_bytes r.run) (string_bytes c.push.new.self) 93
    (IsUtf8-string_bytes r.run) refl c.in_ok-push-in-Shifts.ensures.bytes) ∙
    sym (g.met.S.TokenSink.lawful.joins s0 (chars (string_bytes r.run)) (93 ∷ []))) l

pub returns-in-Text-clause-reads : goal.returns-in-Text-clause-reads
returns-in-Text-clause-reads g c =
    let r = c.args.self.now in
    let now = c.take_in_section.new.self in
    let after = c.read_section_text.new.self in
    let held = chars (string_bytes r.pending.held) in
    let s0 = g.S.TokenSink.state c.args.sink.now in
    let a = subst (λ x. SectionAdvances r.mode held c.args.c x now.place (chars (string_bytes now.held))) c.in-Text.is
    (c.in_ok-take_in_section.ensures r.mode) in
    let s = g.S.TokenSink.means.step s0 (characters (chars (string_bytes r.run))) in
    on_ok_four c.read_section_text.result c.read_section_text.ensures.emitted c.read_section_text.ensures.mode
    c.read_section_text.ensures.place c.read_section_text.ensures.held (λ t m p h table rest final l.
    section_more table g.S.TokenSink.means r.mode r.pending.place after.pending.place held
    (chars (string_bytes after.pending.held)) [] c.args.c rest (map ordinary_item (held ++ c.args.c ∷ []))
    s (g.S.TokenSink.means.step (g.S.TokenSink.state c.read_section_text.new.sink)
    (characters (chars (string_bytes after.run)))) final c.requires.place p h (a.1.1 rest)
    (t ∙ ap (λ x. fold g.S.TokenSink.means.step s (map ordinary_item (x ++ c.args.c ∷ []))) a.1.0)
    (subst (λ x. Leaves table g.S.TokenSink.means x after.pending.place (chars (string_bytes after.pending.held)
    ++ rest) (g.S.TokenSink.means.step (g.S.TokenSink.state c.read_section_text.new.sink)
    (characters (chars (string_bytes after.run)))) final) m l))

pub returns-in-Goes-clause-holds : goal.returns-in-Goes-clause-holds
returns-in-Goes-clause-holds g c = λ table.
    let r = c.args.self.now in
    let now = c.take_in_section.new.self in
    section_going table r.mode.last_start_tag r.mode
    (chars (string_bytes r.pending.held)) c.args.c c.in_ok-take_in_section.field-0 now.place
    (chars (string_bytes now.held)) (c.in_ok-take_in_section.ensures r.mode) now.sound

pub returns-in-Goes-clause-emits : goal.returns-in-Goes-clause-emits
returns-in-Goes-clause-emits g c =
    emits_same g.S.TokenSink.means (g.S.TokenSink.state c.args.sink.now) (g.S.TokenSink.state c.args.sink.now) refl

pub returns-in_ok-push-in-Shifts-clause-holds : goal.returns-in_ok-push-in-Shifts-clause-holds
returns-in_ok-push-in-Shifts-clause-holds g c = λ table.
    let r = c.args.self.now in
    let now = c.take_in_section.new.self in
    section_going table r.mode.last_start_tag r.mode
    (chars (string_bytes r.pending.held)) c.args.c c.in_ok-take_in_section.field-0 now.place
    (chars (string_bytes now.held)) (c.in_ok-take_in_section.ensures r.mode) now.sound

pub returns-in_ok-push-in-Shifts-clause-emits : goal.returns-in_ok-push-in-Shifts-clause-emits
returns-in_ok-push-in-Shifts-clause-emits g c =
    emits_same g.S.TokenSink.means (g.S.TokenSink.state c.args.sink.now) (g.S.TokenSink.state c.args.sink.now) refl
