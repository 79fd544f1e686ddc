use Rattle.std.proofs.Common.{refl, ap, ◌∙◌, ◌∷◌, [], ◌++◌, string_bytes, subst}
use Rattle.std.proofs.lemmas.Str.{chars-append, chars-nil, IsUtf8-string_bytes}
use Rattle.std.proofs.lemmas.Bool.{ne_eqb}
use Rattle.std.specs.Prelude.{not}
use Rattle.std.specs.Str.{chars}
use Rattle.token_grammar.specs.Items.{characters}
use Rattle.token_states.specs.Sound.{IsSound}
use Rattle.html_tokenizer.proofs.PendingLemmas.{some_table}
use Rattle.html_tokenizer.proofs.RawReads.{begun_plain, section_character, section_null}
use Rattle.html_tokenizer.proofs.ReadsLemmas.{on_ok_map, on_ok_two}
use Rattle.html_tokenizer.proofs.reader.Reader.read_section_text.Goals as goal

pub returns-then-c-eq0-clause-emitted : goal.returns-then-c-eq0-clause-emitted
returns-then-c-eq0-clause-emitted g c =
    let r = c.args.self.now in
    let held = chars (string_bytes r.pending.held) in
    let sound = subst (λ x. IsSound x held) c.requires.place r.pending.sound in
    let pushed =
    ap chars (c.in_ok-push_str.ensures.bytes ∙ ap (λ x. string_bytes r.run ++ x)
    (c.as_str.ensures.value ∙ ap string_bytes c.take_held-held.ensures.taken)) ∙
    chars-append (string_bytes r.run) (string_bytes r.pending.held) (IsUtf8-string_bytes r.run) in
    on_ok_two c.emit_null.result c.emit_null.ensures.emitted c.emit_null.ensures.run (λ t n.
    section_null some_table g.S.TokenSink.means held (chars (string_bytes r.run))
    (chars (string_bytes c.push_str.new.self)) (chars (string_bytes c.emit_null.new.self.run)) c.args.c
    (g.S.TokenSink.state c.args.sink.now) (g.S.TokenSink.state c.emit_null.new.sink)
    g.met.S.TokenSink.lawful.joins g.met.S.TokenSink.lawful.skips
    (begun_plain (93 ∷ 93 ∷ 62 ∷ []) held sound refl) pushed c.if-c-eq0.true t (ap chars n ∙ chars-nil))

pub returns-clause-emitted : goal.returns-clause-emitted
returns-clause-emitted g c =
    let r = c.args.self.now in
    let held = chars (string_bytes r.pending.held) in
    let sound = subst (λ x. IsSound x held) c.requires.place r.pending.sound in
    let pushed =
    ap chars (c.in_ok-push_str.ensures.bytes ∙ ap (λ x. string_bytes r.run ++ x)
    (c.as_str.ensures.value ∙ ap string_bytes c.take_held-held.ensures.taken)) ∙
    chars-append (string_bytes r.run) (string_bytes r.pending.held) (IsUtf8-string_bytes r.run) in
    on_ok_map c.read_text.result c.read_text.ensures.emitted (λ t.
    section_character some_table g.S.TokenSink.means held (chars (string_bytes r.run))
    (chars (string_bytes c.push_str.new.self)) c.args.c (g.S.TokenSink.state c.args.sink.now)
    (g.S.TokenSink.means.step (g.S.TokenSink.state c.read_text.new.sink)
    (characters (chars (string_bytes c.read_text.new.self.run))))
    g.met.S.TokenSink.lawful.joins g.met.S.TokenSink.lawful.skips
    (begun_plain (93 ∷ 93 ∷ 62 ∷ []) held sound refl) pushed t (ap not (ne_eqb c.args.c 0 c.if-c-eq0.false)))
