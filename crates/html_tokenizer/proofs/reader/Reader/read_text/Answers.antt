use Rattle.std.proofs.Common.{[], ◌∷◌, ◌++◌, refl, ap, sym, ◌∙◌, string_bytes}
use Rattle.std.proofs.lemmas.Str.{IsUtf8-string_bytes, chars-nil}
use Rattle.std.specs.Str.{chars}
use Rattle.token_grammar.specs.Items.{characters}
use Rattle.html_tokenizer.proofs.ReadsLemmas.{pushed_one}
use Rattle.html_tokenizer.proofs.EmitsLemmas.{emits_same}
use Rattle.html_tokenizer.proofs.reader.Reader.read_text.Goals as goal

pub returns-then-c-eq10-clause-emits : goal.returns-then-c-eq10-clause-emits
returns-then-c-eq10-clause-emits g c =
    emits_same g.S.TokenSink.means (g.S.TokenSink.state c.args.sink.now) (g.S.TokenSink.state c.args.sink.now) refl

pub returns-then-c-eq10-clause-emitted : goal.returns-then-c-eq10-clause-emitted
returns-then-c-eq10-clause-emitted g c =
    let s = g.S.TokenSink.state c.args.sink.now in
    let run = c.args.self.now.run in
    ap (λ x. g.S.TokenSink.means.step s (characters x))
    (pushed_one (string_bytes run) (string_bytes c.push.new.self) c.args.c
    (IsUtf8-string_bytes run) c.requires.scalar c.in_ok-push.ensures.bytes)
    ∙ sym (g.met.S.TokenSink.lawful.joins s (chars (string_bytes run)) (c.args.c ∷ []))

pub returns-clause-emitted : goal.returns-clause-emitted
returns-clause-emitted g c =
    let s = g.S.TokenSink.state c.emit_errors.new.sink in
    let run = c.emit_errors.new.self.run in
    ap (λ x. g.S.TokenSink.means.step s (characters x))
    (pushed_one (string_bytes run) (string_bytes c.push-2.new.self) c.args.c
    (IsUtf8-string_bytes run) c.requires.scalar c.in_ok-push-2.ensures.bytes
    ∙ ap (λ l. l ++ c.args.c ∷ []) (ap chars c.in_ok-emit_errors.ensures.run ∙ chars-nil))
    ∙ c.in_ok-emit_errors.ensures.alike.steps (characters (c.args.c ∷ [])) c.if-c-eq10.false
