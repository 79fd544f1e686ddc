use Rattle.std.proofs.Common.{◌≡◌, [], refl, ap, sym, ◌∙◌, string_bytes}
use Rattle.std.proofs.lemmas.Str.{chars-nil}
use Rattle.std.specs.Str.{chars}
use Rattle.token_grammar.specs.Items.{characters}
use Rattle.html_tokenizer.proofs.ReadsLemmas.{empty_bytes}
use Rattle.html_tokenizer.proofs.EmitsLemmas.{emits_item, emits_same}
use Rattle.html_tokenizer.proofs.reader.Reader.emit_run.Goals as goal

pub returns-then-is_empty-clause-emitted : goal.returns-then-is_empty-clause-emitted
returns-then-is_empty-clause-emitted g c =
    let s = g.S.TokenSink.state c.args.sink.now in
    let n : string_bytes c.args.self.now.run ≡ [] =
    empty_bytes c.args.self.now.run c.is_empty.result c.is_empty.ensures c.if-is_empty.true in
    sym (g.met.S.TokenSink.lawful.skips s) ∙ ap (λ l. g.S.TokenSink.means.step s (characters l))
    (sym (ap chars n ∙ chars-nil))

pub returns-then-is_empty-clause-emits : goal.returns-then-is_empty-clause-emits
returns-then-is_empty-clause-emits g c =
    emits_same g.S.TokenSink.means (g.S.TokenSink.state c.args.sink.now) (g.S.TokenSink.state c.args.sink.now) refl

pub returns-clause-emits : goal.returns-clause-emits
returns-clause-emits g c =
    emits_item g.S.TokenSink.means g.met.S.TokenSink.lawful.answers (g.S.TokenSink.state c.args.sink.now)
    (g.S.TokenSink.state c.process_token.new.self) _ (λ h. h) c.in_ok-process_token.ensures.state
