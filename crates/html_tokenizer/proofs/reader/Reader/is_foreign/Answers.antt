use Rattle.std.proofs.Common.{refl, ap, ◌∙◌}
use Rattle.std.proofs.lemmas.Str.{chars-nil}
use Rattle.std.specs.Str.{chars}
use Rattle.token_grammar.specs.Items.{characters}
use Rattle.html_tokenizer.proofs.EmitsLemmas.{emits_same}
use Rattle.html_tokenizer.proofs.reader.Reader.is_foreign.Goals as goal

pub returns-clause-state : goal.returns-clause-state
returns-clause-state g c =
    let s = g.S.TokenSink.state c.emit_run.new.sink in
    ap (λ x. g.S.TokenSink.means.step s (characters x)) (ap chars c.in_ok-emit_run.ensures.run ∙ chars-nil)
    ∙ (g.met.S.TokenSink.lawful.skips s ∙ c.in_ok-emit_run.ensures.emitted)

pub returns-in_default-clause-emits : goal.returns-in_default-clause-emits
returns-in_default-clause-emits g c =
    emits_same g.S.TokenSink.means (g.S.TokenSink.state c.args.sink.now) (g.S.TokenSink.state c.args.sink.now) refl
