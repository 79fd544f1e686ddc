use Rattle.std.proofs.Common.{string_bytes}
use Rattle.std.specs.Str.{chars}
use Rattle.token_grammar.specs.Items.{characters, error}
use Rattle.html_tokenizer.proofs.ReadyLemmas.{ready_after}
use Rattle.html_tokenizer.proofs.EmitsLemmas.{alike_more, emits_item, emits_then}
use Rattle.html_tokenizer.proofs.reader.Reader.emit_errors.Goals as goal

pub errors-preserved : goal.errors-preserved
errors-preserved g c =
    let means = g.S.TokenSink.means in
    let lawful = g.met.S.TokenSink.lawful in
    let before = g.S.TokenSink.state c.errors.sink in
    let after = g.S.TokenSink.state c.process_token.new.self in
    record {
      ready = ready_after means g.S.TokenSink.ready g.S.TokenSink.welcomes lawful g.met.S.TokenSink.hearing _ before
          after error c.errors.invariant.ready tt tt c.in_ok-process_token.ensures.state;
      alike = alike_more means g.S.TokenSink.ready lawful
          (means.step (g.S.TokenSink.state c.args.sink.now) (characters (chars (string_bytes c.args.self.now.run))))
          before after c.errors.invariant.alike c.in_ok-process_token.ensures.state;
      emits = emits_then means (g.S.TokenSink.state c.args.sink.now) before after c.errors.invariant.emits
          (emits_item means lawful.answers before after _ (λ h. h) c.in_ok-process_token.ensures.state);
    }
