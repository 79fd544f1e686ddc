use Rattle.html_tokenizer.proofs.EmitsLemmas.{emits_item, emits_then}
use Rattle.html_tokenizer.proofs.reader.Reader.emit_null.Goals as goal

pub returns-clause-emits : goal.returns-clause-emits
returns-clause-emits g c =
    let s = g.S.TokenSink.state c.emit_errors.new.sink in
    let t = g.S.TokenSink.state c.process_token.new.self in
    emits_then g.S.TokenSink.means (g.S.TokenSink.state c.args.sink.now) s t c.in_ok-emit_errors.ensures.emits
    (emits_item g.S.TokenSink.means g.met.S.TokenSink.lawful.answers s t _ (λ h. h) c.in_ok-process_token.ensures.state)
