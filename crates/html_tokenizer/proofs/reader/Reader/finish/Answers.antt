use Rattle.std.proofs.Common.{◌≡◌, [], append-nil, sym, ap, ◌∙◌, string_bytes, subst}
use Rattle.std.proofs.lemmas.Str.{chars-nil}
use Rattle.std.specs.Str.{chars}
use Rattle.token_grammar.specs.Items.{characters, end_of_file}
use Rattle.html_tokenizer.specs.Reads.{Leaves}
use Rattle.html_tokenizer.proofs.ReadsLemmas.{leaves_same}
use Rattle.html_tokenizer.proofs.EmitsLemmas.{closed_by}
use Rattle.html_tokenizer.proofs.reader.Reader.finish.Goals as goal

pub returns-clause-reads : goal.returns-clause-reads
returns-clause-reads g c =
    let r = c.args.self.now in
    let table = c.args.table.now in
    let means = g.S.TokenSink.means in
    let first = c.emit_run.new.self in
    let s = means.step (g.S.TokenSink.state c.args.sink.now) (characters (chars (string_bytes r.run))) in
    let s1 = g.S.TokenSink.state c.emit_run.new.sink in
    let s2 = g.S.TokenSink.state c.emit_held.new.sink in
    let final = g.S.TokenSink.state c.process_token.new.self in
    let same =
    ap (λ x. means.step s2 (characters x)) (ap chars c.in_ok-emit_held.ensures.run ∙ chars-nil) ∙
    g.met.S.TokenSink.lawful.skips s2 in
    let last : final ≡ means.step s2 end_of_file =
    c.in_ok-process_token.ensures.state ∙ (c.in_ok-emit_errors.ensures.alike.steps end_of_file tt ∙
    ap (λ x. means.step x end_of_file) same) in
    let held = chars (string_bytes first.pending.held) in
    let emitted = subst (λ x. Leaves table means first.mode first.pending.place x s1 final) (sym (append-nil held))
    (subst (λ x. Leaves table means first.mode first.pending.place held s1 x) (sym last) c.in_ok-emit_held.ensures.emitted)
    in
    closed_by g.S.TokenSink.close _ c.end.result final (g.S.TokenSink.state c.end.new.self)
    (leaves_same table means r.mode first.mode r.pending first.pending []
    s s1 final c.emit_run.ensures.mode c.emit_run.ensures.pending
    c.in_ok-emit_run.ensures.emitted emitted) c.end.ensures.closed
