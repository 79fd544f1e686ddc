use Rattle.std.proofs.Common.{ap, ◌∙◌, string_bytes, subst}
use Rattle.std.proofs.lemmas.Bool.{MatchBool-at_true}
use Rattle.std.proofs.lemmas.Str.{chars-nil}
use Rattle.std.specs.List.{fold}
use Rattle.std.specs.Str.{chars}
use Rattle.token_grammar.specs.Items.{characters}
use Rattle.token_grammar.specs.Kinds.{IsReadyFor}
use Rattle.token_grammar.specs.PlainRead.{items_of}
use Rattle.token_grammar.specs.declared.modes.Mode.{Mode}
use Rattle.token_grammar.proofs.KindLemmas.{within_welcome}
use Rattle.html_tokenizer.specs.Emits.{IsFirstAfterError}
use Rattle.html_tokenizer.proofs.ReadsLemmas.{on_ok_map}
use Rattle.html_tokenizer.proofs.EmitsLemmas.{alike_items, emits_all, emits_then}
use Rattle.html_tokenizer.proofs.reader.Reader.emit_items.Goals as goal

pub returns-then-not-may_follow_error-clause-emits : goal.returns-then-not-may_follow_error-clause-emits
returns-then-not-may_follow_error-clause-emits g c = on_ok_map c.emit_tokens.result c.emit_tokens.ensures.emitted (λ t.
    emits_all g.S.TokenSink.means g.met.S.TokenSink.lawful.answers (g.S.TokenSink.state c.args.sink.now)
    (g.S.TokenSink.state c.emit_tokens.new.sink) (items_of c.args.tokens.items) c.requires.untagged t)

pub returns-clause-emitted : goal.returns-clause-emitted
returns-clause-emitted g c =
    let means = g.S.TokenSink.means in
    let old = g.S.TokenSink.state c.args.sink.now in
    let items = items_of c.args.tokens.items in
    let first =
    subst (λ x. IsFirstAfterError (items_of x)) c.as_slice.ensures.value
    (MatchBool-at_true _ _ c.if-not-may_follow_error.false c.may_follow_error.ensures) in
    let same =
    ap (λ x. means.step old (characters x)) (ap chars c.requires.run ∙ chars-nil) ∙
    g.met.S.TokenSink.lawful.skips old in
    on_ok_map c.emit_tokens-2.result c.emit_tokens-2.ensures.emitted (λ t.
    t ∙ (alike_items means (means.step old (characters (chars (string_bytes c.args.self.now.run))))
    (g.S.TokenSink.state c.emit_errors.new.sink) items c.in_ok-emit_errors.ensures.alike first
    ∙ ap (λ s. fold means.step s items) same))

pub returns-clause-emits : goal.returns-clause-emits
returns-clause-emits g c =
    let between = g.S.TokenSink.state c.emit_errors.new.sink in
    let after = g.S.TokenSink.state c.emit_tokens-2.new.sink in
    on_ok_map c.emit_tokens-2.result c.emit_tokens-2.ensures.emitted (λ t.
    emits_then g.S.TokenSink.means (g.S.TokenSink.state c.args.sink.now) between after c.in_ok-emit_errors.ensures.emits
    (emits_all g.S.TokenSink.means g.met.S.TokenSink.lawful.answers between after
    (items_of c.args.tokens.items) c.requires.untagged t))

pub emit_tokens-requires-clause-welcome : goal.emit_tokens-requires-clause-welcome
emit_tokens-requires-clause-welcome g c =
    within_welcome g.S.TokenSink.ready g.S.TokenSink.welcomes c.args.self.now.mode.text
    (g.S.TokenSink.state c.args.sink.now) (items_of c.args.tokens.items) c.requires.ready c.requires.within

pub emit_tokens-requires-2-clause-welcome : goal.emit_tokens-requires-2-clause-welcome
emit_tokens-requires-2-clause-welcome g c =
    within_welcome g.S.TokenSink.ready g.S.TokenSink.welcomes c.args.self.now.mode.text
    (g.S.TokenSink.state c.emit_errors.new.sink) (items_of c.args.tokens.items)
    (subst (λ (m : Mode). IsReadyFor g.S.TokenSink.ready g.S.TokenSink.welcomes m.text
    (g.S.TokenSink.state c.emit_errors.new.sink)) c.emit_errors.ensures.mode c.in_ok-emit_errors.ensures.ready)
    c.requires.within
