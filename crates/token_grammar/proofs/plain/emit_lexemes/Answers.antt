use Rattle.std.proofs.Common.{refl, ap, subst, chars}
use Rattle.token_grammar.specs.Items.{end_of_file, tag}
use Rattle.token_grammar.specs.Lexemes.{nothing, emitted, tagged}
use Rattle.token_grammar.specs.PlainRead.{items_of, lexeme_of}
use Rattle.token_grammar.specs.Reading.{ends}
use Rattle.token_grammar.specs.Emitted.{HasRest}
use Rattle.token_grammar.proofs.KindLemmas.{lexeme_is_of, ready_on, within_welcome}
use Rattle.token_grammar.proofs.Readings.{found_lexeme, shrinks_emitted, shrinks_tagged, tagged_on, emitted_on}
use Rattle.token_grammar.proofs.plain.emit_lexemes.Goals as goal

pub returns-in-Nothing-clause-emitted : goal.returns-in-Nothing-clause-emitted
returns-in-Nothing-clause-emitted g c =
    let s = g.S.TokenSink.state c.lexemes.sink in
    let e = found_lexeme c.args.table.now _ (g.S.TokenSink.means.foreign s) c.lexemes.mode (chars c.lexemes.rest.now)
    (lexeme_of c.lexemes.mode c.in_ok-lexeme_at.field-0) nothing
    c.adjusted_current_node_present_but_not_in_html_namespace-foreign.ensures c.in_ok-lexeme_at.ensures.value
    (ap (lexeme_of c.lexemes.mode) c.in-Nothing.is) in
    c.lexemes.invariant.leads (g.S.TokenSink.means.step s end_of_file)
    (ends c.lexemes.mode s (chars c.lexemes.rest.now) (g.S.TokenSink.means.step s end_of_file) e refl)

pub lexemes-smaller-in-Emitted : goal.lexemes-smaller-in-Emitted
lexemes-smaller-in-Emitted g c =
    let s = g.S.TokenSink.state c.lexemes.sink in
    shrinks_emitted c.args.table.now (g.S.TokenSink.means.foreign s) c.lexemes.mode (chars c.lexemes.rest.now)
    (items_of c.in-Emitted.tokens.items) (record c.lexemes.mode { text = c.in-Emitted.text }) (chars c.in-Emitted.trailing.now)
    (found_lexeme c.args.table.now _ (g.S.TokenSink.means.foreign s) c.lexemes.mode (chars c.lexemes.rest.now)
    (lexeme_of c.lexemes.mode c.in_ok-lexeme_at.field-0)
    (emitted (items_of c.in-Emitted.tokens.items) (record c.lexemes.mode { text = c.in-Emitted.text })
    (chars c.in-Emitted.trailing.now))
    c.adjusted_current_node_present_but_not_in_html_namespace-foreign.ensures c.in_ok-lexeme_at.ensures.value
    (ap (lexeme_of c.lexemes.mode) c.in-Emitted.is))

pub lexemes-preserved-in-Emitted : goal.lexemes-preserved-in-Emitted
lexemes-preserved-in-Emitted g c =
    let s = g.S.TokenSink.state c.lexemes.sink in
    let e = found_lexeme c.args.table.now _ (g.S.TokenSink.means.foreign s) c.lexemes.mode (chars c.lexemes.rest.now)
    (lexeme_of c.lexemes.mode c.in_ok-lexeme_at.field-0)
    (emitted (items_of c.in-Emitted.tokens.items) (record c.lexemes.mode { text = c.in-Emitted.text })
    (chars c.in-Emitted.trailing.now))
    c.adjusted_current_node_present_but_not_in_html_namespace-foreign.ensures c.in_ok-lexeme_at.ensures.value
    (ap (lexeme_of c.lexemes.mode) c.in-Emitted.is) in
    record {
      text = subst HasRest c.in-Emitted.is c.in_ok-lexeme_at.ensures.utf8;
      ready = ready_on g.S.TokenSink.ready g.S.TokenSink.welcomes c.lexemes.mode.text c.in-Emitted.text s
          (g.S.TokenSink.state c.emit_tokens.new.sink)
          (lexeme_is_of c.args.table.now (g.S.TokenSink.means.foreign s) c.lexemes.mode
          (chars c.lexemes.rest.now) _ e).1
          c.lexemes.invariant.ready c.in_ok-emit_tokens-in-Emitted.ensures.ready c.in_ok-emit_tokens-in-Emitted.ensures.hears;
      leads = λ final r. c.lexemes.invariant.leads final
          (emitted_on c.args.table.now g.S.TokenSink.means c.lexemes.mode s (g.S.TokenSink.state c.emit_tokens.new.sink)
          (chars c.lexemes.rest.now) (items_of c.in-Emitted.tokens.items)
          (record c.lexemes.mode { text = c.in-Emitted.text })
          (chars c.in-Emitted.trailing.now) final e c.in_ok-emit_tokens-in-Emitted.ensures.emitted r);
    }

pub lexemes-smaller : goal.lexemes-smaller
lexemes-smaller g c =
    let s = g.S.TokenSink.state c.lexemes.sink in
    shrinks_tagged c.args.table.now (g.S.TokenSink.means.foreign s) c.lexemes.mode
    (chars c.lexemes.rest.now) c.in-Tagged.tag (chars c.in-Tagged.trailing.now)
    (found_lexeme c.args.table.now _ (g.S.TokenSink.means.foreign s) c.lexemes.mode (chars c.lexemes.rest.now)
    (lexeme_of c.lexemes.mode c.in_ok-lexeme_at.field-0) (tagged c.in-Tagged.tag (chars c.in-Tagged.trailing.now))
    c.adjusted_current_node_present_but_not_in_html_namespace-foreign.ensures c.in_ok-lexeme_at.ensures.value
    (ap (lexeme_of c.lexemes.mode) c.in-Tagged.is))

pub lexemes-preserved : goal.lexemes-preserved
lexemes-preserved g c =
    let s = g.S.TokenSink.state c.lexemes.sink in
    let e = found_lexeme c.args.table.now _ (g.S.TokenSink.means.foreign s) c.lexemes.mode (chars c.lexemes.rest.now)
    (lexeme_of c.lexemes.mode c.in_ok-lexeme_at.field-0) (tagged c.in-Tagged.tag (chars c.in-Tagged.trailing.now))
    c.adjusted_current_node_present_but_not_in_html_namespace-foreign.ensures c.in_ok-lexeme_at.ensures.value
    (ap (lexeme_of c.lexemes.mode) c.in-Tagged.is) in
    record {
      text = subst HasRest c.in-Tagged.is c.in_ok-lexeme_at.ensures.utf8;
      ready = c.in_ok-mode-in-Tagged.ensures.ready;
      leads = λ final r. c.lexemes.invariant.leads final
          (tagged_on c.args.table.now g.S.TokenSink.means c.lexemes.mode s (g.S.TokenSink.state c.emit_tag.new.sink)
          (chars c.lexemes.rest.now) c.in-Tagged.tag
          c.in_ok-mode-in-Tagged.mode (chars c.in-Tagged.trailing.now) final e c.in_ok-mode-in-Tagged.ensures.emitted
          c.in_ok-mode-in-Tagged.ensures.mode r);
    }

pub emit_tokens-requires-clause-welcome : goal.emit_tokens-requires-clause-welcome
emit_tokens-requires-clause-welcome g c =
    let s = g.S.TokenSink.state c.lexemes.sink in
    let e = found_lexeme c.args.table.now _ (g.S.TokenSink.means.foreign s) c.lexemes.mode (chars c.lexemes.rest.now)
    (lexeme_of c.lexemes.mode c.in_ok-lexeme_at.field-0)
    (emitted (items_of c.in-Emitted.tokens.items) (record c.lexemes.mode { text = c.in-Emitted.text })
    (chars c.in-Emitted.trailing.now))
    c.adjusted_current_node_present_but_not_in_html_namespace-foreign.ensures c.in_ok-lexeme_at.ensures.value
    (ap (lexeme_of c.lexemes.mode) c.in-Emitted.is) in
    within_welcome g.S.TokenSink.ready g.S.TokenSink.welcomes c.lexemes.mode.text s
    (items_of c.in-Emitted.tokens.items) c.lexemes.invariant.ready
    (lexeme_is_of c.args.table.now (g.S.TokenSink.means.foreign s) c.lexemes.mode (chars c.lexemes.rest.now) _ e).0

pub emit_tag-requires-clause-welcome : goal.emit_tag-requires-clause-welcome
emit_tag-requires-clause-welcome g c =
    let s = g.S.TokenSink.state c.lexemes.sink in
    let e = found_lexeme c.args.table.now _ (g.S.TokenSink.means.foreign s) c.lexemes.mode (chars c.lexemes.rest.now)
    (lexeme_of c.lexemes.mode c.in_ok-lexeme_at.field-0) (tagged c.in-Tagged.tag (chars c.in-Tagged.trailing.now))
    c.adjusted_current_node_present_but_not_in_html_namespace-foreign.ensures c.in_ok-lexeme_at.ensures.value
    (ap (lexeme_of c.lexemes.mode) c.in-Tagged.is) in
    c.lexemes.invariant.ready.hears (tag c.in-Tagged.tag)
    (lexeme_is_of c.args.table.now (g.S.TokenSink.means.foreign s) c.lexemes.mode (chars c.lexemes.rest.now) _ e)
