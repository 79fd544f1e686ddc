use Rattle.std.proofs.Common.{◌≡◌, sym, ap, ◌∙◌, string_bytes, subst}
use Rattle.std.proofs.lemmas.Str.{chars-nil}
use Rattle.std.specs.Str.{chars}
use Rattle.token_grammar.specs.Items.{characters, end_of_file, tag}
use Rattle.token_grammar.specs.Kinds.{IsOf, IsReadyFor}
use Rattle.token_grammar.specs.Lexemes.{tagged}
use Rattle.token_grammar.specs.Modes.{next_mode}
use Rattle.token_grammar.specs.PlainRead.{items_of, lexeme_of}
use Rattle.token_grammar.specs.Reading.{Reading}
use Rattle.token_grammar.specs.declared.modes.Mode.{Mode}
use Rattle.token_grammar.proofs.KindLemmas.{ready_of}
use Rattle.token_states.specs.PlaceKinds.{IsPlaceOf}
use Rattle.token_states.specs.Places.{place_lexeme}
use Rattle.html_tokenizer.specs.Reads.{Follows}
use Rattle.html_tokenizer.proofs.ReadsLemmas.{on_ok_map}
use Rattle.html_tokenizer.proofs.ReadyLemmas.{are_unanswered, tagged_kind, emitted_kind}
use Rattle.html_tokenizer.proofs.reader.Reader.emit_held.Goals as goal

pub emit_items-requires-clause-within : goal.emit_items-requires-clause-within
emit_items-requires-clause-within g c =
    let m = c.args.self.now.mode in
    let items = items_of c.in-Emitted.tokens.items in
    let trailing : Mode = record m { text = c.in-Emitted.text } in
    let known =
    emitted_kind m.text _ items trailing (chars c.in-Emitted.rest.now)
    (c.place_of_a_kind.ensures c.args.table.now
    c.adjusted_current_node_present_but_not_in_html_namespace-foreign.result m c.take_all-place.result.0
    (chars c.as_str-2.result.now)
    (subst (IsPlaceOf m.text) (sym c.take_all-place.ensures.place) c.requires.placed))
    (sym c.in_ok-lexeme_from.ensures.value ∙ ap (lexeme_of m) c.in-Emitted.is) in
    known.0

pub emit_items-requires-clause-untagged : goal.emit_items-requires-clause-untagged
emit_items-requires-clause-untagged g c =
    let m = c.args.self.now.mode in
    let items = items_of c.in-Emitted.tokens.items in
    let trailing : Mode = record m { text = c.in-Emitted.text } in
    let known =
    emitted_kind m.text _ items trailing (chars c.in-Emitted.rest.now)
    (c.place_of_a_kind.ensures c.args.table.now
    c.adjusted_current_node_present_but_not_in_html_namespace-foreign.result m c.take_all-place.result.0
    (chars c.as_str-2.result.now)
    (subst (IsPlaceOf m.text) (sym c.take_all-place.ensures.place) c.requires.placed))
    (sym c.in_ok-lexeme_from.ensures.value ∙ ap (lexeme_of m) c.in-Emitted.is) in
    are_unanswered m.text items known.0

pub emit_rest-requires : goal.emit_rest-requires
emit_rest-requires g c =
    let m = c.args.self.now.mode in
    let items = items_of c.in-Emitted.tokens.items in
    let trailing : Mode = record m { text = c.in-Emitted.text } in
    let known =
    emitted_kind m.text _ items trailing (chars c.in-Emitted.rest.now)
    (c.place_of_a_kind.ensures c.args.table.now
    c.adjusted_current_node_present_but_not_in_html_namespace-foreign.result m c.take_all-place.result.0
    (chars c.as_str-2.result.now)
    (subst (IsPlaceOf m.text) (sym c.take_all-place.ensures.place) c.requires.placed))
    (sym c.in_ok-lexeme_from.ensures.value ∙ ap (lexeme_of m) c.in-Emitted.is) in
    record {
      ready = ready_of g.S.TokenSink.ready g.S.TokenSink.welcomes m.text c.in-Emitted.text
          (g.S.TokenSink.state c.emit_items.new.sink) known.1
          (subst (λ (x : Mode). IsReadyFor g.S.TokenSink.ready g.S.TokenSink.welcomes x.text
          (g.S.TokenSink.state c.emit_items.new.sink)) c.emit_items.ensures.mode
          c.in_ok-emit_items-in-Emitted.ensures.ready);
    }

pub emit_tag-requires-clause-kind : goal.emit_tag-requires-clause-kind
emit_tag-requires-clause-kind g c =
    let m = c.args.self.now.mode in
    subst (λ (x : Mode). IsOf x.text (tag c.in-Tagged.tag)) (sym c.emit_errors.ensures.mode)
    (tagged_kind m.text _ c.in-Tagged.tag (chars c.in-Tagged.rest.now)
    (c.place_of_a_kind.ensures c.args.table.now
    c.adjusted_current_node_present_but_not_in_html_namespace-foreign.result m c.take_all-place.result.0
    (chars c.as_str-2.result.now) (subst (IsPlaceOf m.text) (sym c.take_all-place.ensures.place) c.requires.placed))
    (sym c.in_ok-lexeme_from.ensures.value ∙ ap (lexeme_of m) c.in-Tagged.is))

pub returns-clause-emitted : goal.returns-clause-emitted
returns-clause-emitted g c =
    let r = c.args.self.now in
    let table = c.args.table.now in
    let means = g.S.TokenSink.means in
    let s = g.S.TokenSink.state c.args.sink.now in
    let final = means.step (g.S.TokenSink.state c.emit_rest-in-Tagged.new.sink) end_of_file in
    let rest = chars c.in-Tagged.rest.now in
    let t = c.in-Tagged.tag in
    let e = sym c.in_ok-lexeme_from.ensures.value ∙ ap (lexeme_of r.mode) c.in-Tagged.is in
    let placed =
    subst (λ x. place_lexeme table x c.args.self.now.mode c.take_all-place.result.0
    (chars c.as_str-2.result.now) ≡ tagged t rest)
    c.adjusted_current_node_present_but_not_in_html_namespace-foreign.ensures e in
    let held = ap chars (c.as_str-2.ensures.value ∙ ap string_bytes c.take_all-place.ensures.held) in
    let whole =
    subst (λ x. place_lexeme table (means.foreign s) r.mode r.pending.place x ≡ tagged t rest) held
    (subst (λ x. place_lexeme table (means.foreign s) r.mode x (chars c.as_str-2.result.now)
    ≡ tagged t rest) c.take_all-place.ensures.place placed) in
    let alike = c.in_ok-emit_errors-in-Tagged.ensures.alike in
    let same =
    ap (λ x. means.step s (characters x)) (ap chars c.requires.run ∙ chars-nil) ∙
    g.met.S.TokenSink.lawful.skips s in
    let stepped =
    c.in_ok-emit_tag-in-Tagged.ensures.emitted ∙ (alike.steps (tag t) tt ∙ ap (λ x. means.step x (tag t)) same) in
    let replied = alike.replies (tag t) ∙ ap (λ x. means.reply x (tag t)) same in
    let trailing =
    c.in_ok-emit_tag-in-Tagged.ensures.mode
    ∙ (ap (λ x. next_mode x t (means.reply (g.S.TokenSink.state c.emit_errors.new.sink) (tag t)))
    c.emit_errors.ensures.mode ∙ ap (λ x. next_mode r.mode t x) replied) in
    on_ok_map c.emit_rest-in-Tagged.result c.emit_rest-in-Tagged.ensures.emitted (λ l.
    subst (λ x. Follows table means r.mode x s final) (sym whole)
    (subst (λ x. Reading table means x (means.step s (tag t)) rest final) trailing
    (subst (λ x. Reading table means c.emit_tag.new.self.mode x rest final) stepped l)))
