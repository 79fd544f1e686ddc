use Rattle.std.proofs.Common.{ap, refl, sym, subst, ◌∙◌, ◌++◌, string_bytes}
use Rattle.std.proofs.lemmas.Str.{chars-nil}
use Rattle.std.specs.Str.{chars}
use Rattle.std.specs.List.{fold}
use Rattle.token_grammar.specs.Items.{characters, tag}
use Rattle.token_grammar.specs.Kinds.{AreWithin, IsOf, IsReadyFor}
use Rattle.token_grammar.specs.Modes.{next_mode}
use Rattle.token_grammar.specs.Lexemes.{nothing, emitted, tagged}
use Rattle.token_grammar.specs.PlainRead.{items_of, lexeme_of}
use Rattle.token_grammar.specs.declared.modes.Mode.{Mode}
use Rattle.token_grammar.proofs.KindLemmas.{ready_of}
use Rattle.html_tokenizer.specs.declared.pending.Pending.{Pending}
use Rattle.html_tokenizer.proofs.ReadsLemmas.{found_from, held_none, never_nothing, on_ok_two, tagged_over}
use Rattle.html_tokenizer.proofs.ReadsLemmas.{emitted_over}
use Rattle.html_tokenizer.proofs.ReadyLemmas.{are_unanswered, tagged_kind, emitted_kind}
use Rattle.html_tokenizer.proofs.EmitsLemmas.{asks_after, asks_tag, if_ok_with, emits_then}
use Rattle.html_tokenizer.proofs.reader.Reader.emit_lexeme.Goals as goal

pub returns-in-Nothing-clause-reads : goal.returns-in-Nothing-clause-reads
returns-in-Nothing-clause-reads g c = λ follow rest final over l.
    let r = c.args.self.now in
    let m = c.emit_run.new.self.mode in
    let s = g.S.TokenSink.means.step (g.S.TokenSink.state c.args.sink.now) (characters (chars (string_bytes r.run))) in
    let e = found_from c.args.table.now c.adjusted_current_node_present_but_not_in_html_namespace-foreign.result
    (g.S.TokenSink.means.foreign s) r.mode m c.args.place (chars c.args.held.now) (chars c.args.held.now)
    (lexeme_of m c.in_ok-lexeme.lexeme) nothing
    (c.adjusted_current_node_present_but_not_in_html_namespace-foreign.ensures ∙
    ap g.S.TokenSink.means.foreign c.in_ok-emit_run.ensures.emitted) c.emit_run.ensures.mode refl
    c.in_ok-lexeme.ensures.value (ap (lexeme_of m) c.in-Nothing.is) in
    absurd (never_nothing c.args.table.now g.S.TokenSink.means r.mode c.args.place (chars c.args.held.now) follow
    (g.S.TokenSink.means.foreign s) over e)

pub emit_items-requires-clause-within : goal.emit_items-requires-clause-within
emit_items-requires-clause-within g c =
    let r = c.args.self.now in
    let m = c.emit_run.new.self.mode in
    let s = g.S.TokenSink.means.step (g.S.TokenSink.state c.args.sink.now) (characters (chars (string_bytes r.run))) in
    let items = items_of c.in-Emitted.tokens.items in
    let trailing : Mode = record m { text = c.in-Emitted.text } in
    let left = chars c.in-Emitted.left.now in
    let e = found_from c.args.table.now c.adjusted_current_node_present_but_not_in_html_namespace-foreign.result
    (g.S.TokenSink.means.foreign s) r.mode m c.args.place (chars c.args.held.now) (chars c.args.held.now)
    (lexeme_of m c.in_ok-lexeme.lexeme) (emitted items trailing left)
    (c.adjusted_current_node_present_but_not_in_html_namespace-foreign.ensures ∙
    ap g.S.TokenSink.means.foreign c.in_ok-emit_run.ensures.emitted) c.emit_run.ensures.mode refl
    c.in_ok-lexeme.ensures.value (ap (lexeme_of m) c.in-Emitted.is) in
    subst (λ (x : Mode). AreWithin x.text items) (sym c.emit_run.ensures.mode)
    (emitted_kind r.mode.text _ items trailing left (c.place_of_a_kind.ensures c.args.table.now
    (g.S.TokenSink.means.foreign s) r.mode c.args.place (chars c.args.held.now) c.requires.placed) e).0

pub emit_items-requires-clause-untagged : goal.emit_items-requires-clause-untagged
emit_items-requires-clause-untagged g c =
    let r = c.args.self.now in
    let m = c.emit_run.new.self.mode in
    let s = g.S.TokenSink.means.step (g.S.TokenSink.state c.args.sink.now) (characters (chars (string_bytes r.run))) in
    let items = items_of c.in-Emitted.tokens.items in
    let trailing : Mode = record m { text = c.in-Emitted.text } in
    let left = chars c.in-Emitted.left.now in
    let e = found_from c.args.table.now c.adjusted_current_node_present_but_not_in_html_namespace-foreign.result
    (g.S.TokenSink.means.foreign s) r.mode m c.args.place (chars c.args.held.now) (chars c.args.held.now)
    (lexeme_of m c.in_ok-lexeme.lexeme) (emitted items trailing left)
    (c.adjusted_current_node_present_but_not_in_html_namespace-foreign.ensures ∙
    ap g.S.TokenSink.means.foreign c.in_ok-emit_run.ensures.emitted) c.emit_run.ensures.mode refl
    c.in_ok-lexeme.ensures.value (ap (lexeme_of m) c.in-Emitted.is) in
    are_unanswered r.mode.text items
    (emitted_kind r.mode.text _ items trailing left
    (c.place_of_a_kind.ensures c.args.table.now (g.S.TokenSink.means.foreign s) r.mode c.args.place
    (chars c.args.held.now) c.requires.placed) e).0

pub returns-in_ok-push_str-in-Emitted-clause-ready : goal.returns-in_ok-push_str-in-Emitted-clause-ready
returns-in_ok-push_str-in-Emitted-clause-ready g c =
    let r = c.args.self.now in
    let m = c.emit_run.new.self.mode in
    let s = g.S.TokenSink.means.step (g.S.TokenSink.state c.args.sink.now) (characters (chars (string_bytes r.run))) in
    let items = items_of c.in-Emitted.tokens.items in
    let trailing : Mode = record m { text = c.in-Emitted.text } in
    let left = chars c.in-Emitted.left.now in
    let e = found_from c.args.table.now c.adjusted_current_node_present_but_not_in_html_namespace-foreign.result
    (g.S.TokenSink.means.foreign s) r.mode m c.args.place (chars c.args.held.now) (chars c.args.held.now)
    (lexeme_of m c.in_ok-lexeme.lexeme) (emitted items trailing left)
    (c.adjusted_current_node_present_but_not_in_html_namespace-foreign.ensures ∙
    ap g.S.TokenSink.means.foreign c.in_ok-emit_run.ensures.emitted) c.emit_run.ensures.mode refl
    c.in_ok-lexeme.ensures.value (ap (lexeme_of m) c.in-Emitted.is) in
    let now = c.emit_items.new.self in
    let leads =
    (emitted_kind r.mode.text _ items trailing left
    (c.place_of_a_kind.ensures c.args.table.now (g.S.TokenSink.means.foreign s) r.mode c.args.place
    (chars c.args.held.now) c.requires.placed) e).1 in
    ready_of g.S.TokenSink.ready g.S.TokenSink.welcomes r.mode.text c.in-Emitted.text
    (g.S.TokenSink.state c.emit_items.new.sink) leads
    (subst (λ (x : Mode). IsReadyFor g.S.TokenSink.ready g.S.TokenSink.welcomes x.text
    (g.S.TokenSink.state c.emit_items.new.sink))
    (c.emit_items.ensures.mode ∙ c.emit_run.ensures.mode) c.in_ok-emit_items-in-Emitted.ensures.ready)

pub emit_tag-requires-clause-kind : goal.emit_tag-requires-clause-kind
emit_tag-requires-clause-kind g c =
    let r = c.args.self.now in
    let m = c.emit_run.new.self.mode in
    let means = g.S.TokenSink.means in
    let s = means.step (g.S.TokenSink.state c.args.sink.now) (characters (chars (string_bytes r.run))) in
    let left = chars c.in-Tagged.field-1.now in
    let e = found_from c.args.table.now c.adjusted_current_node_present_but_not_in_html_namespace-foreign.result
    (g.S.TokenSink.means.foreign s) r.mode m c.args.place (chars c.args.held.now) (chars c.args.held.now)
    (lexeme_of m c.in_ok-lexeme.lexeme) (tagged c.in-Tagged.tag left)
    (c.adjusted_current_node_present_but_not_in_html_namespace-foreign.ensures ∙
    ap g.S.TokenSink.means.foreign c.in_ok-emit_run.ensures.emitted) c.emit_run.ensures.mode refl
    c.in_ok-lexeme.ensures.value (ap (lexeme_of m) c.in-Tagged.is) in
    subst (λ (x : Mode). IsOf x.text (tag c.in-Tagged.tag)) (sym (c.emit_errors.ensures.mode ∙ c.emit_run.ensures.mode))
    (tagged_kind r.mode.text _ c.in-Tagged.tag left
    (c.place_of_a_kind.ensures c.args.table.now (g.S.TokenSink.means.foreign s) r.mode c.args.place
    (chars c.args.held.now) c.requires.placed) e)

pub returns-in_ok-push_str-in-Emitted-clause-asks : goal.returns-in_ok-push_str-in-Emitted-clause-asks
returns-in_ok-push_str-in-Emitted-clause-asks g c =
    emits_then g.S.TokenSink.means (g.S.TokenSink.state c.args.sink.now) (g.S.TokenSink.state c.emit_run.new.sink)
    (g.S.TokenSink.state c.emit_items.new.sink)
    c.in_ok-emit_run.ensures.emits c.in_ok-emit_items-in-Emitted.ensures.emits

pub returns-in_ok-push_str-in-Emitted-clause-reads : goal.returns-in_ok-push_str-in-Emitted-clause-reads
returns-in_ok-push_str-in-Emitted-clause-reads g c = λ follow rest final over l.
    let r = c.args.self.now in
    let m = c.emit_run.new.self.mode in
    let now = c.emit_items.new.self in
    let s = g.S.TokenSink.means.step (g.S.TokenSink.state c.args.sink.now) (characters (chars (string_bytes r.run))) in
    let items = items_of c.in-Emitted.tokens.items in
    let trailing : Mode = record m { text = c.in-Emitted.text } in
    let after : Mode = record now.mode { text = c.in-Emitted.text } in
    let left = chars c.in-Emitted.left.now in
    let e = found_from c.args.table.now c.adjusted_current_node_present_but_not_in_html_namespace-foreign.result
    (g.S.TokenSink.means.foreign s) r.mode m c.args.place (chars c.args.held.now) (chars c.args.held.now)
    (lexeme_of m c.in_ok-lexeme.lexeme) (emitted items trailing left)
    (c.adjusted_current_node_present_but_not_in_html_namespace-foreign.ensures ∙
    ap g.S.TokenSink.means.foreign c.in_ok-emit_run.ensures.emitted) c.emit_run.ensures.mode refl
    c.in_ok-lexeme.ensures.value (ap (lexeme_of m) c.in-Emitted.is) in
    let moved =
    e ∙ ap (λ (x : Mode). emitted items (record x { text = c.in-Emitted.text }) left)
    (sym c.emit_items.ensures.mode) in
    let at = ap (λ (p : Pending). p.place) (c.emit_items.ensures.pending ∙ c.emit_run.ensures.pending) ∙
    c.requires.place in
    emitted_over c.args.table.now g.S.TokenSink.means r.mode after c.args.place now.pending.place (chars c.args.held.now)
    (chars (string_bytes now.pending.held)) follow rest left (chars (string_bytes c.push_str.new.self)) items s
    (g.S.TokenSink.state c.emit_items.new.sink) final
    g.met.S.TokenSink.lawful.joins g.met.S.TokenSink.lawful.skips over moved
    (c.in_ok-emit_items-in-Emitted.ensures.emitted ∙
    ap (λ x. fold g.S.TokenSink.means.step x items) c.in_ok-emit_run.ensures.emitted) at (held_none now.pending at)
    (ap chars (c.in_ok-push_str-in-Emitted.ensures.bytes ∙
    ap (λ x. x ++ c.in-Emitted.left.now) c.in_ok-emit_items-in-Emitted.ensures.run)) l

pub returns-in_ok-emit_errors-in-Tagged-clause-asks : goal.returns-in_ok-emit_errors-in-Tagged-clause-asks
returns-in_ok-emit_errors-in-Tagged-clause-asks g c =
    let means = g.S.TokenSink.means in
    let s0 = g.S.TokenSink.state c.args.sink.now in
    let s1 = g.S.TokenSink.state c.emit_run.new.sink in
    let s2 = g.S.TokenSink.state c.emit_errors.new.sink in
    let s3 = g.S.TokenSink.state c.emit_tag.new.sink in
    if_ok_with c.emit_tag.result c.emit_tag.ensures.pause c.emit_tag.ensures.emitted (λ pause p t.
    asks_after means pause s0 s2 s3
    (emits_then means s0 s1 s2 c.in_ok-emit_run.ensures.emits c.in_ok-emit_errors-in-Tagged.ensures.emits)
    (asks_tag means s2 s3 c.in-Tagged.tag pause t p))

pub returns-in_ok-emit_errors-in-Tagged-clause-reads : goal.returns-in_ok-emit_errors-in-Tagged-clause-reads
returns-in_ok-emit_errors-in-Tagged-clause-reads g c =
    let r = c.args.self.now in
    let m = c.emit_run.new.self.mode in
    let means = g.S.TokenSink.means in
    let s = means.step (g.S.TokenSink.state c.args.sink.now) (characters (chars (string_bytes r.run))) in
    let s1 = g.S.TokenSink.state c.emit_run.new.sink in
    let left = chars c.in-Tagged.field-1.now in
    let e = found_from c.args.table.now c.adjusted_current_node_present_but_not_in_html_namespace-foreign.result
    (g.S.TokenSink.means.foreign s) r.mode m c.args.place (chars c.args.held.now) (chars c.args.held.now)
    (lexeme_of m c.in_ok-lexeme.lexeme) (tagged c.in-Tagged.tag left)
    (c.adjusted_current_node_present_but_not_in_html_namespace-foreign.ensures ∙
    ap g.S.TokenSink.means.foreign c.in_ok-emit_run.ensures.emitted) c.emit_run.ensures.mode refl
    c.in_ok-lexeme.ensures.value (ap (lexeme_of m) c.in-Tagged.is) in
    let after = c.emit_tag.new.self in
    let kept = c.emit_tag.ensures.pending ∙ (c.emit_errors.ensures.pending ∙ c.emit_run.ensures.pending) in
    let at = ap (λ (p : Pending). p.place) kept ∙ c.requires.place in
    let tag_is = c.in-Tagged.tag in
    let alike = c.in_ok-emit_errors-in-Tagged.ensures.alike in
    let same =
    ap (λ x. means.step s1 (characters x)) (ap chars c.in_ok-emit_run.ensures.run ∙ chars-nil)
    ∙ (g.met.S.TokenSink.lawful.skips s1 ∙ c.in_ok-emit_run.ensures.emitted) in
    let stepped = alike.steps (tag tag_is) tt ∙ ap (λ x. means.step x (tag tag_is)) same in
    let replied = alike.replies (tag tag_is) ∙ ap (λ x. g.S.TokenSink.means.reply x (tag tag_is)) same in
    on_ok_two c.emit_tag.result c.emit_tag.ensures.emitted c.emit_tag.ensures.mode (λ t b follow rest final over l.
    tagged_over c.args.table.now means r.mode after.mode c.args.place after.pending.place (chars c.args.held.now)
    (chars (string_bytes after.pending.held)) follow rest left (chars (string_bytes after.run)) tag_is s
    (g.S.TokenSink.state c.emit_tag.new.sink) final
    g.met.S.TokenSink.lawful.skips over e (t ∙ stepped)
    (b ∙ (ap (λ x.
    next_mode x tag_is (g.S.TokenSink.means.reply (g.S.TokenSink.state c.emit_errors.new.sink) (tag tag_is)))
    (c.emit_errors.ensures.mode ∙ c.emit_run.ensures.mode) ∙ ap (λ x. next_mode r.mode tag_is x) replied))
    at (held_none after.pending at) (ap (λ x. chars (string_bytes x)) c.emit_tag.ensures.run
    ∙ (ap chars c.in_ok-emit_errors-in-Tagged.ensures.run ∙ chars-nil)) l)
