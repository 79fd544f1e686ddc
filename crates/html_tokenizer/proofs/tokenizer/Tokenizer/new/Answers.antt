use Rattle.std.proofs.Common.{◌≡◌, ap, ◌∙◌, string_bytes, subst}
use Rattle.std.proofs.lemmas.Str.{chars-nil}
use Rattle.std.specs.Str.{chars}
use Rattle.token_grammar.specs.FirstMode.{first_mode}
use Rattle.token_grammar.specs.Items.{characters}
use Rattle.token_grammar.specs.Reading.{Reading}
use Rattle.html_tokenizer.specs.Completes.{Completes}
use Rattle.html_tokenizer.specs.PageRest.{page_rest}
use Rattle.html_tokenizer.proofs.ReadsLemmas.{held_none, reading_of}
use Rattle.html_tokenizer.proofs.tokenizer.Tokenizer.new.Goals as goal

pub returns-clause-begins : goal.returns-clause-begins
unfolding Completes
returns-clause-begins g c = λ page final l.
    let s = g.Sink.TokenSink.state c.args.sink in
    let means = g.Sink.TokenSink.means in
    let r = c.new.result in
    let rest = page_rest c.new-2.result page in
    let reads =
    reading_of c.args.table means r.mode r.pending.place (chars (string_bytes r.pending.held)) rest
    (means.step s (characters (chars (string_bytes r.run)))) final c.new.ensures.place
    (held_none r.pending c.new.ensures.place) l in
    let same : means.step s (characters (chars (string_bytes r.run))) ≡ s =
    ap (λ x. means.step s (characters x)) (ap chars c.new.ensures.run ∙ chars-nil) ∙
    g.met.Sink.TokenSink.lawful.skips s in
    let mode : r.mode ≡ first_mode c.args.opts =
    c.new.ensures.mode ∙ ap (λ t. record { text = t; last_start_tag = c.args.opts.last_start_tag_name })
    c.text_of_state.ensures in
    subst (λ x. Reading c.args.table means (first_mode c.args.opts) s x final) (c.new-2.ensures page)
    (subst (λ m. Reading c.args.table means m s rest final) mode
    (subst (λ x. Reading c.args.table means r.mode x rest final) same reads))
