use Rattle.std.proofs.Common.{ap, ◌∙◌, string_bytes, subst}
use Rattle.std.proofs.lemmas.Str.{chars-nil}
use Rattle.std.specs.Str.{chars}
use Rattle.token_grammar.specs.Items.{characters}
use Rattle.token_grammar.specs.Reading.{Reading}
use Rattle.html_tokenizer.specs.Completes.{Completes, is_text_state, last_start_tag_of, nothing_pending, table_of}
use Rattle.html_tokenizer.specs.Completes.{text_left}
use Rattle.html_tokenizer.specs.PageRest.{page_rest}
use Rattle.html_tokenizer.specs.declared.pending.Pending.{Pending}
use Rattle.html_tokenizer.proofs.GoingLemmas.{no_run, text_open}
use Rattle.html_tokenizer.proofs.ReadsLemmas.{held_none, reading_of}
use Rattle.html_tokenizer.proofs.tokenizer.Tokenizer.set_plaintext_state.Goals as goal

pub returns-clause-plain : goal.returns-clause-plain
unfolding Completes table_of last_start_tag_of text_left is_text_state nothing_pending
returns-clause-plain g c = λ page final l.
    let t = c.args.self.now in
    let means = g.Sink.TokenSink.means in
    let s = g.Sink.TokenSink.state t.sink in
    let now = c.set_plaintext.new.self in
    let rest = page_rest t.line_ends page in
    let at = ap (λ (p : Pending). p.place) c.set_plaintext.ensures.pending ∙ text_open t.reader.pending.place
    (string_bytes t.reader.pending.held) (string_bytes t.reader.run) c.requires.text c.requires.nothing in
    let none =
    ap string_bytes c.set_plaintext.ensures.run ∙ no_run t.reader.pending.place
    (string_bytes t.reader.pending.held) (string_bytes t.reader.run) c.requires.nothing in
    let reads =
    reading_of t.table means now.mode now.pending.place (chars (string_bytes now.pending.held)) rest
    (means.step s (characters (chars (string_bytes now.run)))) final at (held_none now.pending at) l in
    let same =
    ap (λ x. means.step s (characters x)) (ap chars none ∙ chars-nil) ∙ g.met.Sink.TokenSink.lawful.skips s in
    subst (λ m. Reading t.table means m s rest final) c.set_plaintext.ensures.mode
    (subst (λ x. Reading t.table means now.mode x rest final) same reads)
