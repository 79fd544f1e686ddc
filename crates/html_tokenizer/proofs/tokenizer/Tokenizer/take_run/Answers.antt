use Rattle.std.proofs.Common.{◌≡◌, ◌++◌, ap, sym, ◌∙◌, subst, string_bytes}
use Rattle.std.specs.Str.{chars}
use Rattle.token_grammar.specs.Items.{characters}
use Rattle.html_tokenizer.proofs.ReadsLemmas.{held_none, leaves_same}
use Rattle.html_tokenizer.proofs.RunLemmas.{free_lines, free_text, run_taken}
use Rattle.html_tokenizer.specs.PageRest.{page_rest}
use Rattle.html_tokenizer.specs.Reads.{Leaves}
use Rattle.html_tokenizer.proofs.tokenizer.Tokenizer.take_run.Goals as goal

pub returns-clause-takes : goal.returns-clause-takes
returns-clause-takes g c =
    let means = g.Sink.TokenSink.means in
    let joins = g.met.Sink.TokenSink.lawful.joins in
    let state = g.Sink.TokenSink.state c.args.self.now.sink in
    let table = c.args.self.now.table in
    let r = c.args.self.now.reader in
    let now = c.take_run.new.self in
    let run = chars (string_bytes r.run) in
    let held = chars (string_bytes r.pending.held) in
    let place = r.pending.place in
    let pops = c.in_ok-take_run.ensures.run in
    let cs = pops.cs in
    let after_run = means.step (means.step state (characters run)) (characters cs) in
    let emitted = ap (λ x. means.step state (characters x)) pops.appended ∙ sym (joins state run cs) in
    record {
      taken = cs;
      takes = pops.takes;
      reads = λ rest final l.
          let left = page_rest c.args.self.now.line_ends rest in
          let same : page_rest c.args.self.now.line_ends (cs ++ rest) ≡ cs ++ left =
          subst (λ ends. page_rest ends (cs ++ rest) ≡ cs ++ page_rest ends rest) (sym c.requires.ends)
          (free_lines r.mode.text cs rest pops.free) in
          subst (λ x. Leaves table means r.mode place (held ++ x) (means.step state (characters run)) final) (sym same)
          (run_taken table means r.mode place held cs left (means.step state (characters run)) final
          joins g.met.Sink.TokenSink.lawful.skips
          c.requires.place (held_none r.pending c.requires.place) (free_text r.mode.text cs pops.free)
          (leaves_same table means r.mode now.mode r.pending now.pending left after_run
          (means.step state (characters (chars (string_bytes now.run)))) final
          c.take_run.ensures.mode c.take_run.ensures.pending emitted l));
    }
