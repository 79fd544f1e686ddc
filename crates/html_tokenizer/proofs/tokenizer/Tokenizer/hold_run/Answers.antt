use Rattle.std.proofs.Common.{◌≡◌, ◌++◌, ap, sym, subst, string_bytes}
use Rattle.std.specs.Str.{chars}
use Rattle.token_grammar.specs.Items.{characters}
use Rattle.html_tokenizer.proofs.RunLemmas.{going_held, lines_after, run_held}
use Rattle.html_tokenizer.specs.PageRest.{page_rest}
use Rattle.html_tokenizer.specs.Reads.{Leaves, state_of}
use Rattle.html_tokenizer.proofs.tokenizer.Tokenizer.hold_run.Goals as goal

pub returns-clause-holds : goal.returns-clause-holds
returns-clause-holds g c =
    let table = c.args.self.now.table in
    let r = c.args.self.now.reader in
    let now = c.hold_run.new.self in
    let held = chars (string_bytes r.pending.held) in
    let pops = c.in_ok-hold_run.ensures.held in
    going_held table r.mode now.mode r.pending.place now.pending.place held (chars (string_bytes now.pending.held))
    pops.cs c.hold_run.ensures.mode c.hold_run.ensures.place pops.appended
    (c.held_run_goes_on.ensures.going table r.mode.last_start_tag r.pending.place c.args.stops.now held pops.cs
    c.requires.stops pops.free c.requires.holds)

pub returns-clause-takes : goal.returns-clause-takes
returns-clause-takes g c =
    let means = g.Sink.TokenSink.means in
    let state = g.Sink.TokenSink.state c.args.self.now.sink in
    let table = c.args.self.now.table in
    let r = c.args.self.now.reader in
    let now = c.hold_run.new.self in
    let held = chars (string_bytes r.pending.held) in
    let place = r.pending.place in
    let pops = c.in_ok-hold_run.ensures.held in
    let cs = pops.cs in
    let none = c.held_run_goes_on.ensures.lines place c.args.stops.now cs c.requires.stops pops.free in
    record {
      taken = cs;
      takes = pops.takes;
      reads = λ rest final l.
          let left = page_rest c.args.self.now.line_ends rest in
          let same : page_rest c.args.self.now.line_ends (cs ++ rest) ≡ cs ++ left =
          subst (λ ends. page_rest ends (cs ++ rest) ≡ cs ++ page_rest ends rest) (sym c.requires.ends)
          (lines_after cs rest none) in
          subst (λ x. Leaves table means r.mode place (held ++ x) (state_of means r state) final) (sym same)
          (run_held table means r.mode now.mode place now.pending.place held (chars (string_bytes now.pending.held))
          cs left (state_of means r state) (state_of means now state) final c.hold_run.ensures.mode
          c.hold_run.ensures.place pops.appended
          (ap (λ x. means.step state (characters (chars (string_bytes x)))) c.hold_run.ensures.run) l);
    }
