use Rattle.std.proofs.Common.{◌≡◌, ◌<◌, IfSome, [], Some, refl, arith, length, ap, sym, ◌∙◌, ◌++◌, string_bytes, subst}
use Rattle.std.proofs.lemmas.Str.{chars-nil}
use Rattle.std.specs.Str.{chars}
use Rattle.token_grammar.specs.Items.{characters}
use Rattle.html_lexemes.specs.Queue.{Queue}
use Rattle.token_grammar.specs.Meaning.{Meaning}
use Rattle.token_grammar.specs.Tags.{greater}
use Rattle.html_tokenizer.specs.Inside.{Completes, IsEmptied}
use Rattle.html_tokenizer.specs.PageRest.{page_rest}
use Rattle.token_grammar.specs.declared.modes.Mode.{Mode}
use Rattle.token_states.specs.Goings.{IsGoing}
use Rattle.html_tokenizer.specs.Emits.{Asks, EmitsOn}
use Rattle.html_tokenizer.proofs.EmitsLemmas.{answers_pause, asks_after, none_asked, emits_same, emits_then}
use Rattle.html_tokenizer.proofs.Undecided.{AreOpenEnded, undecided}
use Rattle.html_tokenizer.proofs.Emptied.{emptied_pending, emptied_text}
use Rattle.html_tokenizer.proofs.PauseMarks.{has_taken_more, has_taken_none, pauses_after}
use Rattle.html_tokenizer.proofs.ReadsLemmas.{leaves_same}
use Rattle.html_tokenizer.proofs.RunLemmas.{last_takes, run_on, run_text, turn_shorter, turn_takes, turn_text}
use Rattle.html_tokenizer.proofs.RunLemmas.{with_character, with_none}
use Rattle.html_tokenizer.proofs.tokenizer.Tokenizer.read.Goals as goal

-- a call that leaves the sink as it was emits nothing
same_sink : {S A H : Type 0} (state : S → A) (means : Meaning A H) (begun : A) (old new : S) → new ≡ old →
    EmitsOn means begun (state old) → EmitsOn means begun (state new)
same_sink state means begun old new e on = subst (λ x. EmitsOn means begun (state x)) (sym e) on

pub characters-init : goal.characters-init
characters-init g c =
    let means = g.Sink.TokenSink.means in
    let state = g.Sink.TokenSink.state in
    record {
      fit = c.requires.fit;
      table = refl;
      over = c.requires.over;
      holds = c.requires.holds;
      emits = emits_same means (state c.args.self.now.sink) (state c.args.self.now.sink) refl;
      shorter = omega arith;
      takes = record { taken = []; takes = refl };
      taken = has_taken_none (Completes state means c.args.self.now) c.args.queue.now;
      reads = λ rest final l. l;
    }

pub characters-smaller : goal.characters-smaller
characters-smaller g c =
    omega (arith, turn_shorter (with_character c.in-Some.is c.in_ok-c.ensures.takes))

pub characters-preserved : goal.characters-preserved
characters-preserved g c =
    let means = g.Sink.TokenSink.means in
    let state = g.Sink.TokenSink.state in
    let begun = state c.args.self.now.sink in
    let trailing = c.next_after_run.new.self in
    let on = same_sink state means begun c.characters.self.sink trailing.sink c.next_after_run.ensures.sink
    c.characters.invariant.emits in
    let run = with_character c.in-Some.is c.in_ok-c.ensures.takes in
    record {
      fit = c.in_ok-pause.ensures.fit;
      table = c.take.ensures.table ∙ (c.next_after_run.ensures.table ∙ c.characters.invariant.table);
      over = c.take.ensures.over;
      holds = c.in_ok-pause.ensures.holds;
      emits = emits_then means begun (state trailing.sink) (state c.take.new.self.sink) on
          (none_asked means c.in_ok-pause.field-0 (state trailing.sink) (state c.take.new.self.sink)
          c.in_default-2.not-Some c.in_ok-pause.ensures.asks);
      shorter = omega (arith, turn_shorter run, c.characters.invariant.shorter);
      takes = turn_takes c.characters.invariant.takes run;
      taken = has_taken_more (Completes state means c.args.self.now) (Completes state means trailing)
          (Completes state means c.take.new.self) c.args.queue.now run.between c.next_after_run.new.queue c.in-Some.c
          (run_on c.characters.invariant.taken run) run.character c.in_ok-pause.ensures.reads;
      reads = λ rest final l. c.characters.invariant.reads rest final
          (turn_text {after = Completes state means c.take.new.self} run c.in_ok-pause.ensures.reads rest final l);
    }

pub returns-in-Some-2-clause-takes : goal.returns-in-Some-2-clause-takes
returns-in-Some-2-clause-takes g c =
    turn_takes c.characters.invariant.takes (with_character c.in-Some.is c.in_ok-c.ensures.takes)

pub returns-in-Some-2-clause-reads : goal.returns-in-Some-2-clause-reads
returns-in-Some-2-clause-reads g c = λ rest final l.
    let after = Completes g.Sink.TokenSink.state g.Sink.TokenSink.means c.take.new.self in
    c.characters.invariant.reads rest final
    (turn_text {after = after} (with_character c.in-Some.is c.in_ok-c.ensures.takes) c.in_ok-pause.ensures.reads
    rest final l)

pub returns-in-Some-2-clause-asks : goal.returns-in-Some-2-clause-asks
returns-in-Some-2-clause-asks g c =
    let means = g.Sink.TokenSink.means in
    let state = g.Sink.TokenSink.state in
    let begun = state c.args.self.now.sink in
    let before = state c.next_after_run.new.self.sink in
    let after = state c.take.new.self.sink in
    let on = same_sink state means begun c.characters.self.sink c.next_after_run.new.self.sink
    c.next_after_run.ensures.sink c.characters.invariant.emits in
    answers_pause means c.in-Some-2.pause c.result_of.result begun after c.result_of.ensures
    (asks_after means (Some c.in-Some-2.pause) begun before after on
    (subst (λ p. Asks means p before after) c.in-Some-2.is c.in_ok-pause.ensures.asks))

pub returns-in-Some-2-clause-pauses : goal.returns-in-Some-2-clause-pauses
returns-in-Some-2-clause-pauses g c = λ _.
    let run = with_character c.in-Some.is c.in_ok-c.ensures.takes in
    let shorter : length c.next_after_run.new.queue.text < length c.args.queue.now.text =
    omega (arith, turn_shorter run, c.characters.invariant.shorter) in
    let emptied = subst (λ p. IfSome p (λ _. IsEmptied c.take.new.self)) c.in-Some-2.is c.in_ok-pause.ensures.paused in
    (shorter, (emptied, (emptied_text c.take.new.self.reader emptied, emptied_pending c.take.new.self.reader emptied)))

pub returns-in-Some-2-clause-trailing : goal.returns-in-Some-2-clause-trailing
returns-in-Some-2-clause-trailing g c = λ _.
    let means = g.Sink.TokenSink.means in
    let state = g.Sink.TokenSink.state in
    let begun = state c.args.self.now.sink in
    let before = c.next_after_run.new.self in
    let on = same_sink state means begun c.characters.self.sink before.sink c.next_after_run.ensures.sink
    c.characters.invariant.emits in
    let run = with_character c.in-Some.is c.in_ok-c.ensures.takes in
    let law = subst AreOpenEnded c.take.ensures.table c.going_is_no_lexeme.ensures in
    let mark = subst (λ p. IfSome p (λ _. c.in-Some.c ≡ greater)) c.in-Some-2.is c.in_ok-pause.ensures.greater in
    pauses_after state means greater c.in-Some.c begun (Completes state means c.args.self.now)
    c.args.queue.now run.between c.next_after_run.new.queue before (run_on c.characters.invariant.taken run) on
    (undecided before.table before.line_ends before.reader law c.in_ok-c.ensures.holds) run.character mark

pub returns-clause-takes : goal.returns-clause-takes
returns-clause-takes g c =
    last_takes c.characters.invariant.takes (with_none c.in_default.not-Some c.in_ok-c.ensures.takes)

pub returns-clause-asks : goal.returns-clause-asks
returns-clause-asks g c =
    let means = g.Sink.TokenSink.means in
    let state = g.Sink.TokenSink.state in
    let begun = state c.args.self.now.sink in
    let before = c.next_after_run.new.self.sink in
    let on = same_sink state means begun c.characters.self.sink before c.next_after_run.ensures.sink
    c.characters.invariant.emits in
    emits_then means begun (state before) (state c.emit_run.new.sink) on c.in_ok-emit_run.ensures.emits

pub returns-clause-done : goal.returns-clause-done
returns-clause-done g c = λ _.
    let last = (with_none c.in_default.not-Some c.in_ok-c.ensures.takes).character in
    let before = c.next_after_run.new.self in
    let pending = before.reader.pending in
    let holds = subst (λ p. IsGoing before.table c.emit_run.new.self.mode.last_start_tag p.place
    (chars (string_bytes p.held))) (sym c.emit_run.ensures.pending)
    (subst (λ (m : Mode). IsGoing before.table m.last_start_tag pending.place (chars (string_bytes pending.held)))
    (sym c.emit_run.ensures.mode) c.in_ok-c.ensures.holds) in (
      ap (λ (q : Queue). q.text) last.1 ∙ last.0,
      (
        c.in_ok-emit_run.ensures.run,
        undecided before.table before.line_ends c.emit_run.new.self c.going_is_no_lexeme-2.ensures holds,
      ),
    )

pub returns-clause-reads : goal.returns-clause-reads
returns-clause-reads g c = λ rest final l.
    let means = g.Sink.TokenSink.means in
    let before = c.next_after_run.new.self in
    let r = before.reader in
    let now = c.emit_run.new.self in
    let after = g.Sink.TokenSink.state c.emit_run.new.sink in
    let run = with_none c.in_default.not-Some c.in_ok-c.ensures.takes in
    let same = ap (λ (q : Queue). q.text) run.character.1 in
    let emitted = ap (λ x. means.step after (characters x)) (ap chars c.in_ok-emit_run.ensures.run ∙ chars-nil)
    ∙ (g.met.Sink.TokenSink.lawful.skips after ∙ c.in_ok-emit_run.ensures.emitted) in
    c.characters.invariant.reads rest final (run_text run rest final
    (subst (λ x. Completes g.Sink.TokenSink.state means before (x ++ rest) final) same
    (leaves_same before.table means r.mode now.mode r.pending now.pending
    (page_rest before.line_ends (c.next_after_run.new.queue.text ++ rest))
    (means.step (g.Sink.TokenSink.state before.sink) (characters (chars (string_bytes r.run))))
    (means.step after (characters (chars (string_bytes now.run)))) final
    c.emit_run.ensures.mode c.emit_run.ensures.pending emitted l)))
