use Rattle.std.proofs.Common.{[], refl}
use Rattle.std.proofs.lemmas.Bool.{false≢true}
use Rattle.html_tokenizer.proofs.RunLemmas.{front_run}
use Rattle.html_tokenizer.proofs.tokenizer.Tokenizer.next_after_run.Goals as goal

pub returns-then-not-is_within-clause-takes : goal.returns-then-not-is_within-clause-takes
returns-then-not-is_within-clause-takes g c = record {
  between = c.args.queue.now;
  taken = [];
  takes = refl;
  reads = λ rest final l. l;
  character = c.next.ensures.takes;
}

pub returns-in_ok-hold_run-in-Some-clause-takes : goal.returns-in_ok-hold_run-in-Some-clause-takes
returns-in_ok-hold_run-in-Some-clause-takes g c =
    front_run (λ e. false≢true (c.if-is_empty.ensures.1 e)) c.in_ok-hold_run-in-Some.ensures.takes
    c.next-in-Some.ensures.takes

pub returns-in_ok-take_run-in-None-clause-takes : goal.returns-in_ok-take_run-in-None-clause-takes
returns-in_ok-take_run-in-None-clause-takes g c =
    front_run (λ e. false≢true (c.if-is_empty.ensures.1 e)) c.in_ok-take_run-in-None.ensures.takes
    c.next-in-None.ensures.takes

pub returns-in-None-2-clause-takes : goal.returns-in-None-2-clause-takes
returns-in-None-2-clause-takes g c = record {
  between = c.args.queue.now;
  taken = [];
  takes = refl;
  reads = λ rest final l. l;
  character = c.next-in-None-2.ensures.takes;
}
