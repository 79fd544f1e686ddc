use Rattle.std.proofs.Common.{◌≡◌, true, false, ap, sym, ◌∙◌}
use Rattle.std.specs.Prelude.{is_err}
use Rattle.html_lexemes.specs.declared.fault.ParseFault.TheVariants.{Failed}
use Rattle.html_tokenizer.specs.Completes.{has_failed}
use Rattle.html_tokenizer.proofs.QueueTaken.{never_failed, taken_on}
use Rattle.html_tokenizer.proofs.tokenizer.Tokenizer.feed_on.Goals as goal

pub returns-in-Done-clause-takes : goal.returns-in-Done-clause-takes
returns-in-Done-clause-takes g c =
    taken_on c.args.queue.now c.feeds.queue c.feed.new.queue c.feeds.invariant.takes c.in_ok-feed.ensures.takes

pub feeds-preserved-in_default : goal.feeds-preserved-in_default
feeds-preserved-in_default g c =
    let free =
    never_failed (has_failed c.feeds.self) c.feed.result Failed c.in_ok-feed.field-0 c.feed.ensures.failed
    c.in_ok-feed.was in
    let first : has_failed c.args.self.now ≡ false = sym c.feeds.invariant.works ∙ free in
    record {
      failed = λ e. absurd (let k : true ≡ false = sym e ∙ first in cc);
      works = c.feed.ensures.works ∙ (ap is_err c.in_ok-feed.was ∙ sym first);
      fit = c.feed.ensures.fit;
      table = c.feed.ensures.table ∙ c.feeds.invariant.table;
      takes = taken_on c.args.queue.now c.feeds.queue c.feed.new.queue c.feeds.invariant.takes
          c.in_ok-feed.ensures.takes;
      reads = λ rest final l. c.feeds.invariant.reads rest final (c.in_ok-feed.ensures.reads rest final l);
    }

pub feeds-preserved : goal.feeds-preserved
feeds-preserved g c =
    let free =
    never_failed (has_failed c.feeds.self) c.feed.result Failed c.in_ok-feed.field-0 c.feed.ensures.failed
    c.in_ok-feed.was in
    let first : has_failed c.args.self.now ≡ false = sym c.feeds.invariant.works ∙ free in
    record {
      failed = λ e. absurd (let k : true ≡ false = sym e ∙ first in cc);
      works = c.feed.ensures.works ∙ (ap is_err c.in_ok-feed.was ∙ sym first);
      fit = c.feed.ensures.fit;
      table = c.feed.ensures.table ∙ c.feeds.invariant.table;
      takes = taken_on c.args.queue.now c.feeds.queue c.feed.new.queue c.feeds.invariant.takes
          c.in_ok-feed.ensures.takes;
      reads = λ rest final l. c.feeds.invariant.reads rest final (c.in_ok-feed.ensures.reads rest final l);
    }
