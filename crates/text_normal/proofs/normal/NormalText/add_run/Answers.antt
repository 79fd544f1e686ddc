use Rattle.std.proofs.Common.{refl, chars}
use Rattle.text_normal.proofs.NormalWords.{run_laid, run_held, run_further}
use Rattle.text_normal.proofs.normal.NormalText.add_run.Goals as goal

pub returns-in_ok-add_words-in-Some-clause-read : goal.returns-in_ok-add_words-in-Some-clause-read
returns-in_ok-add_words-in-Some-clause-read g c =
    let seen = g.T.EqualCopy.seen in
    run_further seen c.args.self.now c.add_word.new.self c.add_words.new.self (chars c.args.run.now)
    (chars c.args.rest.now) c.in-Some.trailing.now c.in_ok-add_words-in-Some.field-0.now (seen c.args.tag.now)
    (run_laid seen c.args.self.now c.add_word.new.self (chars c.args.run.now) c.columns_of-columns.result
    c.args.rest.now c.in-Some.trailing.now c.in-Some.c (seen c.args.tag.now) c.requires c.columns_of-columns.ensures
    c.in-Some.ensures.ends c.utf8.rest c.in_ok-add_word-in-Some.ensures.laid) c.in_ok-add_words-in-Some.ensures.read

pub returns-in_ok-push_counted-in-None-clause-read : goal.returns-in_ok-push_counted-in-None-clause-read
returns-in_ok-push_counted-in-None-clause-read g c =
    run_held g.T.EqualCopy.seen c.args.self.now _ (chars c.args.run.now) (chars c.args.rest.now)
    (g.T.EqualCopy.seen c.args.tag.now) c.requires refl refl refl c.in_ok-push_counted-in-None.ensures.ok
