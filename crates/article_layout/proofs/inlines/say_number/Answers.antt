use Rattle.std.proofs.Common.{rules}
use Rattle.std.proofs.lemmas.Str.{chars-nil}
use Rattle.article_layout.proofs.inlines.say_number.Goals as goal

pub returns-then-not-room-clause-done : goal.returns-then-not-room-clause-done
returns-then-not-room-clause-done c = let said = c.say.ensures.done c.args.targets.now in search
    (rules, chars-nil, said)

pub returns-then-not-room-clause-narrow : goal.returns-then-not-room-clause-narrow
returns-then-not-room-clause-narrow c =
    let said = c.say.ensures.narrow c.args.targets.now in search (rules, chars-nil, said)

pub returns-clause-done : goal.returns-clause-done
returns-clause-done c =
    let said = c.say-2.ensures.done c.last_number.new.self in search (rules, said)

pub returns-clause-narrow : goal.returns-clause-narrow
returns-clause-narrow c =
    let said = c.say-2.ensures.narrow c.last_number.new.self in search (rules, said)
