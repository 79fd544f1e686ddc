use Rattle.lex_base.proofs.FindLemmas.{at_place, found_number, no_number}
use Rattle.lex_base.proofs.find.candidate.Goals as goal

pub returns-in-Some : goal.returns-in-Some
returns-in-Some c known is = found_number c.args.all.now c.from.result c.in-Some.known.now known
    c.in-Some.ensures.lookup.3
    (at_place c.args.numbers.now c.args.all.now c.args.name.now _ _ known c.place_of.ensures.place c.from.ensures is
    c.requires)

pub returns-in-None : goal.returns-in-None
returns-in-None c known is = no_number c.args.all.now c.from.result known c.in-None.ensures.lookup.3
    (at_place c.args.numbers.now c.args.all.now c.args.name.now _ _ known c.place_of.ensures.place c.from.ensures is
    c.requires)
