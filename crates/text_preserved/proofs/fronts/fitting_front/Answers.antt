use Rattle.std.proofs.Common.{ap, ◌++◌, sym, chars, inl}
use Rattle.std.proofs.lemmas.Str.{chars-nil}
use Rattle.text_preserved.proofs.fronts.fitting_front.Goals as goal

pub returns-in-None-clause-parts : goal.returns-in-None-clause-parts
returns-in-None-clause-parts c = sym (ap (λ cs. cs ++ chars c.args.text.now) chars-nil)

pub returns-in-None-clause-fits : goal.returns-in-None-clause-fits
returns-in-None-clause-fits c = inl chars-nil
