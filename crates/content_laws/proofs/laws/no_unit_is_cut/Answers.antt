use Rattle.content_laws.proofs.UnitLemmas.{marks_whole, units_within}
use Rattle.content_laws.proofs.laws.no_unit_is_cut.Goals as goal

pub returns-clause-fits : goal.returns-clause-fits
returns-clause-fits g c = λ width letters narrow. units_within width letters narrow

pub returns-clause-whole : goal.returns-clause-whole
returns-clause-whole g c = λ width letters narrow. marks_whole width letters narrow
