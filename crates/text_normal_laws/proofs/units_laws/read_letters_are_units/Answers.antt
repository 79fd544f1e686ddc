use Rattle.text_normal.proofs.UnitsReading.{read_is_units}
use Rattle.text_normal_laws.proofs.units_laws.read_letters_are_units.Goals as goal

pub returns : goal.returns
returns c = record { units = λ w read. read_is_units w read }
