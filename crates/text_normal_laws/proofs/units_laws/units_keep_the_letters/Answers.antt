use Rattle.text_normal.proofs.UnitsLetters.{units_letters, unit_letters_fit, units_have_letters}
use Rattle.text_normal_laws.proofs.units_laws.units_keep_the_letters.Goals as goal

pub returns : goal.returns
returns c = record {
  same = λ read. units_letters read;
  fit = λ w read h. unit_letters_fit w read h;
  some = λ read. units_have_letters read;
}
