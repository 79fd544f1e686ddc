use Rattle.text_normal.proofs.UnitsMarks.{wider_letter_marked, never_fits, are_lines}
use Rattle.text_normal_laws.proofs.units_laws.letters_are_marked.Goals as goal

pub returns : goal.returns
returns c = record {
  marked = λ w read before after front back l n split solid columns.
      let at = wider_letter_marked w read before after front back l n split solid columns in
      (at.front, at.here, at.back, at.whole, at.same);
  never = λ w none read front back l split solid wide. never_fits w none read front back l split solid wide;
  lines = λ w overflow read fullest. are_lines w overflow read fullest;
}
