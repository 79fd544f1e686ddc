use Rattle.std.proofs.Common.{[], ◌∷◌, codes, refl}
use Rattle.html_lexemes.proofs.rows.eaten_of_rows.Goals as goal

pub returns-clause-ends : goal.returns-clause-ends
returns-clause-ends c =
    record {
      begun = codes "doct";
      next = 121;
      more = codes "pe";
      pattern_is = refl;
      same = (refl, (refl, (refl, (refl, tt))));
    }

pub returns-clause-nothing_left : goal.returns-clause-nothing_left
returns-clause-nothing_left c = record { begun = []; next = 100; more = codes "octype"; pattern_is = refl; same = tt }

pub returns-clause-differs : goal.returns-clause-differs
returns-clause-differs c =
    record {
      front = 68 ∷ [];
      begun = 100 ∷ [];
      found = 120;
      wanted = 111;
      after = [];
      more = codes "ctype";
      text_is = refl;
      pattern_is = refl;
      same = (refl, tt);
      differs = refl;
    }
