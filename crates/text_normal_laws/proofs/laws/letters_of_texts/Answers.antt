use Rattle.text_normal_laws.proofs.LetterLemmas.{letters_sourced, letters_joined, no_marker_sourced, no_more_markers}
use Rattle.text_normal_laws.proofs.laws.letters_of_texts.Goals as goal

pub returns : goal.returns
returns g c =
    record {
      text = λ cs main further. letters_sourced cs main further;
      joined = λ front back. letters_joined front back;
      no_marker = λ cs main further. no_marker_sourced cs main further;
      no_more = λ front back none more. no_more_markers front back none more;
    }
