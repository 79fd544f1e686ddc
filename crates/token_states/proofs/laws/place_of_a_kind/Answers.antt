use Rattle.token_states.proofs.PlaceKindLemmas.{at_place}
use Rattle.token_states.proofs.laws.place_of_a_kind.Goals as goal

pub returns : goal.returns
returns c = λ table foreign mode place held h. at_place table foreign mode place held h
