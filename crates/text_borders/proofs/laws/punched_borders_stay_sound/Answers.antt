use Rattle.text_borders.proofs.BorderLemmas.{length-punched, order_more, stands_at, punched_sound}
use Rattle.text_borders.proofs.laws.punched_borders_stay_sound.Goals as goal

pub returns-clause-place : goal.returns-clause-place
returns-clause-place g c = λ place items b order. stands_at place items b order

pub returns-clause-order : goal.returns-clause-order
returns-clause-order g c = λ place items b order. order_more 0 place items b.holes order

pub returns-clause-width : goal.returns-clause-width
returns-clause-width g c = λ place items b. length-punched place items b

pub returns-clause-sound : goal.returns-clause-sound
returns-clause-sound g c = λ place items b sound. punched_sound place items b sound
