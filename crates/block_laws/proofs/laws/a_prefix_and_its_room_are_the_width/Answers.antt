use Rattle.block_laws.proofs.PrefixLemmas.{within, beyond}
use Rattle.block_laws.proofs.laws.a_prefix_and_its_room_are_the_width.Goals as goal

pub returns-clause-within : goal.returns-clause-within
returns-clause-within g c = λ prefix least s off. within prefix least s off

pub returns-clause-beyond : goal.returns-clause-beyond
returns-clause-beyond g c = λ prefix least s on. beyond prefix least s on
