use Rattle.dom_styles.proofs.CascadeLemmas.{one_holds}
use Rattle.dom_styles.proofs.laws.one_declaration_holds.Goals as goal

pub returns : goal.returns
returns g c = λ ds one another h k. one_holds ds one another h k
