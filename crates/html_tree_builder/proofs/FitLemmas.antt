-- What holds before an item of a page holds after it.
use Rattle.std.proofs.Common.{◌≡◌, ℕ, subst, sym}
use Rattle.token_grammar.specs.Items.{Item}
use Rattle.rules_table_laws.specs.Lawful.{meaning-lawful}
use Rattle.rules_table.specs.Settling.{step}
use Rattle.rules_table.specs.State.{State}
use Rattle.rules_table.specs.Welcome.{IsReady}

pub still_ready : (s t : State) (item : Item) → IsReady s → t ≡ step s item → IsReady t
still_ready s t item ready e = subst IsReady (sym e) ((meaning-lawful (λ (n : ℕ). n)).keeps s item ready)
