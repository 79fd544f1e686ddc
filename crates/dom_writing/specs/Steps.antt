-- A step of a walk.
use Rattle.std.specs.Prelude.{◌<◌, List, length}
use Rattle.tree_forest.specs.Forest.{Forest}
use Rattle.tree_serializer.specs.Calls.{Call, Reply}
use Rattle.tree_serializer.specs.Emitted.{IsEmitted}
use Rattle.dom_writing.specs.Turns.{AreReady, pending}
use Rattle.dom_writing.specs.declared.turn.Turn.{Turn}

-- Of some calls, those of the turns are left: what emits these after what was emitted emits all of them.
pub record IsStep {S : Type 0} (means : S → Call → Reply → S → Type 0) (f : Forest) (first : S) (calls : List Call)
    (now : S) (turns : List Turn) : Type 0 where
  pub emitted : (reply : Reply) (u : S) → IsEmitted means now (pending f turns) reply u →
      IsEmitted means first calls reply u
  pub ready : AreReady f turns
  pub falls : length (pending f turns) < length calls
