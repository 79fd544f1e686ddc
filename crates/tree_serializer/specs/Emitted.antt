-- A serializer that is given calls, one after the other: to their end, up to one that it refuses, or as far as memory
-- is found.
use Rattle.std.specs.Prelude.{List, [], ◌∷◌}
use Rattle.tree_serializer.specs.Calls.{Call, Reply, done, refused}
use Rattle.tree_serializer.specs.declared.fault.SerializeFault.{SerializeFault}
use Rattle.tree_serializer.specs.declared.fault.SerializeFault.TheVariants.{Memory}

-- by what one call makes of a serializer's state, with its reply
pub data IsEmitted {S : Type 0} (means : S → Call → Reply → S → Type 0) : S → List Call → Reply → S → Type 0 where
  all : (s : S) → IsEmitted means s [] done s
  further : (s t : S) (call : Call) (calls : List Call) (reply : Reply) (u : S) → means s call done t →
      IsEmitted means t calls reply u → IsEmitted means s (call ∷ calls) reply u
  cut : (s t : S) (call : Call) (calls : List Call) (fault : SerializeFault) → means s call (refused fault) t →
      IsEmitted means s (call ∷ calls) (refused fault) t
  out_of_memory : (s : S) (calls : List Call) → IsEmitted means s calls (refused Memory) s
