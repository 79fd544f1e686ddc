-- A prefix and the room after it.
use Rattle.std.proofs.Common.{◌≡◌, ℕ, ◌+◌, ◌-◌, ◌≤◌, Bool, true, false, None, Some, IfSome, refl, arith}
use Rattle.std.specs.Prelude.{nat_le, max, IsSome, if◌then◌else◌}
use Rattle.std.proofs.lemmas.Bool.Decides.{nat_tests}
use Rattle.block_trait.specs.Renderers.{Sub, room_after}

pub within : {H A : Type 0} (prefix least : ℕ) (s : Sub H A) → s.options.allow_width_overflow ≡ false
    → IfSome (room_after prefix least s) (λ n. (prefix + n ≡ s.width) × ((1 ≤ n) × (least ≤ n)))
within prefix least s off =
    by_room (nat_le (max least 1) (s.width - prefix)) refl s.options.allow_width_overflow off
  where
    by_room : (fits : Bool) → nat_le (max least 1) (s.width - prefix) ≡ fits → (overflow : Bool)
        → overflow ≡ false → IfSome (if fits then Some (s.width - prefix)
        else if overflow then Some (max least 1) else None)
        (λ n. (prefix + n ≡ s.width) × ((1 ≤ n) × (least ≤ n)))
    by_room true fits overflow off =
        let room : max least 1 ≤ s.width - prefix = grind (arith, nat_tests) in
        (omega (arith, room), (omega (arith, room), omega (arith, room)))
    by_room false fits true off = cc
    by_room false fits false off = tt

pub beyond : {H A : Type 0} (prefix least : ℕ) (s : Sub H A) → s.options.allow_width_overflow ≡ true
    → IsSome (room_after prefix least s)
beyond prefix least s on =
    by_room (nat_le (max least 1) (s.width - prefix)) s.options.allow_width_overflow on
  where
    by_room : (fits overflow : Bool) → overflow ≡ true → IsSome (if fits then Some (s.width - prefix)
        else if overflow then Some (max least 1) else None)
    by_room true overflow on = refl
    by_room false true on = refl
    by_room false false on = cc
