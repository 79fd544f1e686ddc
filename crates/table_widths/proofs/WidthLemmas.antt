-- The widths that a function gives are those that the relation says.
use Rattle.std.proofs.Common.{◌≡◌, ◌+◌, ◌-◌, ◌<◌, ◌≤◌, if◌then◌else◌, [], ◌∷◌, Bool, List, arith, false, length, map}
use Rattle.std.proofs.Common.{nat_le, nat_lt, refl, subst, sum_by, true, ℕ}
use Rattle.std.proofs.lemmas.Bool.Decides.{nat_tests}
use Rattle.std.proofs.lemmas.List.FromFn.{length-map-range_with_len, get_or-map-range_with_len}
use Rattle.std.proofs.lemmas.List.Sums.{sum_by-cons}
use Rattle.table_widths.specs.declared.column.ColumnShare.{ColumnShare}
use Rattle.table_widths.specs.TheWidths.{level_of, width_of_column, lowered, cut_widths, widths_of}
use Rattle.table_widths.specs.Widths.{IsColumnWidths, IsLevel, IsLowered, filled, least_of, room_of, separators}
use Rattle.table_widths.specs.Widths.{share_of, slack_of}
use Rattle.table_widths.proofs.FirstLemmas.{IsFirst, first_is}
use Rattle.table_widths.proofs.LevelLemmas.{filled-room}

pub level_is : (cs : List ColumnShare) (room : ℕ) → room ≤ sum_by slack_of cs → IsLevel cs room (level_of cs room)
unfolding level_of
level_is cs room le = of (level_of cs room) (first_is (λ level. nat_le room (filled level cs)) room)
  where
    of : (level : ℕ) → IsFirst (λ level. nat_le room (filled level cs)) room level → IsLevel cs room level
    of level first = record {
      reaches = at_first (nat_lt level room) refl;
      least = λ lower reaches. below lower reaches (nat_lt lower level) refl;
    }
      where
        at_first : (b : Bool) → nat_lt level room ≡ b → room ≤ filled level cs
        at_first true e =
            let passes : nat_le room (filled level cs) ≡ true = first.passes (grind (arith, nat_tests)) in
            grind (arith, nat_tests)
        at_first false e =
            let within = first.within in
            let same : room ≡ level = grind (arith, nat_tests) in
            subst (λ (n : ℕ). room ≤ filled n cs) same (filled-room room cs le)

        below : (lower : ℕ) → room ≤ filled lower cs → (b : Bool) → nat_lt lower level ≡ b → level ≤ lower
        below lower reaches true e =
            let fails : nat_le room (filled lower cs) ≡ false = first.fails lower (grind (arith, nat_tests)) in
            grind (arith, nat_tests)
        below lower reaches false e = grind (arith, nat_tests)

lowered_is : (cs : List ColumnShare) (level less : ℕ) → IsLowered cs level less (lowered cs level less)
lowered_is cs level less = record {
  same = length-map-range_with_len (width_of_column cs level less) 0 (length cs);
  each = λ i lt.
      get_or-map-range_with_len (width_of_column cs level less) 0 (length cs) i i 0 lt (omega arith);
}

-- shares are leasts and slacks at most
shares_less : (cs : List ColumnShare) → sum_by share_of cs ≤ sum_by least_of cs + sum_by slack_of cs
shares_less [] = omega arith
shares_less (c ∷ cs) =
    let rest = shares_less cs in
    let a = sum_by-cons least_of c cs in let b = sum_by-cons slack_of c cs in let w = sum_by-cons share_of c cs in
    omega arith

pub have_widths : (cs : List ColumnShare) (width : ℕ) → sum_by least_of cs + separators cs ≤ width →
    IsColumnWidths cs width (widths_of cs width)
unfolding widths_of
have_widths cs width fit = by (nat_le (sum_by share_of cs + separators cs) width) refl
  where
    by : (b : Bool) → nat_le (sum_by share_of cs + separators cs) width ≡ b →
        IsColumnWidths cs width (if b then map share_of cs else cut_widths cs (room_of cs width))
    by true e =
        let le : sum_by share_of cs + separators cs ≤ width = grind (arith, nat_tests) in
        record { fit = λ _. refl; cut = λ over. absurd (omega arith) }
    by false e =
        let over : width < sum_by share_of cs + separators cs = grind (arith, nat_tests) in
        let less = shares_less cs in
        record {
          fit = λ le. absurd (omega arith);
          cut = λ _. record {
            level = level_of cs (room_of cs width);
            is_level = level_is cs (room_of cs width) (omega arith);
            is_lowered = lowered_is cs (level_of cs (room_of cs width))
                (filled (level_of cs (room_of cs width)) cs - room_of cs width);
          };
        }
