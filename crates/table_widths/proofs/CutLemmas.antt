-- Where the shares fit, and where they don't.
use Rattle.std.proofs.Common.{◌≡◌, ℕ, ◌+◌, ◌-◌, ◌<◌, ◌≤◌, List, All, map, sum_by, ap, subst, ◌∙◌, arith}
use Rattle.table_widths.specs.declared.column.ColumnShare.{ColumnShare}
use Rattle.table_widths.specs.Widths.{IsColumnWidths, IsLevel, IsLowered, filled, least_of, room_of, separators}
use Rattle.table_widths.specs.Widths.{share_of, slack_of}
use Rattle.table_widths.proofs.LevelLemmas.{least_and_slack}

module _ (cs : List ColumnShare) (width room : ℕ) (within : All (λ c. c.least ≤ c.share) cs)
    (fit : sum_by least_of cs + separators cs ≤ width) (room-is : room ≡ room_of cs width) where
  pub fits_now : (w : List ℕ) → sum_by slack_of cs ≤ room → w ≡ map share_of cs → IsColumnWidths cs width w
  fits_now w le e =
      let whole = least_and_slack cs within in
      record { fit = λ _. e; cut = λ lt. absurd (omega arith) }

  pub cut_now : (w : List ℕ) (level less : ℕ) → room < sum_by slack_of cs → IsLevel cs room level →
      less ≡ filled level cs - room →
      IsLowered cs level less w → IsColumnWidths cs width w
  cut_now w level less lt is less-is low =
      let whole = least_and_slack cs within in
      record {
        fit = λ le. absurd (omega arith);
        cut = λ _. record {
          level = level;
          is_level = rw room-is at is;
          is_lowered = subst (λ (n : ℕ). IsLowered cs level n w) (less-is ∙ ap (λ (n : ℕ). filled level cs - n) room-is)
              low;
        };
      }
