-- Columns have one list of widths.
use Rattle.std.proofs.Common.{◌≡◌, ◌+◌, ◌-◌, ◌<◌, ◌≤◌, ◌∙◌, Bool, List, arith, false, nat_le, refl, subst, sum_by, sym}
use Rattle.std.proofs.Common.{true, ℕ}
use Rattle.std.proofs.lemmas.Bool.Decides.{nat_tests}
use Rattle.std.proofs.lemmas.List.{ext_get_or}
use Rattle.table_widths.specs.declared.column.ColumnShare.{ColumnShare}
use Rattle.table_widths.specs.Widths.{IsColumnWidths, IsLevel, IsLowered, filled, room_of, separators, share_of}

one_level : (columns : List ColumnShare) (room a b : ℕ) → IsLevel columns room a → IsLevel columns room b → a ≡ b
one_level columns room a b h k = let l = h.least b k.reaches in let r = k.least a h.reaches in omega arith

one_lowered : (columns : List ColumnShare) (level less : ℕ) (first second : List ℕ) →
    IsLowered columns level less first → IsLowered columns level less second → first ≡ second
one_lowered columns level less first second h k =
    ext_get_or 0 first second (h.same ∙ sym k.same)
    (λ i lt. let s = h.same in h.each i (omega arith) ∙ sym (k.each i (omega arith)))

pub one_list : (columns : List ColumnShare) (width : ℕ) (first second : List ℕ) →
    IsColumnWidths columns width first → IsColumnWidths columns width second → first ≡ second
one_list columns width first second h k = by (nat_le (sum_by share_of columns + separators columns) width) refl
  where
    by : (b : Bool) → nat_le (sum_by share_of columns + separators columns) width ≡ b → first ≡ second
    by true e =
        let fits : sum_by share_of columns + separators columns ≤ width = grind (arith, nat_tests) in
        h.fit fits ∙ sym (k.fit fits)
    by false e =
        let over : width < sum_by share_of columns + separators columns = grind (arith, nat_tests) in
        let a = h.cut over in
        let b = k.cut over in
        let room = room_of columns width in
        let same = one_level columns room a.level b.level a.is_level b.is_level in
        one_lowered columns b.level (filled b.level columns - room) first second
        (subst (λ (l : ℕ). IsLowered columns l (filled l columns - room) first) same a.is_lowered) b.is_lowered
