-- Turns of the loop that takes one column of text at a time.
use Rattle.std.proofs.Common.{◌≡◌, ◌+◌, ◌-◌, ◌<◌, ◌≤◌, ◌∙◌, All, Bool, List, add-one, ap, arith, false, get_or, length}
use Rattle.std.proofs.Common.{map, nat_eq, nat_le, refl, set, subst, suc, sum, sum_by, sym, true, zero, ℕ}
use Rattle.std.proofs.lemmas.Bool.Decides.{nat_tests}
use Rattle.std.proofs.lemmas.List.{get_or-map, get_or-set_same, get_or-set_other, length-map, length-set}
use Rattle.std.proofs.lemmas.List.Sums.{sum_by-set}
use Rattle.table_widths.specs.declared.column.ColumnShare.{ColumnShare}
use Rattle.table_widths.specs.Widths.{column_at, IsColumnWidths, least_of, separators, share_of}
use Rattle.table_widths.specs.OneByOne.{excess_at, ComesFirst, IsOneTaken, AreTurns, passed_by}
use Rattle.table_widths.proofs.FairLemmas.{IsSooner, AreFair, one_fair, widths_fair}
use Rattle.table_widths.proofs.TotalLemmas.{sum_law, sum_map}

shares_fair : (cs : List ColumnShare) → All (λ c. c.least ≤ c.share) cs → AreFair cs (map share_of cs)
shares_fair cs within = record {
  same = length-map cs share_of;
  above = λ i lt. let e = get_or-map share_of cs i none 0 lt in let w = within i none lt in omega arith;
  below = λ i lt. let e = get_or-map share_of cs i none 0 lt in omega arith;
  fair = λ i j lt j_lt under over. let e = get_or-map share_of cs i none 0 lt in absurd (omega arith);
}
  where
    none : ColumnShare
    none = record { least = 0; share = 0 }

taken_fair : (cs : List ColumnShare) (old new : List ℕ) → AreFair cs old → IsOneTaken cs old new → AreFair cs new
taken_fair cs old new h t = subst (AreFair cs) (sym t.is) (record {
  same = length-set old t.place (get_or old t.place 0 - 1) ∙ h.same;
  above = λ i lt. above i lt (nat_eq i t.place) refl;
  below = λ i lt. below i lt (nat_eq i t.place) refl;
  fair = λ i j lt j_lt under over. fair i j lt j_lt under over (nat_eq i t.place) (nat_eq j t.place) refl refl;
})
  where
    now : List ℕ
    now = set old t.place (get_or old t.place 0 - 1)

    here : (i : ℕ) → i ≡ t.place → get_or now i 0 ≡ get_or old t.place 0 - 1
    here i e = subst (λ (n : ℕ). get_or now n 0 ≡ get_or old t.place 0 - 1) (sym e)
        (get_or-set_same old t.place (get_or old t.place 0 - 1) 0 t.within)

    there : (i : ℕ) → (i ≡ t.place → ⊥) → get_or now i 0 ≡ get_or old i 0
    there i ne = get_or-set_other old t.place i (get_or old t.place 0 - 1) 0 ne

    above : (i : ℕ) → i < length cs → (b : Bool) → nat_eq i t.place ≡ b → (column_at cs i).least ≤ get_or now i 0
    above i lt true e = let same : i ≡ t.place = grind (arith, nat_tests) in let n = here i same in
        let some = subst (λ (n : ℕ). (column_at cs n).least < get_or old t.place 0) (sym same) t.some in omega arith
    above i lt false e = let ne : i ≡ t.place → ⊥ = λ x. grind (arith, nat_tests) in let n = there i ne in let a =
        h.above i lt in omega arith

    below : (i : ℕ) → i < length cs → (b : Bool) → nat_eq i t.place ≡ b → get_or now i 0 ≤ (column_at cs i).share
    below i lt true e = let same : i ≡ t.place = grind (arith, nat_tests) in let n = here i same in
        let a = subst (λ (n : ℕ). get_or old n 0 ≤ (column_at cs i).share) same (h.below i lt) in omega arith
    below i lt false e = let ne : i ≡ t.place → ⊥ = λ x. grind (arith, nat_tests) in let n = there i ne in let a =
        h.below i lt in omega arith

    fair : (i j : ℕ) → i < length cs → j < length cs → get_or now i 0 < (column_at cs i).share →
        (column_at cs j).least < get_or now j 0 →
        (b c : Bool) → nat_eq i t.place ≡ b → nat_eq j t.place ≡ c →
        IsSooner (excess_at cs now i + 1) (column_at cs i).least i (excess_at cs now j) (column_at cs j).least j
    fair i j lt j_lt under over true true e f =
        let same : i ≡ t.place = grind (arith, nat_tests) in let other : j ≡ i = grind (arith, nat_tests) in
        let n = here i same in let m : get_or now j 0 ≡ get_or now i 0 = ap (λ (k : ℕ). get_or now k 0) other in
        let l : (column_at cs j).least ≡ (column_at cs i).least = ap (λ (k : ℕ). (column_at cs k).least) other in
        record { high = omega arith; wide = λ x. omega arith; place = λ x y. absurd (omega arith) }
    fair i j lt j_lt under over true false e f =
        let same : i ≡ t.place = grind (arith, nat_tests) in let ne : j ≡ t.place → ⊥ = λ x. grind (arith, nat_tests) in
        let n = here i same in let m = there j ne in
        let first : ComesFirst cs old i j =
        subst (λ (k : ℕ). ComesFirst cs old k j) (sym same) (t.first j (let s = h.same in omega arith)) in
        let w : get_or old t.place 0 ≡ get_or old i 0 = ap (λ (k : ℕ). get_or old k 0) (sym same) in
        let some : (column_at cs i).least < get_or old i 0 =
        subst (λ (k : ℕ). (column_at cs k).least < get_or old k 0) (sym same) t.some in
        let apart : j ≡ i → ⊥ = λ x. ne (x ∙ same) in
        let aj = h.above j j_lt in
        let high = first.excess in
        record {
          high = omega arith;
          wide = λ x. let z = first.width (omega arith) in omega arith;
          place = λ x y. let z = first.place (omega arith) (omega arith) in grind (arith, apart);
        }
    fair i j lt j_lt under over false true e f =
        let ne : i ≡ t.place → ⊥ = λ x. grind (arith, nat_tests) in let same : j ≡ t.place = grind (arith, nat_tests) in
        let n = there i ne in let m = here j same in
        let w : get_or old t.place 0 ≡ get_or old j 0 = ap (λ (k : ℕ). get_or old k 0) (sym same) in
        let some : (column_at cs j).least < get_or old j 0 =
        subst (λ (k : ℕ). (column_at cs k).least < get_or old k 0) (sym same) t.some in
        let s = h.fair i j lt j_lt (omega arith) some in
        let high = s.high in
        record { high = omega arith; wide = λ x. absurd (omega arith); place = λ x y. absurd (omega arith) }
    fair i j lt j_lt under over false false e f =
        let ne : i ≡ t.place → ⊥ = λ x. grind (arith, nat_tests) in let off : j ≡ t.place → ⊥ =
        λ x. grind (arith, nat_tests) in
        let n = there i ne in let m = there j off in
        let s = h.fair i j lt j_lt (omega arith) (omega arith) in
        let high = s.high in
        record { high = omega arith; wide = λ x. s.wide (omega arith); place = λ x y. s.place (omega arith) y }

pub taken_sum : (cs : List ColumnShare) (old new : List ℕ) → IsOneTaken cs old new → sum new + 1 ≡ sum old
taken_sum cs old new t =
    let s = sum_by-set (λ (n : ℕ). n) old t.place (get_or old t.place 0 - 1) 0 t.within in
    let e : sum new ≡ sum (set old t.place (get_or old t.place 0 - 1)) = ap (λ (xs : List ℕ). sum xs) t.is in
    let some = t.some in omega arith

-- what holds at each turn
record IsAt (cs : List ColumnShare) (k : ℕ) (ws : List ℕ) : Type 0 where
  fair : AreFair cs ws
  total : sum ws + k ≡ sum_by share_of cs

at_turn : (cs : List ColumnShare) (count : ℕ) (turns : ℕ → List ℕ) → All (λ c. c.least ≤ c.share) cs →
    AreTurns cs count turns → (k : ℕ) → k ≤ count → IsAt cs k (turns k)
at_turn cs count turns within h zero le =
    subst (IsAt cs 0) (sym h.begins)
    (record { fair = shares_fair cs within; total = let s = sum_map cs in omega arith })
at_turn cs count turns within h (suc k) le =
    let old = at_turn cs count turns within h k (omega arith) in
    subst (λ (n : ℕ). IsAt cs n (turns n)) (add-one k)
    (let one = h.each k (omega arith) in
    record {
      fair = taken_fair cs (turns k) (turns (k + 1)) old.fair one;
      total = let s =
          taken_sum cs (turns k) (turns (k + 1)) one in let t = old.total in omega arith;
    })

pub turns_come_to : (cs : List ColumnShare) (width : ℕ) (ws : List ℕ) (turns : ℕ → List ℕ) →
    All (λ c. c.least ≤ c.share) cs →
    sum_by least_of cs + separators cs ≤ width → IsColumnWidths cs width ws → AreTurns cs (passed_by cs width) turns →
    turns (passed_by cs width) ≡ ws
turns_come_to cs width ws turns within fit are h = by (nat_le (sum_by share_of cs + separators cs) width) refl
  where
    by : (b : Bool) → nat_le (sum_by share_of cs + separators cs) width ≡ b → turns (passed_by cs width) ≡ ws
    by true e =
        let fits : sum_by share_of cs + separators cs ≤ width = grind (arith, nat_tests) in
        let none : passed_by cs width ≡ 0 = omega arith in
        ap (λ (n : ℕ). turns n) none ∙ h.begins ∙ sym (are.fit fits)
    by false e =
        let over : width < sum_by share_of cs + separators cs = grind (arith, nat_tests) in
        let last = at_turn cs (passed_by cs width) turns within h (passed_by cs width) (omega arith) in
        let total = last.total in
        let whole = sum_law cs width ws fit are over in
        one_fair cs (turns (passed_by cs width)) ws last.fair (widths_fair cs width ws within are over) (omega arith)
