-- There is a column to be lowered next, until the columns fit.
use Rattle.std.proofs.Common.{◌≡◌, ◌+◌, ◌-◌, ◌<◌, ◌≤◌, ◌&&◌, ◌||◌, [], ◌∷◌, ◌∙◌, Bool, List, add-one, arith, cond}
use Rattle.std.proofs.Common.{false, get_or, length, map, nat_eq, nat_lt, refl, set, subst, suc, sum, sum_by, sym, true}
use Rattle.std.proofs.Common.{zero, ℕ}
use Rattle.std.proofs.lemmas.Bool.Decides.{nat_tests}
use Rattle.std.proofs.lemmas.List.{get_or-map, length-map, length-set}
use Rattle.std.proofs.lemmas.List.Sums.{sum_by-cons}
use Rattle.table_widths.specs.declared.column.ColumnShare.{ColumnShare}
use Rattle.table_widths.specs.Widths.{column_at, least_of, separators, share_of}
use Rattle.table_widths.specs.OneByOne.{excess_at, ComesFirst, IsOneTaken, HasTurns, passed_by}
use Rattle.table_widths.proofs.FairLemmas.{sum_up}
use Rattle.table_widths.proofs.TotalLemmas.{sum_map}
use Rattle.table_widths.proofs.TurnLemmas.{taken_sum}

abbrev is_better : List ColumnShare → List ℕ → ℕ → ℕ → Bool
is_better cs ws i j = nat_lt (excess_at cs ws i) (excess_at cs ws j) ||
    (nat_eq (excess_at cs ws i) (excess_at cs ws j) && nat_lt (get_or ws i 0) (get_or ws j 0))

best : List ColumnShare → List ℕ → ℕ → ℕ
best cs ws zero = 0
best cs ws (suc n) = cond (is_better cs ws (best cs ws n) n) n (best cs ws n)

-- the better of the best so far and the next
record IsBest (cs : List ColumnShare) (ws : List ℕ) (n b : ℕ) : Type 0 where
  within : 0 < n → b < n
  low : b ≤ n
  first : (j : ℕ) → j < n → ComesFirst cs ws b j

better : (t : Bool) (cs : List ColumnShare) (ws : List ℕ) (n b : ℕ) → is_better cs ws b n ≡ t → IsBest cs ws n b →
    IsBest cs ws (suc n) (cond t n b)
better true cs ws n b e h =
    record { within = λ _. omega arith; low = omega arith; first = λ j lt. by j lt (nat_lt j n) refl }
  where
    by : (j : ℕ) → j < suc n → (t : Bool) → nat_lt j n ≡ t → ComesFirst cs ws n j
    by j lt true f =
        let one = h.first j (grind (arith, nat_tests)) in
        let high = one.excess in
        record {
          excess = grind (arith, nat_tests);
          width = λ x. let same : excess_at cs ws b ≡ excess_at cs ws j = grind (arith, nat_tests) in let w =
              one.width same in grind (arith, nat_tests);
          place = λ x y. let same : excess_at cs ws b ≡ excess_at cs ws j = grind (arith, nat_tests) in let w =
              one.width same in grind (arith, nat_tests);
        }
    by j lt false f =
        let same : n ≡ j = grind (arith, nat_tests) in
        subst (ComesFirst cs ws n) same
        (record { excess = omega arith; width = λ x. omega arith; place = λ x y. omega arith })
better false cs ws n b e h =
    record {
      within = λ _. let l = h.low in omega arith;
      low = let l = h.low in omega arith;
      first =
          λ j lt. by j lt (nat_lt j n) refl;
    }
  where
    by : (j : ℕ) → j < suc n → (t : Bool) → nat_lt j n ≡ t → ComesFirst cs ws b j
    by j lt true f = h.first j (grind (arith, nat_tests))
    by j lt false f =
        let same : n ≡ j = grind (arith, nat_tests) in
        let l = h.low in
        subst (ComesFirst cs ws b) same
        (record { excess = grind (arith, nat_tests); width = λ x. grind (arith, nat_tests); place = λ x y. l })

is_best : (cs : List ColumnShare) (ws : List ℕ) (n : ℕ) → IsBest cs ws n (best cs ws n)
unfolding best
is_best cs ws zero =
    record { within = λ lt. absurd (omega arith); low = omega arith; first = λ j lt. absurd (omega arith) }
is_best cs ws (suc n) = better (is_better cs ws (best cs ws n) n) cs ws n (best cs ws n) refl (is_best cs ws n)

turn : List ColumnShare → List ℕ → List ℕ
turn cs ws = set ws (best cs ws (length ws)) (get_or ws (best cs ws (length ws)) 0 - 1)

turns_of : List ColumnShare → ℕ → List ℕ
turns_of cs zero = map share_of cs
turns_of cs (suc k) = turn cs (turns_of cs k)

some_columns : (ws : List ℕ) (x : ℕ) → x < sum ws → 0 < length ws
some_columns [] x lt = absurd (omega arith)
some_columns (w ∷ ws) x lt = omega arith

leasts_sum : (cs : List ColumnShare) → sum (map least_of cs) ≡ sum_by least_of cs
leasts_sum [] = omega arith
leasts_sum (c ∷ cs) =
    let rest = leasts_sum cs in let a = sum_by-cons (λ (x : ℕ). x) c.least (map least_of cs) in let b =
    sum_by-cons least_of c cs in omega arith

-- columns that take more than their leasts have one that is lowered next
can_take : (cs : List ColumnShare) (ws : List ℕ) → length ws ≡ length cs → sum_by least_of cs < sum ws →
    IsOneTaken cs ws (turn cs ws)
unfolding turn
can_take cs ws same over = record {
  place = best cs ws (length ws);
  within = first.within (some_columns ws (sum_by least_of cs) over);
  some = by (nat_lt (column_at cs (best cs ws (length ws))).least (get_or ws (best cs ws (length ws)) 0)) refl;
  first = first.first;
  is = refl;
}
  where
    first : IsBest cs ws (length ws) (best cs ws (length ws))
    first = is_best cs ws (length ws)

    by : (t : Bool) → nat_lt (column_at cs (best cs ws (length ws))).least (get_or ws (best cs ws (length ws)) 0) ≡ t →
        (column_at cs (best cs ws (length ws))).least < get_or ws (best cs ws (length ws)) 0
    by true e = grind (arith, nat_tests)
    by false e =
        let low : get_or ws (best cs ws (length ws)) 0 ≤ (column_at cs (best cs ws (length ws))).least =
        grind (arith, nat_tests) in
        let all = sum_up ws (map least_of cs) (same ∙ sym (length-map cs least_of))
        (λ j lt. let f = first.first j lt in let high = f.excess in let e =
        get_or-map least_of cs j (record { least = 0; share = 0 }) 0 (omega arith) in omega arith) in
        let s = leasts_sum cs in absurd (omega arith)

-- what holds at each turn
record IsTurn (cs : List ColumnShare) (k : ℕ) (ws : List ℕ) : Type 0 where
  same : length ws ≡ length cs
  total : sum ws + k ≡ sum_by share_of cs

module _ (cs : List ColumnShare) (width : ℕ) (fit : sum_by least_of cs + separators cs ≤ width) where
  next : (k : ℕ) → k < passed_by cs width → IsTurn cs k (turns_of cs k) →
      IsOneTaken cs (turns_of cs k) (turns_of cs (suc k))
  unfolding turns_of
  next k lt h = let t = h.total in can_take cs (turns_of cs k) h.same (omega arith)

  at_turn : (k : ℕ) → k ≤ passed_by cs width → IsTurn cs k (turns_of cs k)
  unfolding turns_of turn
  at_turn zero le = record { same = length-map cs share_of; total = let s = sum_map cs in omega arith }
  at_turn (suc k) le =
      let old = at_turn k (omega arith) in
      let one = next k (omega arith) old in
      record {
        same = length-set (turns_of cs k) (best cs (turns_of cs k) (length (turns_of cs k)))
            (get_or (turns_of cs k) (best cs (turns_of cs k) (length (turns_of cs k))) 0 - 1) ∙ old.same;
        total = let s = taken_sum cs (turns_of cs k) (turns_of cs (suc k)) one in let t = old.total in omega arith;
      }

  pub has_turns : HasTurns cs (passed_by cs width)
  unfolding turns_of
  has_turns = record {
    turns = turns_of cs;
    are = record {
      begins = refl;
      each = λ k lt. subst (λ (n : ℕ). IsOneTaken cs (turns_of cs k) (turns_of cs n)) (sym (add-one k))
          (next k lt (at_turn k (omega arith)));
    };
  }
