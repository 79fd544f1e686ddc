-- The element below the current node, and what the end tag of a frameset comes to by it.
use Rattle.std.proofs.Common.{◌≡◌, ◌==◌, if◌then◌else◌, [], ◌∷◌, ◌∙◌, Bool, IfSome, List, None, Option, Some, ap, arith}
use Rattle.std.proofs.Common.{codes, false, option_map, refl, sym, true, ℕ}
use Rattle.std.proofs.lemmas.Bool.Decides.{nat_tests}
use Rattle.tree_forest.specs.Forest.{is_in, name_of}
use Rattle.html_lexemes.specs.declared.token.TokenSinkResult.TheVariants.{Continue}
use Rattle.html_tree_state.specs.OpenElements.{below_current, first_of}
use Rattle.tree_names.specs.Sets.{is_html}
use Rattle.rules_actions.specs.Outcomes.{finished, outcome}
use Rattle.rules_table.specs.Actions.{act, go_to, is_known, pop}
use Rattle.rules_table.specs.Framesets.{frameset_closed}
use Rattle.rules_table.specs.Rows.{done}
use Rattle.rules_table.specs.State.{State}
use Rattle.tree_predicates.specs.declared.modes.InsertionMode.TheVariants.{AfterFrameset}

second_is_in : (n m k : ℕ) (ns : List ℕ) → Some m ≡ Some k → is_in k (n ∷ m ∷ ns) ≡ true
second_is_in n m k ns e = among (k == n) (k == m) (is_in k ns) (grind (arith, nat_tests, e)) where
  among : (a b u : Bool) → b ≡ true → (if a then true else (if b then true else u)) ≡ true
  among true b u e = refl
  among false b u e = ap (λ b. if b then true else u) e

-- it is an open element
pub is_opened_below : {H : Type 0} → (number : H → ℕ) (r : Option H) (ns : List ℕ) →
    option_map number r ≡ first_of (below_current ns) → IfSome r (λ x. is_in (number x) ns ≡ true)
is_opened_below number None ns e = tt
is_opened_below number (Some x) [] e = absurd (cc)
is_opened_below number (Some x) (n ∷ []) e = absurd (cc)
is_opened_below number (Some x) (n ∷ m ∷ ns) e = second_is_in n m (number x) ns (sym e)

-- after the outermost frameset of a page the mode is another
outermost_closed : (ns : List ℕ) (s : State) (m : ℕ) → Some m ≡ first_of (below_current ns) →
    is_known s.context ≡ false → is_html (codes "frameset") (name_of m s.tree.forest) ≡ false →
    frameset_closed ns s ≡ done (pop ∷ go_to AfterFrameset ∷ [])
outermost_closed [] s m e page other = absurd (cc)
outermost_closed (n ∷ []) s m e page other = absurd (cc)
outermost_closed (n ∷ k ∷ ns) s m e page other =
    ap (λ b. if b then done (pop ∷ []) else if is_html (codes "frameset") (name_of k s.tree.forest) then done (pop ∷ [])
    else done (pop ∷ go_to AfterFrameset ∷ [])) page
    ∙ ap (λ b. if b then done (pop ∷ []) else done (pop ∷ go_to AfterFrameset ∷ []))
    (ap (λ n. is_html (codes "frameset") (name_of n s.tree.forest)) (same e) ∙ other) where
      same : {A : Type 0} {x y : A} → Some x ≡ Some y → y ≡ x
      same e = cc

pub outermost_is_closed : {H : Type 0} → (handle : ℕ → H) (ns : List ℕ) (s popped new : State) (m : ℕ) →
    Some m ≡ first_of (below_current ns) → is_known s.context ≡ false →
    is_html (codes "frameset") (name_of m s.tree.forest) ≡ false →
    popped ≡ act pop s → new ≡ act (go_to AfterFrameset) popped →
    finished Continue new ≡ outcome handle (frameset_closed ns s) s
outermost_is_closed handle ns s popped new m e page other is_popped is_gone =
    ap (λ v. finished Continue v) (is_gone ∙ ap (act (go_to AfterFrameset)) is_popped)
    ∙ sym (ap (λ r. outcome handle r s) (outermost_closed ns s m e page other))
