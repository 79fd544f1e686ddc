-- Children that stand side by side, from one of them to another.
use Rattle.std.specs.Prelude.{◌≡◌, ◌<◌, [], ◌∷◌, ◌==◌, if◌then◌else◌, Bool, List, None, Option, Some, false, suc, zero}
use Rattle.std.specs.Prelude.{ℕ}
use Rattle.tree_forest.specs.Orders.{AreDistinct, IsIn}
use Rattle.html_render_dom.specs.Siblings.{AreNeighbours, Links, link_at, sibling}

abbrev pub is_at : ℕ → Option ℕ → Bool
is_at n None = false
is_at n (Some m) = n == m

-- from a child on, each next one, to the last
abbrev pub span : List (Option ℕ) → ℕ → Option ℕ → Option ℕ → List ℕ
span next steps None back = []
span next zero (Some c) back = []
span next (suc steps) (Some c) back = c ∷ (if is_at c back then [] else span next steps (link_at c next) back)

-- children after one, each beside the one before it, to the last
abbrev pub IsSpanFrom : Links → ℕ → List ℕ → Option ℕ → Type 0
IsSpanFrom l c [] back = back ≡ Some c
IsSpanFrom l c (d ∷ cs) back = AreNeighbours (sibling c) (sibling d) l × IsSpanFrom l d cs back

abbrev pub IsSpan : Links → Option ℕ → List ℕ → Option ℕ → Type 0
IsSpan l front [] back = (front ≡ None) × (back ≡ None)
IsSpan l front (c ∷ cs) back = (front ≡ Some c) × IsSpanFrom l c cs back

-- the children that are left, of so many nodes
pub record IsLeft (l : Links) (k : ℕ) (front back : Option ℕ) : Type 0 where
  pub numbers : List ℕ
  pub spans : IsSpan l front numbers back
  pub distinct : AreDistinct numbers
  pub within : (n : ℕ) → IsIn n numbers → n < k
