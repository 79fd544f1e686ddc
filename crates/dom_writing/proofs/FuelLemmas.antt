-- The lines of a node go one step on, since a forest is no deeper than it has nodes.
use Rattle.std.proofs.Common.{◌≡◌, ℕ, suc, ◌+◌, false, List, [], ◌∷◌, ◌++◌, refl, sym, ap, ◌∙◌, inl, inr}
use Rattle.std.specs.Bool.{nat_lt}
use Rattle.tree_forest.specs.Forest.{Forest, children_at, document, kind_at, nodes}
use Rattle.tree_forest.specs.Orders.{IsForest, IsIn, child, of_child}
use Rattle.tree_forest.proofs.Depth.{GoesDown, childless_nowhere, enough, kind_nowhere as kind_past, test_false}
use Rattle.dom_writing.specs.Dumps.{dump_within, joined, line_text}

joined_same : {A : Type 0} (g h : ℕ → List A) (ns : List ℕ) → ((c : ℕ) → IsIn c ns → g c ≡ h c)
    → joined g ns ≡ joined h ns
joined_same g h [] same = refl
joined_same g h (n ∷ ns) same =
    ap (λ l. l ++ joined g ns) (same n (inl refl))
    ∙ ap (λ l. h n ++ l) (joined_same g h ns (λ c i. same c (inr i)))

pub kind_nowhere : (n : ℕ) (f : Forest) → false ≡ nat_lt n (nodes f) → kind_at n f ≡ document
kind_nowhere n f h = kind_past n f (test_false n (nodes f) (sym h))

goes_down : (f : Forest) → GoesDown f (λ k. dump_within k f)
goes_down f = record {
  down = λ k level n same. ap (λ l. line_text level (kind_at n f) ++ l)
      (joined_same (dump_within k f (level + 1)) (dump_within (suc k) f (level + 1)) (children_at n f)
      (λ c i. same (level + 1) c (child n c (of_child n c i))));
  past = λ k level n h.
      ap (λ ns. line_text level (kind_at n f) ++ joined (dump_within k f (level + 1)) ns) (childless_nowhere n f h)
      ∙ sym (ap (λ ns. line_text level (kind_at n f) ++ joined (dump_within (suc k) f (level + 1)) ns)
      (childless_nowhere n f h));
}

pub one_step_on : (f : Forest) (level n : ℕ) → IsForest f → dump_within (nodes f) f level n
    ≡ line_text level (kind_at n f) ++ joined (dump_within (nodes f) f (level + 1)) (children_at n f)
one_step_on f level n forest = enough f (λ k. dump_within k f) forest (goes_down f) level n
