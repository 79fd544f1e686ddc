-- The forest to which links lead is the one whose links they are.
use Rattle.std.proofs.Common.{◌≡◌, ◌<◌, ◌≤◌, ◌⊎◌, [], ◌∷◌, ◌++◌, ◌∙◌, List, None, Option, ap, ap₂, arith, inl, inr}
use Rattle.std.proofs.Common.{length, map, refl, slice_index_or, subst, suc, sym, zero, ℕ}
use Rattle.tree_forest.specs.Changes.{left_out}
use Rattle.tree_forest.specs.Forest.{Forest, Kind, Node, children_at, document, kind_at, nodes}
use Rattle.tree_forest.specs.Orders.{AreDistinct, IsForest, IsIn, of_child}
use Rattle.tree_forest.proofs.LawLists.{decide_in, left_out_at, left_out_none, standing}
use Rattle.tree_forest.proofs.Numbers.{distinct_left_out, in_left_out}
use Rattle.html_render_dom.specs.Links.{AreLinks}
use Rattle.html_render_dom.specs.Siblings.{IsRun, Links, Spot, after_of, edge, last_spot, link_at, sibling}
use Rattle.html_render_dom.specs.Nodes.{IsFollowed, chain, forest_of, kinds_in, kinds_of, links_in, links_of, node_in}
use Rattle.html_render_dom.specs.declared.node.Node.{Node as HeldNode}
use Rattle.html_render_dom.specs.declared.nodes.Nodes.{Nodes}

pub chain_is : (next : List (Option ℕ)) (steps : ℕ) (o : Option ℕ) (cs : List ℕ) → IsFollowed next o cs →
    length cs ≤ steps → chain next steps o ≡ cs
chain_is next steps o [] e h = ap (chain next steps) e
chain_is next zero o (c ∷ cs) f h = absurd (omega arith)
chain_is next (suc steps) o (c ∷ cs) f h = ap (chain next (suc steps)) f.0
    ∙ ap (λ v. c ∷ v) (chain_is next steps (link_at c next) cs f.1 (omega arith))

pub run_followed : (p : ℕ) (s : Spot) (cs : List ℕ) (l : Links) → IsRun p s cs l →
    after_of (last_spot s cs) l ≡ None → IsFollowed l.next (after_of s l) cs
run_followed p s [] l run end = end
run_followed p s (c ∷ cs) l run end = (run.0.trailing, run_followed p (sibling c) cs l run.1.1 end)

-- distinct numbers below another are no more than it
length_between : (front rest : List ℕ) (n : ℕ) → length (front ++ n ∷ rest) ≡ suc (length (front ++ rest))
length_between [] rest n = refl
length_between (m ∷ front) rest n = ap suc (length_between front rest n)

pub no_more : (k : ℕ) (cs : List ℕ) → AreDistinct cs → ((c : ℕ) → IsIn c cs → c < k) → length cs ≤ k
no_more zero [] d below = omega arith
no_more zero (c ∷ cs) d below = absurd (let h : c < 0 = below c (inl refl) in omega arith)
no_more (suc k) cs d below =
    let fewer : length (left_out k cs) ≤ k = no_more k (left_out k cs) (distinct_left_out k cs d) left in
    by fewer (decide_in k cs) where
      left : (c : ℕ) → IsIn c (left_out k cs) → c < k
      left c i = let w = in_left_out c k cs i in
          let h : c < suc k = below c w.0 in
          let off : c ≡ k → ⊥ = w.1 in
          omega (arith, h, off)

      by : length (left_out k cs) ≤ k → IsIn k cs ⊎ ¬ (IsIn k cs) → length cs ≤ suc k
      by fewer (inr off) = let e : length (left_out k cs) ≡ length cs = ap length (left_out_none k cs off) in
          omega (arith, fewer, e)
      by fewer (inl i) =
          let w = standing k cs i in
          let out : length (left_out k cs) ≡ length (w.front ++ w.rest) =
          ap length (ap (left_out k) w.whole ∙ left_out_at k w.front w.rest (subst AreDistinct w.whole d)) in
          let all : length cs ≡ suc (length (w.front ++ w.rest)) = ap length w.whole ∙ length_between w.front w.rest k
          in
          omega (arith, fewer, out, all)

pub chain_children : (p : ℕ) (f : Forest) (l : Links) → IsForest f → AreLinks f l →
    chain l.next (length l.next) (link_at p l.first) ≡ children_at p f
chain_children p f l forest links =
    let chained = links.chains p in
    let few : length (children_at p f) ≤ nodes f = no_more (nodes f) (children_at p f) (forest.once p)
    (λ c i. forest.within p c (of_child p c i)) in
    chain_is l.next (length l.next) (link_at p l.first) (children_at p f)
    (run_followed p (edge p) (children_at p f) l chained.run chained.end.trailing)
    (omega (arith, few, links.counted.next))

-- a node of the forest in memory
pub kind_in_forest : (next : List (Option ℕ)) (xs : List HeldNode) (n : ℕ) →
    kind_at n (map (node_in next) xs) ≡ slice_index_or (kinds_in xs) n document
kind_in_forest next [] n = refl
kind_in_forest next (x ∷ xs) zero = refl
kind_in_forest next (x ∷ xs) (suc n) = kind_in_forest next xs n

pub children_in_forest : (next : List (Option ℕ)) (xs : List HeldNode) (n : ℕ) →
    children_at n (map (node_in next) xs) ≡ chain next (length next) (link_at n (links_in xs).first)
children_in_forest next [] n = refl
children_in_forest next (x ∷ xs) zero = refl
children_in_forest next (x ∷ xs) (suc n) = children_in_forest next xs n

pub size_in_forest : (next : List (Option ℕ)) (xs : List HeldNode) →
    nodes (map (node_in next) xs) ≡ length (kinds_in xs)
size_in_forest next [] = refl
size_in_forest next (x ∷ xs) = ap suc (size_in_forest next xs)

abbrev node_with : Kind → List ℕ → Node
node_with kind children = record { kind = kind; children = children }

pub same_forest : (f g : Forest) → nodes f ≡ nodes g → ((n : ℕ) → kind_at n f ≡ kind_at n g) →
    ((n : ℕ) → children_at n f ≡ children_at n g) → f ≡ g
same_forest [] [] size kinds children = refl
same_forest [] (y ∷ g) size kinds children = absurd (omega (arith, size))
same_forest (x ∷ f) [] size kinds children = absurd (omega (arith, size))
same_forest (x ∷ f) (y ∷ g) size kinds children = ap₂ (λ v t. v ∷ t)
    (ap₂ node_with (kinds zero) (children zero))
    (same_forest f g (omega (arith, size)) (λ n. kinds (suc n)) (λ n. children (suc n)))

-- nodes in memory are the forest whose links they have
pub forest_is : (held : Nodes) (g : Forest) → nodes g ≡ length (kinds_of held) →
    ((n : ℕ) → kind_at n g ≡ slice_index_or (kinds_of held) n document) → IsForest g → AreLinks g (links_of held) →
    forest_of held ≡ g
forest_is held g size kinds forest links = same_forest (forest_of held) g
    (size_in_forest (links_of held).next held.items.items ∙ sym size)
    (λ n. kind_in_forest (links_of held).next held.items.items n ∙ sym (kinds n))
    (λ n. children_in_forest (links_of held).next held.items.items n
    ∙ chain_children n g (links_of held) forest links)

pub size_of : (held : Nodes) → nodes (forest_of held) ≡ length (kinds_of held)
size_of held = size_in_forest (links_of held).next held.items.items

pub kind_of_held : (held : Nodes) (n : ℕ) → kind_at n (forest_of held) ≡ slice_index_or (kinds_of held) n document
kind_of_held held n = kind_in_forest (links_of held).next held.items.items n
