-- Whatever goes down a forest needs no more fuel than there are nodes: no path of a forest is longer.
use Rattle.std.proofs.Common.{◌≡◌, ◌+◌, ◌<◌, ◌≤◌, ◌⊎◌, ◌||◌, [], ◌∷◌, Bool, List, ap, arith, eqb, false, inl, inr}
use Rattle.std.proofs.Common.{length, refl, subst, suc, sym, true, zero, ℕ}
use Rattle.std.proofs.lemmas.Bool.Decides.{nat_tests}
use Rattle.std.proofs.lemmas.Map.Steps.{length-le_from_distinct_below}
use Rattle.std.specs.Bool.{nat_lt}
use Rattle.std.specs.List.{AllByRecursion, IsDistinct, list_any}
use Rattle.tree_forest.specs.Forest.{Forest, Holds, Node, children_at, document, kind_at, node_at, nodes}
use Rattle.tree_forest.specs.Orders.{Above, AreDistinct, IsForest, IsIn, IsParent, child, further}
use Rattle.tree_forest.proofs.Nodes.{holds_parent}

-- numbers that are pairwise distinct and below another are no more than that
differs : (n m : ℕ) → ¬ (n ≡ m) → eqb n m ≡ false
differs n m h = grind (arith, nat_tests)

each_other : (n : ℕ) (ns : List ℕ) → ¬ (IsIn n ns) → AllByRecursion (λ y. eqb n y ≡ false) ns
each_other n [] h = tt
each_other n (m ∷ ms) h = (differs n m (λ e. h (inl e)), each_other n ms (λ i. h (inr i)))

keys_distinct : (ns : List ℕ) → AreDistinct ns → IsDistinct eqb ns
unfolding IsDistinct
keys_distinct [] h = tt
keys_distinct (n ∷ ns) h = (each_other n ns h.0, keys_distinct ns h.1)

same_number : (n m : ℕ) → eqb n m ≡ true → n ≡ m
same_number n m h = grind (arith, nat_tests)

listed : (q : ℕ) (ns : List ℕ) → list_any (eqb q) ns ≡ true → IsIn q ns
listed q [] h = cc
listed q (m ∷ ms) h = by (eqb q m) refl h (listed q ms) where
  by : (b : Bool) → eqb q m ≡ b → (b || list_any (eqb q) ms) ≡ true → (list_any (eqb q) ms ≡ true → IsIn q ms)
      → (q ≡ m) ⊎ IsIn q ms
  by true e h later = inl (same_number q m e)
  by false e h later = inr (later h)

-- what is above or below a node is there
holds_above : (f : Forest) (m n : ℕ) → Above (IsParent f) m n → Holds m f
holds_above f m n (child _ _ e) = holds_parent m n f e
holds_above f m n (further _ b _ ab bc) = holds_above f m b ab

holds_below : (f : Forest) (m n : ℕ) → IsForest f → Above (IsParent f) m n → Holds n f
holds_below f m n forest (child _ _ e) = forest.within m n e
holds_below f m n forest (further _ b _ ab bc) = forest.within b n bc

above_on : (f : Forest) (a b c : ℕ) → Above (IsParent f) a b → Above (IsParent f) b c → Above (IsParent f) a c
above_on f a b c p (child _ _ e) = further a b c p e
above_on f a b c p (further _ d _ q e) = further a d c (above_on f a b d p q) e

-- distinct nodes above a node
record IsPath (f : Forest) (n : ℕ) (ns : List ℕ) : Type 0 where
  distinct : AreDistinct ns
  above : (m : ℕ) → IsIn m ns → Above (IsParent f) m n

path_further : (f : Forest) (n c : ℕ) (ns : List ℕ) → IsForest f → IsPath f n ns → Above (IsParent f) n c
    → IsPath f c (n ∷ ns)
path_further f n c ns forest path below = record {
  distinct = (λ j. forest.acyclic n (path.above n j), path.distinct);
  above = by;
} where
  by : (m : ℕ) → IsIn m (n ∷ ns) → Above (IsParent f) m c
  by m (inl e) = subst (λ a. Above (IsParent f) a c) (sym e) below
  by m (inr j) = above_on f m n c (path.above m j) below

path_holds : (f : Forest) (n : ℕ) (ns : List ℕ) → IsPath f n ns → Holds n f → (m : ℕ) → IsIn m (n ∷ ns) → Holds m f
path_holds f n ns path h m (inl e) = subst (λ a. Holds a f) (sym e) h
path_holds f n ns path h m (inr j) = holds_above f m n (path.above m j)

path_fits : (f : Forest) (n : ℕ) (ns : List ℕ) → IsForest f → IsPath f n ns → Holds n f → length ns < nodes f
path_fits f n ns forest path h =
    let all : length (n ∷ ns) ≤ nodes f = length-le_from_distinct_below (n ∷ ns) (nodes f)
    (keys_distinct (n ∷ ns) (λ j. forest.acyclic n (path.above n j), path.distinct))
    (λ q l. path_holds f n ns path h q (listed q (n ∷ ns) l)) in
    omega arith

-- a node that isn't there is a document without children
nowhere : (n : ℕ) (f : Forest) → nodes f ≤ n → node_at n f ≡ record { kind = document; children = [] }
nowhere n [] h = refl
nowhere zero (x ∷ f) h = absurd (omega arith)
nowhere (suc n) (x ∷ f) h = nowhere n f (omega arith)

pub kind_nowhere : (n : ℕ) (f : Forest) → nodes f ≤ n → kind_at n f ≡ document
kind_nowhere n f h = ap (λ (x : Node). x.kind) (nowhere n f h)

pub childless_nowhere : (n : ℕ) (f : Forest) → nodes f ≤ n → children_at n f ≡ []
childless_nowhere n f h = ap (λ (x : Node). x.children) (nowhere n f h)

test_true : (n m : ℕ) → nat_lt n m ≡ true → n < m
test_true n m h = grind (arith, nat_tests)

pub test_false : (n m : ℕ) → nat_lt n m ≡ false → m ≤ n
test_false n m h = grind (arith, nat_tests)

-- What goes down a forest with fuel, and takes something along: with more fuel a node gives the same where each node
-- below it does, and a node that isn't there has nothing to go down to.
pub record GoesDown {S A : Type 0} (f : Forest) (g : ℕ → S → ℕ → A) : Type 0 where
  pub down : (k : ℕ) (s : S) (n : ℕ) → ((t : S) (c : ℕ) → Above (IsParent f) n c → g k t c ≡ g (suc k) t c)
      → g (suc k) s n ≡ g (suc (suc k)) s n
  pub past : (k : ℕ) (s : S) (n : ℕ) → nodes f ≤ n → g (suc k) s n ≡ g (suc (suc k)) s n

module _ {S A : Type 0} (f : Forest) (g : ℕ → S → ℕ → A) (forest : IsForest f) (goes : GoesDown f g) where
  -- as long as there is fuel for the nodes that aren't on the path, more fuel changes nothing
  more_fuel : (k : ℕ) (s : S) (n : ℕ) (ns : List ℕ) → IsPath f n ns → Holds n f → nodes f ≤ k + length ns
      → g k s n ≡ g (suc k) s n
  more_fuel zero s n ns path holds fits =
      let short = path_fits f n ns forest path holds in absurd (omega arith)
  more_fuel (suc k) s n ns path holds fits =
      goes.down k s n
      (λ t c below. more_fuel k t c (n ∷ ns) (path_further f n c ns forest path below) (holds_below f n c forest below)
      (longer k (nodes f) ns n fits))
    where
      longer : (k m : ℕ) (ns : List ℕ) (n : ℕ) → m ≤ suc k + length ns → m ≤ k + length (n ∷ ns)
      longer k m ns n h = omega arith

  past_all : (k : ℕ) (s : S) (n : ℕ) → nodes f ≤ n → 0 < k → g k s n ≡ g (suc k) s n
  past_all zero s n h some = absurd (omega arith)
  past_all (suc k) s n h some = goes.past k s n h

  -- as many steps as there are nodes are enough
  pub enough : (s : S) (n : ℕ) → g (nodes f) s n ≡ g (suc (nodes f)) s n
  enough s n = by (nat_lt n (nodes f)) refl where
    by : (b : Bool) → nat_lt n (nodes f) ≡ b → g (nodes f) s n ≡ g (suc (nodes f)) s n
    by true e =
        more_fuel (nodes f) s n [] (record { distinct = tt; above = λ m i. absurd i }) (test_true n (nodes f) e)
        (omega arith)
    by false e = past_all (nodes f) s n (test_false n (nodes f) e) forest.page.0
