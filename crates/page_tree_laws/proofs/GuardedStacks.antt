-- What pops open elements, takes one off, or puts one among them, leaves a stack whose lowest elements are guarded.
use Rattle.std.proofs.Common.{◌≡◌, ◌⊎◌, ◌==◌, if◌then◌else◌, [], ◌∷◌, ◌++◌, ◌∙◌, Bool, List, ap, eq-eqb, eqb-true}
use Rattle.std.proofs.Common.{false, inl, inr, refl, subst, sym, true, ℕ}
use Rattle.std.proofs.lemmas.Bool.{cond-true, cond_both}
use Rattle.tree_forest.specs.Changes.{left_out}
use Rattle.tree_forest.specs.Orders.{IsIn}
use Rattle.tree_forest.specs.Places.{put_before}
use Rattle.html_tree_state.specs.Adoption.{replaced}
use Rattle.html_tree_state.specs.OpenElements.{below_current, current_of, nearer}
use Rattle.page_tree_laws.proofs.Guards.{Guard, IsFree, IsGuard, IsKept, IsStack, MayPop, bare, stands}
use Rattle.page_tree_laws.proofs.Guards as guards

-- what stands lowest is guarded
abbrev pub IsBase : Guard → ℕ → Type 0
IsBase g n = IsIn n (g.top ∷ g.lowest)

in_later : (n : ℕ) (ms ns : List ℕ) → IsIn n ns → IsIn n (ms ++ ns)
in_later n [] ns i = i
in_later n (m ∷ ms) ns i = inr (in_later n ms ns i)

lowest_kept : (g : Guard) (n : ℕ) → IsIn n g.lowest → IsKept g n
lowest_kept g n i = inr (inr (inr (in_later n g.firsts g.lowest i)))

pub base_kept : (g : Guard) (n : ℕ) → IsBase g n → IsKept g n
base_kept g n (inl e) = inr (inr (inl e))
base_kept g n (inr i) = lowest_kept g n i

-- what may be closed is free, or the topmost guarded element of an open guard
abbrev pub MayClose : Guard → ℕ → Type 0
MayClose g n = IsFree g n ⊎ ((g.is_open ≡ true) × (n ≡ g.top))

-- what a node may be put below is neither the document nor, unless the guard is open, the root
abbrev pub FitsBelow : Guard → ℕ → Type 0
FitsBelow g n = ¬ (n ≡ 0) × (g.is_open ≡ false → ¬ (n ≡ g.root))

pub free_fits : (g : Guard) (n : ℕ) → IsFree g n → FitsBelow g n
free_fits g n free = ((λ e. free (inl e)), λ shut e. free (inr (inl e)))

-- lists that do not have an element
pub left_out_none : (c : ℕ) (ns : List ℕ) → ¬ (IsIn c ns) → left_out c ns ≡ ns
left_out_none c [] none = refl
left_out_none c (n ∷ ns) none = cond_both (n == c) (left_out c ns) (n ∷ left_out c ns) (λ l. l ≡ n ∷ ns)
    (λ e. absurd (none (inl (sym (eqb-true n c e)))))
    (λ e. ap (λ l. n ∷ l) (left_out_none c ns (λ i. none (inr i))))

put_before_none : (s c : ℕ) (ns : List ℕ) → ¬ (IsIn s ns) → put_before s c ns ≡ ns
put_before_none s c [] none = refl
put_before_none s c (n ∷ ns) none = cond_both (n == s) (c ∷ n ∷ ns) (n ∷ put_before s c ns) (λ l. l ≡ n ∷ ns)
    (λ e. absurd (none (inl (sym (eqb-true n s e)))))
    (λ e. ap (λ l. n ∷ l) (put_before_none s c ns (λ i. none (inr i))))

replaced_none : (c m : ℕ) (ns : List ℕ) → ¬ (IsIn c ns) → replaced c m ns ≡ ns
replaced_none c m [] none = refl
replaced_none c m (n ∷ ns) none = cond_both (n == c) m n (λ k. k ∷ replaced c m ns ≡ n ∷ ns)
    (λ e. absurd (none (inl (sym (eqb-true n c e)))))
    (λ e. ap (λ l. n ∷ l) (replaced_none c m ns (λ i. none (inr i))))

-- one test that says two things
pub never_both : (b : Bool) → b ≡ true → b ≡ false → ⊥
never_both b yes_it no_it = let k : true ≡ false = sym yes_it ∙ no_it in absurd (cc)

-- walks down a stack, by a test, that end at an element or past it
abbrev pub StopsBy : (ℕ → Bool) → (List ℕ → List ℕ) → Type 0
StopsBy t w = (n : ℕ) (ns : List ℕ) → w (n ∷ ns) ≡ (if t n then n ∷ ns else w ns)

abbrev pub PassesBy : (ℕ → Bool) → (List ℕ → List ℕ) → Type 0
PassesBy t w = (n : ℕ) (ns : List ℕ) → w (n ∷ ns) ≡ (if t n then ns else w ns)

stays_by : (t : ℕ → Bool) (m n : ℕ) (ns ms : List ℕ) → t m ≡ true → t n ≡ false → (IsIn m ns → IsIn m ms) →
    IsIn m (n ∷ ns) → IsIn m ms
stays_by t m n ns ms is isnt more (inl e) = absurd (never_both (t n) (ap t (sym e) ∙ is) isnt)
stays_by t m n ns ms is isnt more (inr i) = more i

-- a walk that ends at an element of the test does not pass one
pub stays_in : (t : ℕ → Bool) (w : List ℕ → List ℕ) → StopsBy t w → (m : ℕ) → t m ≡ true → (ns : List ℕ) →
    IsIn m ns → IsIn m (w ns)
stays_in t w step m is [] i = absurd i
stays_in t w step m is (n ∷ ns) i = subst (IsIn m) (sym (step n ns)) (cond_both (t n) (n ∷ ns) (w ns) (IsIn m)
    (λ e. i) (λ e. stays_by t m n ns (w ns) is e (stays_in t w step m is ns) i))

module _ (g : Guard) (guard : IsGuard g) where
  -- the root alone is lowest where the guard is open
  pub at_root : g.is_open ≡ true → (P : List ℕ → Type 0) → P (g.root ∷ []) → P g.lowest
  at_root opened P h = subst P (sym (guard.root_lowest opened)) h

  bare_root : g.is_open ≡ true → IsStack g (g.root ∷ [])
  bare_root opened = subst (IsStack g) (guard.root_lowest opened) (bare opened)

  -- a walk that ends at what stands lowest
  module _ (t : ℕ → Bool) (w : List ℕ → List ℕ) (step : StopsBy t w)
      (at_top : g.is_open ≡ false → t g.top ≡ true) (at_bottom : g.is_open ≡ true → t g.root ≡ true) where
    stops_root : g.is_open ≡ true → IsStack g (w g.lowest)
    stops_root opened = at_root opened (λ ns. IsStack g (w ns)) (subst (IsStack g)
        (sym (step g.root [] ∙ cond-true (t g.root) (g.root ∷ []) (w []) (at_bottom opened))) (bare_root opened))

    stops_top : (b : Bool) → g.is_open ≡ b → IsStack g (w (g.top ∷ g.lowest))
    stops_top true opened = subst (IsStack g) (sym (step g.top g.lowest))
        (cond_both (t g.top) (g.top ∷ g.lowest) (w g.lowest) (IsStack g) (λ e. stands) (λ e. stops_root opened))
    stops_top false shut = subst (IsStack g)
        (sym (step g.top g.lowest ∙ cond-true (t g.top) (g.top ∷ g.lowest) (w g.lowest) (at_top shut))) stands

    pub stops_at : (ns : List ℕ) → IsStack g ns → IsStack g (w ns)
    stops_at _ stands = stops_top g.is_open refl
    stops_at _ (bare opened) = stops_root opened
    stops_at _ (guards.nearer n ns free more) = subst (IsStack g) (sym (step n ns))
        (cond_both (t n) (n ∷ ns) (w ns) (IsStack g) (λ e. guards.nearer n ns free more) (λ e. stops_at ns more))

  -- a walk past an element that may be closed
  module _ (t : ℕ → Bool) (w : List ℕ → List ℕ) (step : PassesBy t w) (m : ℕ) (is : t m ≡ true) where
    passes_top : MayClose g m → IsBase g m → IsStack g (w (g.top ∷ g.lowest))
    passes_top (inl free) i = absurd (free (base_kept g m i))
    passes_top (inr may) i = subst (IsStack g) (sym (step g.top g.lowest
        ∙ cond-true (t g.top) g.lowest (w g.lowest) (subst (λ k. t k ≡ true) may.1 is))) (bare may.0)

    no_top_lowest : g.is_open ≡ true → ¬ (IsIn g.top g.lowest)
    no_top_lowest opened = at_root opened (λ ns. ¬ (IsIn g.top ns)) (either_way) where
      either_way : ¬ (IsIn g.top (g.root ∷ []))
      either_way (inl e) = guard.top_apart e
      either_way (inr i) = absurd i

    passes_bare : MayClose g m → IsIn m g.lowest → ⊥
    passes_bare (inl free) i = absurd (free (base_kept g m (inr i)))
    passes_bare (inr may) i = no_top_lowest may.0 (subst (λ k. IsIn k g.lowest) may.1 i)

    pub passes : MayClose g m → (ns : List ℕ) → IsStack g ns → IsIn m ns → IsStack g (w ns)
    passes may _ stands i = passes_top may i
    passes may _ (bare opened) i = absurd (passes_bare may i)
    passes may _ (guards.nearer n ns free more) (inl e) = subst (IsStack g)
        (sym (step n ns ∙ cond-true (t n) ns (w ns) (subst (λ k. t k ≡ true) e is))) more
    passes may _ (guards.nearer n ns free more) (inr i) = subst (IsStack g) (sym (step n ns))
        (cond_both (t n) ns (w ns) (IsStack g) (λ e. more) (λ e. passes may ns more i))

  -- the current node is popped
  pop_top : IsFree g g.top ⊎ ((g.is_open ≡ true) × (g.top ≡ g.top)) → IsStack g g.lowest
  pop_top (inl free) = absurd (free (base_kept g g.top (inl refl)))
  pop_top (inr may) = bare may.0

  pop_bare : IsFree g g.root ⊎ ((g.is_open ≡ true) × (g.root ≡ g.top)) → IsStack g []
  pop_bare (inl free) = absurd (free (inr (inl refl)))
  pop_bare (inr may) = absurd (guard.top_apart (sym may.1))

  pub stack_popped : (ns : List ℕ) → IsStack g ns → MayPop g ns → IsStack g (below_current ns)
  stack_popped _ stands may = pop_top may
  stack_popped _ (bare opened) may =
      at_root opened (λ ns. MayPop g ns → IsStack g (below_current ns)) pop_bare may
  stack_popped _ (guards.nearer n ns free more) may = more

  -- the current node
  pub stack_current : (ns : List ℕ) → IsStack g ns → FitsBelow g (current_of ns)
  stack_current _ stands = (guard.top_no_document, λ shut. guard.top_apart)
  stack_current _ (bare opened) = at_root opened (λ ns. FitsBelow g (current_of ns))
      (guard.root_apart, λ shut. absurd (never_both g.is_open opened shut))
  stack_current _ (guards.nearer n ns free more) = free_fits g n free

-- an element is free, or one of the lowest
pub stack_member : (g : Guard) (n : ℕ) (ns : List ℕ) → IsStack g ns → IsIn n ns → IsFree g n ⊎ IsBase g n
stack_member g n _ stands i = inr i
stack_member g n _ (bare opened) i = inr (inr i)
stack_member g n _ (guards.nearer m ns free more) (inl e) = inl (subst (IsFree g) (sym e) free)
stack_member g n _ (guards.nearer m ns free more) (inr i) = stack_member g n ns more i

free_no_base : (g : Guard) (n : ℕ) → IsFree g n → ¬ (IsIn n (g.top ∷ g.lowest))
free_no_base g n free i = free (base_kept g n i)

free_no_lowest : (g : Guard) (n : ℕ) → IsFree g n → ¬ (IsIn n g.lowest)
free_no_lowest g n free i = free (base_kept g n (inr i))

-- a free element is taken off, replaced by another one, or gets another one above it
pub stack_left_out : (g : Guard) (c : ℕ) → IsFree g c → (ns : List ℕ) → IsStack g ns → IsStack g (left_out c ns)
stack_left_out g c free _ stands =
    subst (IsStack g) (sym (left_out_none c (g.top ∷ g.lowest) (free_no_base g c free))) stands
stack_left_out g c free _ (bare opened) =
    subst (IsStack g) (sym (left_out_none c g.lowest (free_no_lowest g c free))) (bare opened)
stack_left_out g c free _ (guards.nearer n ns other more) =
    cond_both (n == c) (left_out c ns) (n ∷ left_out c ns) (IsStack g) (λ e. stack_left_out g c free ns more)
    (λ e. guards.nearer n (left_out c ns) other (stack_left_out g c free ns more))

pub stack_replaced : (g : Guard) (c m : ℕ) → IsFree g c → IsFree g m → (ns : List ℕ) → IsStack g ns →
    IsStack g (replaced c m ns)
stack_replaced g c m free new _ stands =
    subst (IsStack g) (sym (replaced_none c m (g.top ∷ g.lowest) (free_no_base g c free))) stands
stack_replaced g c m free new _ (bare opened) =
    subst (IsStack g) (sym (replaced_none c m g.lowest (free_no_lowest g c free))) (bare opened)
stack_replaced g c m free new _ (guards.nearer n ns other more) =
    guards.nearer (if n == c then m else n) (replaced c m ns)
    (cond_both (n == c) m n (IsFree g) (λ e. new) (λ e. other)) (stack_replaced g c m free new ns more)

pub stack_put_before : (g : Guard) (s c : ℕ) → IsFree g s → IsFree g c → (ns : List ℕ) → IsStack g ns →
    IsStack g (put_before s c ns)
stack_put_before g s c free new _ stands =
    subst (IsStack g) (sym (put_before_none s c (g.top ∷ g.lowest) (free_no_base g s free))) stands
stack_put_before g s c free new _ (bare opened) =
    subst (IsStack g) (sym (put_before_none s c g.lowest (free_no_lowest g s free))) (bare opened)
stack_put_before g s c free new _ (guards.nearer n ns other more) =
    cond_both (n == s) (c ∷ n ∷ ns) (n ∷ put_before s c ns) (IsStack g)
    (λ e. guards.nearer c (n ∷ ns) new (guards.nearer n ns other more))
    (λ e. guards.nearer n (put_before s c ns) other (stack_put_before g s c free new ns more))

-- what is nearer than a free element is free
nearer_by : (g : Guard) (n m k : ℕ) (ks : List ℕ) → (k == n) ≡ false → IsFree g k →
    (IsIn n ks → IsIn m (nearer n ks) → IsFree g m) → IsIn n (k ∷ ks) → IsIn m (k ∷ nearer n ks) → IsFree g m
nearer_by g n m k ks other free more (inl e) i = absurd (never_both (k == n) (eq-eqb k n (sym e)) other)
nearer_by g n m k ks other free more (inr j) (inl e) = subst (IsFree g) (sym e) free
nearer_by g n m k ks other free more (inr j) (inr i) = more j i

pub nearer_free : (g : Guard) (n : ℕ) → IsFree g n → (ns : List ℕ) → IsStack g ns → IsIn n ns → (m : ℕ) →
    IsIn m (nearer n ns) → IsFree g m
nearer_free g n free _ stands there m i = absurd (free_no_base g n free there)
nearer_free g n free _ (bare opened) there m i = absurd (free_no_lowest g n free there)
nearer_free g n free _ (guards.nearer k ks other more) there m i =
    cond_both (k == n) [] (k ∷ nearer n ks) (λ l. IsIn m l → IsFree g m) (λ e j. absurd j)
    (λ e j. nearer_by g n m k ks e other (λ h l. nearer_free g n free ks more h m l) there j) i
