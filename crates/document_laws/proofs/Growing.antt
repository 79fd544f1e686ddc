-- A node more below another, and changes of one node.
use Rattle.std.proofs.Common.{◌≡◌, ◌<◌, [], ◌∷◌, ◌++◌, ◌∙◌, List, ap, arith, length, refl, suc, sym, zero, ℕ}
use Rattle.std.proofs.lemmas.List.{append-nil, append_assoc}
use Rattle.tree_forest.specs.Changes.{changed, with_more}
use Rattle.tree_forest.specs.Forest.{Forest, Node, kind_at, node_at}
use Rattle.tree_forest.specs.Places.{trailing}

pub changed_before : (p : ℕ) (h : Node → Node) (f g : Forest) → p < length f →
    changed p h (f ++ g) ≡ changed p h f ++ g
changed_before p h [] g held = absurd (omega (arith, held))
changed_before zero h (x ∷ f) g held = refl
changed_before (suc p) h (x ∷ f) g held = ap (λ k. x ∷ k) (changed_before p h f g (omega (arith, held)))

pub changed_end : (h : Node → Node) (f : Forest) (y : Node) →
    changed (length f) h (f ++ y ∷ []) ≡ f ++ h y ∷ []
changed_end h [] y = refl
changed_end h (x ∷ f) y = ap (λ k. x ∷ k) (changed_end h f y)

pub length_changed : (p : ℕ) (h : Node → Node) (f : Forest) → length (changed p h f) ≡ length f
length_changed p h [] = refl
length_changed zero h (x ∷ f) = refl
length_changed (suc p) h (x ∷ f) = ap suc (length_changed p h f)

pub length_one_more : (f : Forest) (y : Node) → length (f ++ y ∷ []) ≡ suc (length f)
length_one_more [] y = refl
length_one_more (x ∷ f) y = ap suc (length_one_more f y)

-- children more twice are children more once
with_both : (n : ℕ) (more : List ℕ) (x : Node) → with_more more (trailing n x) ≡ with_more (n ∷ more) x
with_both n more x =
    ap (λ cs. let y : Node = record { kind = x.kind; children = cs } in y) (append_assoc x.children (n ∷ []) more)

pub changed_twice : (p n : ℕ) (more : List ℕ) (f : Forest) →
    changed p (with_more more) (changed p (trailing n) f) ≡ changed p (with_more (n ∷ more)) f
changed_twice p n more [] = refl
changed_twice zero n more (x ∷ f) = ap (λ y. y ∷ f) (with_both n more x)
changed_twice (suc p) n more (x ∷ f) = ap (λ k. x ∷ k) (changed_twice p n more f)

with_none : (x : Node) → with_more [] x ≡ x
with_none x = ap (λ cs. let y : Node = record { kind = x.kind; children = cs } in y) (append-nil x.children)

pub changed_none : (p : ℕ) (f : Forest) → changed p (with_more []) f ≡ f
changed_none p [] = refl
changed_none zero (x ∷ f) = ap (λ y. y ∷ f) (with_none x)
changed_none (suc p) (x ∷ f) = ap (λ k. x ∷ k) (changed_none p f)

-- one node more below another: how many there are, and a change of the new one
pub length_grown : (p n : ℕ) (f : Forest) (x : Node) → length (changed p (trailing n) (f ++ x ∷ [])) ≡ suc (length f)
length_grown p n f x = length_changed p (trailing n) (f ++ x ∷ []) ∙ length_one_more f x

pub changed_last : (p : ℕ) (h : Node → Node) (f : Forest) (x : Node) → p < length f →
    changed (length f) h (changed p (trailing (length f)) (f ++ x ∷ []))
    ≡ changed p (trailing (length f)) (f ++ h x ∷ [])
changed_last p h f x held =
    let n = length f in
    let g = changed p (trailing n) f in
    let before : changed p (trailing n) (f ++ x ∷ []) ≡ g ++ x ∷ [] = changed_before p (trailing n) f (x ∷ []) held in
    let after : changed p (trailing n) (f ++ h x ∷ []) ≡ g ++ h x ∷ [] =
    changed_before p (trailing n) f (h x ∷ []) held in
    let at : n ≡ length g = sym (length_changed p (trailing n) f) in
    ap (changed n h) before ∙ ap (λ k. changed k h (g ++ x ∷ [])) at ∙ changed_end h g x ∙ sym after

-- what stands at a node
pub node_before : (q : ℕ) (f g : Forest) → q < length f → node_at q (f ++ g) ≡ node_at q f
node_before q [] g held = absurd (omega (arith, held))
node_before zero (x ∷ f) g held = refl
node_before (suc q) (x ∷ f) g held = node_before q f g (omega (arith, held))

pub node_last : (f : Forest) (x : Node) → node_at (length f) (f ++ x ∷ []) ≡ x
node_last [] x = refl
node_last (y ∷ f) x = node_last f x

pub kind_changed : (q p n : ℕ) (f : Forest) → kind_at q (changed p (trailing n) f) ≡ kind_at q f
kind_changed q p n [] = refl
kind_changed zero zero n (x ∷ f) = refl
kind_changed zero (suc p) n (x ∷ f) = refl
kind_changed (suc q) zero n (x ∷ f) = refl
kind_changed (suc q) (suc p) n (x ∷ f) = kind_changed q p n f

pub node_changed : (q p : ℕ) (h : Node → Node) (f : Forest) → ¬ (q ≡ p) → node_at q (changed p h f) ≡ node_at q f
node_changed q p h [] apart = refl
node_changed zero zero h (x ∷ f) apart = absurd (apart refl)
node_changed zero (suc p) h (x ∷ f) apart = refl
node_changed (suc q) zero h (x ∷ f) apart = refl
node_changed (suc q) (suc p) h (x ∷ f) apart = node_changed q p h f (λ e. apart (ap suc e))

pub node_here : (p : ℕ) (h : Node → Node) (f : Forest) → p < length f → node_at p (changed p h f) ≡ h (node_at p f)
node_here p h [] held = absurd (omega (arith, held))
node_here zero h (x ∷ f) held = refl
node_here (suc p) h (x ∷ f) held = node_here p h f (omega (arith, held))
