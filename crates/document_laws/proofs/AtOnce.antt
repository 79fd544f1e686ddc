-- A tree that is planted node by node stands as at once.
use Rattle.std.proofs.Common.{◌≡◌, ℕ, ◌+◌, ◌<◌, suc, List, [], ◌∷◌, ◌++◌, length, refl, sym, ap, subst, ◌∙◌, arith}
use Rattle.std.proofs.lemmas.List.{append-nil, append_assoc, length-append}
use Rattle.tree_forest.specs.Changes.{changed, with_more}
use Rattle.tree_forest.specs.Forest.{Forest, Node, nodes, text}
use Rattle.tree_forest.specs.Places.{trailing}
use Rattle.document_laws.specs.Contents.{Content, none, say, span}
use Rattle.document_laws.specs.Planted.{listed, node_of_element, planted, roots, size, standing, with_new, with_text}
use Rattle.document_laws.proofs.Growing.{changed_before, changed_last, changed_none, changed_twice, length_changed}
use Rattle.document_laws.proofs.Growing.{length_grown}

length_both : (x y a b s : ℕ) → x ≡ a + b → a ≡ y → b ≡ s → suc x ≡ suc (y + s)
length_both x y a b s e h k = omega (arith, e, h, k)

length_listed : (n : ℕ) (content : Content) → length (listed n content) ≡ size content
length_listed n none = refl
length_listed n (say c cs rest) = ap suc (length_listed (suc n) rest)
length_listed n (span name attributes kids rest) =
    let first = listed (suc n) kids in
    let later = listed (suc n + size kids) rest in
    length_both (length (first ++ later)) (size kids) (length first) (length later) (size rest)
    (length-append first later) (length_listed (suc n) kids) (length_listed (suc n + size kids) rest)

-- a node below another, and then what follows it
below_then : (p n : ℕ) (more : List ℕ) (f later : Forest) (x : Node) → p < length f →
    changed p (with_more more) (changed p (trailing n) (f ++ x ∷ [])) ++ later
    ≡ changed p (with_more (n ∷ more)) f ++ x ∷ later
below_then p n more f later x held =
    let first : changed p (trailing n) (f ++ x ∷ []) ≡ changed p (trailing n) f ++ x ∷ []
    = changed_before p (trailing n) f (x ∷ []) held in
    let second : changed p (with_more more) (changed p (trailing n) f ++ x ∷ [])
    ≡ changed p (with_more more) (changed p (trailing n) f) ++ x ∷ []
    = changed_before p (with_more more) (changed p (trailing n) f) (x ∷ [])
    (subst (λ k. p < k) (sym (length_changed p (trailing n) f)) held) in
    ap (λ k. changed p (with_more more) k ++ later) first
    ∙ ap (λ k. k ++ later) (second ∙ ap (λ k. k ++ x ∷ []) (changed_twice p n more f))
    ∙ append_assoc (changed p (with_more (n ∷ more)) f) (x ∷ []) later

above : (p x y : ℕ) → p < x → y ≡ suc x → p < y
above p x y h e = omega (arith, h, e)

last_held : (x y : ℕ) → y ≡ suc x → x < y
last_held x y e = omega (arith, e)

-- what follows an element and its kids
rest_stands : (p n : ℕ) (more : List ℕ) (f first later : Forest) (x : Node) → p < length f →
    changed p (with_more more) (changed p (trailing n) (f ++ x ∷ []) ++ first) ++ later
    ≡ changed p (with_more (n ∷ more)) f ++ x ∷ (first ++ later)
rest_stands p n more f first later x held =
    let g = changed p (trailing n) (f ++ x ∷ []) in
    let apart : changed p (with_more more) (g ++ first) ≡ changed p (with_more more) g ++ first
    = changed_before p (with_more more) g first (above p (length f) (length g) held (length_grown p n f x)) in
    ap (λ k. k ++ later) apart ∙ append_assoc (changed p (with_more more) g) first later
    ∙ below_then p n more f (first ++ later) x held

length_with_kids : (x y a b s : ℕ) → x ≡ a + b → a ≡ suc y → b ≡ s → x ≡ suc y + s
length_with_kids x y a b s e h k = omega (arith, e, h, k)

pub planted_stands : (content : Content) (p : ℕ) (f : Forest) → p < nodes f →
    planted p content f ≡ standing p content f
planted_stands none p f held =
    sym (append-nil (changed p (with_more []) f) ∙ changed_none p f)
planted_stands (say c cs rest) p f held =
    let n = nodes f in
    let x : Node = record { kind = text (c ∷ cs); children = [] } in
    let g = with_text p (c ∷ cs) f in
    let size_is : nodes g ≡ suc n = length_grown p n f x in
    planted_stands rest p g (above p n (nodes g) held size_is)
    ∙ ap (λ k. changed p (with_more (roots k rest)) g ++ listed k rest) size_is
    ∙ below_then p n (roots (suc n) rest) f (listed (suc n) rest) x held
planted_stands (span name attributes kids rest) p f held =
    let n = nodes f in
    let x = node_of_element name attributes [] in
    let y = node_of_element name attributes (roots (suc n) kids) in
    let g = with_new p name attributes f in
    let first = listed (suc n) kids in
    let size_is : nodes g ≡ suc n = length_grown p n f x in
    let inner : planted n kids g ≡ changed p (trailing n) (f ++ y ∷ []) ++ first
    = planted_stands kids n g (last_held n (nodes g) size_is)
    ∙ ap (λ k. changed n (with_more (roots k kids)) g ++ listed k kids) size_is
    ∙ ap (λ k. k ++ first) (changed_last p (with_more (roots (suc n) kids)) f x held) in
    let h = changed p (trailing n) (f ++ y ∷ []) ++ first in
    let size_then : nodes h ≡ suc n + size kids
    = length_with_kids (nodes h) n (length (changed p (trailing n) (f ++ y ∷ []))) (length first) (size kids)
    (length-append (changed p (trailing n) (f ++ y ∷ [])) first) (length_grown p n f y)
    (length_listed (suc n) kids) in
    let larger : p < nodes h = inside p n (size kids) (nodes h) held size_then in
    ap (λ k. planted p rest k) inner
    ∙ planted_stands rest p h larger
    ∙ ap (λ k. changed p (with_more (roots k rest)) h ++ listed k rest) size_then
    ∙ rest_stands p n (roots (suc n + size kids) rest) f first (listed (suc n + size kids) rest) y held
  where
    inside : (p n s k : ℕ) → p < n → k ≡ suc n + s → p < k
    inside p n s k held e = omega (arith, held, e)
