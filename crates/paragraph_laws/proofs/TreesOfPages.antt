-- The trees of pages of paragraphs, without the numbers of nodes.
use Rattle.std.proofs.Common.{◌≡◌, ◌+◌, ◌<◌, ◌≤◌, [], ◌∷◌, ◌++◌, ◌∙◌, List, ap, append_assoc, arith, codes, length}
use Rattle.std.proofs.Common.{refl, suc, sym, zero, ℕ}
use Rattle.std.proofs.lemmas.List.{length-append}
use Rattle.tree_forest.specs.Trees.{Trees, each_before, node, tree_before, trees}
use Rattle.tree_forest.specs.Trees as of_trees
use Rattle.tree_forest.specs.Changes.{changed, with_more}
use Rattle.tree_forest.specs.Forest.{Forest, Kind, Node, document, node_at, nodes, text}
use Rattle.document_laws.specs.Contents.{Content, none, say, span}
use Rattle.document_laws.specs.Planted.{listed, node_of_element, planted, roots, size, standing}
use Rattle.paragraph_laws.specs.ParagraphTrees.{body_alone, paragraph_tree, paragraphs}

abbrev pub text_trees : List ℕ → Trees
text_trees [] = of_trees.none
text_trees (c ∷ cs) = node (text (c ∷ cs)) of_trees.none of_trees.none

abbrev pub kind_of : List ℕ → Kind
kind_of name = (node_of_element name [] []).kind

abbrev pub trees_of_paragraphs : List (List ℕ) → Trees
trees_of_paragraphs [] = of_trees.none
trees_of_paragraphs (cs ∷ texts) = node (kind_of (codes "p")) (text_trees cs) (trees_of_paragraphs texts)

-- `head` and `body` in `html`, with this in the body
abbrev pub document_trees : Trees → Trees
document_trees inside = node document
    (node (kind_of (codes "html"))
    (node (kind_of (codes "head")) of_trees.none (node (kind_of (codes "body")) inside of_trees.none))
    of_trees.none) of_trees.none

-- ---- a node of a forest, by what stands before it

node_after : (front rest : Forest) (x : Node) → node_at (length front) (front ++ x ∷ rest) ≡ x
node_after [] rest x = refl
node_after (y ∷ front) rest x = node_after front rest x

pub node_here : (f front rest : Forest) (x : Node) (n : ℕ) → f ≡ front ++ x ∷ rest → length front ≡ n → node_at n f ≡ x
node_here f front rest x n e before = ap (λ g. node_at n g) e
    ∙ ap (λ k. node_at k (front ++ x ∷ rest)) (sym before) ∙ node_after front rest x

one_more : (a b n : ℕ) → a ≡ b + 1 → b ≡ n → a ≡ suc n
one_more a b n e h = omega (arith, e, h)

pub longer : (front : Forest) (x : Node) (n : ℕ) → length front ≡ n → length (front ++ x ∷ []) ≡ suc n
longer front x n e = one_more (length (front ++ x ∷ [])) (length front) n (length-append front (x ∷ [])) e

-- ---- its tree

pub tree_here : (k n : ℕ) (f : Forest) (x : Node) (more : Trees) → node_at n f ≡ x →
    tree_before (suc k) f n more ≡ node x.kind (each_before (tree_before k f) x.children) more
tree_here k n f x more e = ap (λ (y : Node). node y.kind (each_before (tree_before k f) y.children) more) e

abbrev text_node : List ℕ → Node
text_node cs = record { kind = text cs; children = [] }

text_here : (k n : ℕ) (f : Forest) (cs : List ℕ) → 0 < k → node_at n f ≡ text_node cs →
    each_before (tree_before k f) (n ∷ []) ≡ node (text cs) of_trees.none of_trees.none
text_here zero n f cs held e = absurd (omega (arith, held))
text_here (suc k) n f cs held e = tree_here k n f (text_node cs) of_trees.none e

less : (a s k : ℕ) → suc (a + s) ≤ k → s ≤ k
less a s k h = omega (arith, h)

some_left : (s k : ℕ) → suc (suc 0 + s) ≤ k → 0 < k
some_left s k h = omega (arith, h)

number_after : (a n : ℕ) → a ≡ suc n → a ≡ suc n + 0
number_after a n e = omega (arith, e)

number_after_text : (a n : ℕ) → a ≡ suc (suc n) → a ≡ suc n + suc 0
number_after_text a n e = omega (arith, e)

abbrev p_node : List ℕ → Node
p_node children = node_of_element (codes "p") [] children

trees_of_listed : (texts : List (List ℕ)) (k n : ℕ) (f front : Forest) → f ≡ front ++ listed n (paragraphs texts) →
    length front ≡ n → size (paragraphs texts) ≤ k →
    each_before (tree_before (suc k) f) (roots n (paragraphs texts)) ≡ trees_of_paragraphs texts
trees_of_listed [] k n f front e before held = refl
trees_of_listed ([] ∷ texts) k n f front e before held =
    let x = p_node [] in
    let rest = paragraphs texts in
    let later = listed (suc n + 0) rest in
    tree_here k n f x (each_before (tree_before (suc k) f) (roots (suc n + 0) rest))
    (node_here f front later x n e before)
    ∙ ap (λ ts. node (kind_of (codes "p")) of_trees.none ts)
    (trees_of_listed texts k (suc n + 0) f (front ++ x ∷ []) (e ∙ sym (append_assoc front (x ∷ []) later))
    (number_after (length (front ++ x ∷ [])) n (longer front x n before)) (less 0 (size rest) k held))
trees_of_listed ((c ∷ cs) ∷ texts) k n f front e before held =
    let x = p_node (suc n ∷ []) in
    let t = text_node (c ∷ cs) in
    let rest = paragraphs texts in
    let m = suc n + suc 0 in
    let later = listed m rest in
    let more = each_before (tree_before (suc k) f) (roots m rest) in
    let after_p : f ≡ (front ++ x ∷ []) ++ t ∷ later = e ∙ sym (append_assoc front (x ∷ []) (t ∷ later)) in
    let front_p = longer front x n before in
    tree_here k n f x more (node_here f front (t ∷ later) x n e before)
    ∙ ap (λ ts. node (kind_of (codes "p")) ts more)
    (text_here k (suc n) f (c ∷ cs) (some_left (size rest) k held)
    (node_here f (front ++ x ∷ []) later t (suc n) after_p front_p))
    ∙ ap (λ ts. node (kind_of (codes "p")) (text_trees (c ∷ cs)) ts)
    (trees_of_listed texts k m f ((front ++ x ∷ []) ++ t ∷ [])
    (after_p ∙ sym (append_assoc (front ++ x ∷ []) (t ∷ []) later))
    (number_after_text (length ((front ++ x ∷ []) ++ t ∷ [])) n (longer (front ++ x ∷ []) t (suc n) front_p))
    (less (suc 0) (size rest) k held))

-- ---- the whole page

size_both : (x a b r s : ℕ) → x ≡ a + b → a ≡ r → b ≡ s → suc x ≡ suc (r + s)
size_both x a b r s e h k = omega (arith, e, h, k)

pub length_listed : (n : ℕ) (content : Content) → length (listed n content) ≡ size content
length_listed n none = refl
length_listed n (say c cs rest) = ap suc (length_listed (suc n) rest)
length_listed n (span name attributes kids rest) =
    let first = listed (suc n) kids in
    let later = listed (suc n + size kids) rest in
    size_both (length (first ++ later)) (length first) (length later) (size kids) (size rest)
    (length-append first later) (length_listed (suc n) kids) (length_listed (suc n + size kids) rest)

no_less : (a b : ℕ) → a ≡ b → b ≤ a
no_less a b e = omega (arith, e)

abbrev pub PlantsAtOnce : Type 0
PlantsAtOnce = (p : ℕ) (content : Content) (f : Forest) → p < nodes f → planted p content f ≡ standing p content f

body_held : 3 < nodes body_alone
body_held = omega arith

pub trees_of_page : (at_once : PlantsAtOnce) (texts : List (List ℕ)) →
    trees (paragraph_tree texts) (0 ∷ []) ≡ document_trees (trees_of_paragraphs texts)
trees_of_page at_once texts =
    let content = paragraphs texts in
    let later = listed 4 content in
    let front : Forest = changed 3 (with_more (roots 4 content)) body_alone in
    ap (λ f. trees f (0 ∷ [])) (at_once 3 content body_alone body_held)
    ∙ ap document_trees (trees_of_listed texts (length later) 4 (front ++ later) front refl refl
    (no_less (length later) (size content) (length_listed 4 content)))
