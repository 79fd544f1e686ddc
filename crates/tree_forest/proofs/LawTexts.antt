-- Characters at a place: a text that is there grows, else a new one is put.
use Rattle.std.proofs.Common.{◌≡◌, if◌then◌else◌, [], ◌∷◌, ◌++◌, ◌∙◌, ◌<◌, List, None, Option, Some, add-zero, ap}
use Rattle.std.proofs.Common.{append-nil, append_assoc, arith, inl, inr, map, refl, subst, suc, sym, zero, ℕ}
use Rattle.tree_forest.specs.Changes.{changed, made, saying, saying_kind}
use Rattle.tree_forest.specs.Conditions.{IsPlace}
use Rattle.tree_forest.specs.Forest.{Forest, Holds, Kind, Node, children_at, comment, doctype, document, element}
use Rattle.tree_forest.specs.Forest.{instruction, is_in, kind_at, nodes, parent_from, parent_of, text, text_of}
use Rattle.tree_forest.specs.Orders.{AreDistinct, IsForest, IsIn, of_child}
use Rattle.tree_forest.specs.Places.{Place, before, below, in_front, last_of, neighbour, one_before, put_before}
use Rattle.tree_forest.specs.Places.{put_node, put_words, siblings_of, trailing}
use Rattle.tree_forest.proofs.LawLists.{Standing, last_of_end, not_in_front, one_before_put, put_before_at, standing}
use Rattle.tree_forest.proofs.LawNodes.{changed_other, only_parent, parent_is}
use Rattle.tree_forest.proofs.LawPlaces.{put_below, put_in_front, put_kinds}
use Rattle.tree_forest.proofs.Nodes.{children_made, kept, kind_new, node_made, node_of, size_made}
use Rattle.tree_forest.proofs.Numbers.{in_put_before}
use Rattle.tree_forest.proofs.Relations.{either}

pub new_text : (place : Place) (c : ℕ) (cs : List ℕ) (f : Forest) → neighbour place f ≡ None
    → put_words place (c ∷ cs) f ≡ put_node place (nodes f) (made (text (c ∷ cs)) f)
new_text place c cs f e = rw e

pub new_text_after : (place : Place) (c : ℕ) (cs : List ℕ) (n : ℕ) (f : Forest) → neighbour place f ≡ Some n
    → text_of (kind_at n f) ≡ None
    → put_words place (c ∷ cs) f ≡ put_node place (nodes f) (made (text (c ∷ cs)) f)
new_text_after place c cs n f e k = rw (e, k)

pub text_more : (place : Place) (c : ℕ) (cs said : List ℕ) (n : ℕ) (f : Forest) → neighbour place f ≡ Some n
    → text_of (kind_at n f) ≡ Some said → put_words place (c ∷ cs) f ≡ changed n (saying (c ∷ cs)) f
text_more place c cs said n f e k = rw (e, k)

fresh_kinds : (place : Place) (kind : Kind) (m : ℕ) (f : Forest) → Holds m f
    → kind_at m (put_node place (nodes f) (made kind f)) ≡ kind_at m f
fresh_kinds place kind m f h = put_kinds place (nodes f) m (made kind f) ∙ ap (λ x. x.kind) (node_made kind m f h)

words_found : (place : Place) (c : ℕ) (cs : List ℕ) (n m : ℕ) (f : Forest) (said : Option (List ℕ))
    → neighbour place f ≡ Some n → text_of (kind_at n f) ≡ said → Holds m f → ¬ (m ≡ n)
    → kind_at m (put_words place (c ∷ cs) f) ≡ kind_at m f
words_found place c cs n m f None e k h off =
    ap (kind_at m) (new_text_after place c cs n f e k) ∙ fresh_kinds place (text (c ∷ cs)) m f h
words_found place c cs n m f (Some said) e k h off = ap (kind_at m) (text_more place c cs said n f e k)
    ∙ ap (λ x. x.kind) (changed_other (saying (c ∷ cs)) n m f off)

words_said : (place : Place) (c : ℕ) (cs : List ℕ) (m : ℕ) (f : Forest) (found : Option ℕ) → neighbour place f ≡ found
    → Holds m f → ¬ (found ≡ Some m) → kind_at m (put_words place (c ∷ cs) f) ≡ kind_at m f
words_said place c cs m f None e h off =
    ap (kind_at m) (new_text place c cs f e) ∙ fresh_kinds place (text (c ∷ cs)) m f h
words_said place c cs m f (Some n) e h off =
    words_found place c cs n m f (text_of (kind_at n f)) e refl h (λ same. off (ap Some (sym same)))

pub words_kinds : (place : Place) (cs : List ℕ) (m : ℕ) (f : Forest) → Holds m f → ¬ (neighbour place f ≡ Some m)
    → kind_at m (put_words place cs f) ≡ kind_at m f
words_kinds place [] m f h off = refl
words_kinds place (c ∷ cs) m f h off = words_said place c cs m f (neighbour place f) refl h off

-- a text that grows twice
kinds_twice : (cs ds : List ℕ) (kind : Kind) → saying_kind ds (saying_kind cs kind) ≡ saying_kind (cs ++ ds) kind
kinds_twice cs ds document = refl
kinds_twice cs ds (doctype _ _ _) = refl
kinds_twice cs ds (text said) = ap text (append_assoc said cs ds)
kinds_twice cs ds (comment _) = refl
kinds_twice cs ds (instruction _ _) = refl
kinds_twice cs ds (element _) = refl

said_twice : (cs ds : List ℕ) (x : Node) → saying ds (saying cs x) ≡ saying (cs ++ ds) x
said_twice cs ds x = ap (λ kind. node_of kind x.children) (kinds_twice cs ds x.kind)

changed_twice : (cs ds : List ℕ) (n : ℕ) (f : Forest)
    → changed n (saying ds) (changed n (saying cs) f) ≡ changed n (saying (cs ++ ds)) f
changed_twice cs ds n [] = refl
changed_twice cs ds zero (x ∷ f) = ap (λ y. y ∷ f) (said_twice cs ds x)
changed_twice cs ds (suc n) (x ∷ f) = ap (λ g. x ∷ g) (changed_twice cs ds n f)

grown_kind : (cs said : List ℕ) (kind : Kind) → text_of kind ≡ Some said
    → text_of (saying_kind cs kind) ≡ Some (said ++ cs)
grown_kind cs said document h = absurd cc
grown_kind cs said (doctype _ _ _) h = absurd cc
grown_kind cs said (text before_it) h = cc
grown_kind cs said (comment _) h = absurd cc
grown_kind cs said (instruction _ _) h = absurd cc
grown_kind cs said (element _) h = absurd cc

grown : (cs said : List ℕ) (n : ℕ) (f : Forest) → text_of (kind_at n f) ≡ Some said
    → text_of (kind_at n (changed n (saying cs) f)) ≡ Some (said ++ cs)
grown cs said n [] h = absurd cc
grown cs said zero (x ∷ f) h = grown_kind cs said x.kind h
grown cs said (suc n) (x ∷ f) h = grown cs said n f h

-- the node right before a place, after a change that keeps children
siblings_are : (s p : ℕ) (f : Forest) → parent_of s f ≡ Some p → siblings_of s f ≡ children_at p f
siblings_are s p f e = rw e

parent_kept : (cs : List ℕ) (n s at : ℕ) (f : Forest) → parent_from s at (changed n (saying cs) f) ≡ parent_from s at f
parent_kept cs n s at [] = refl
parent_kept cs zero s at (x ∷ f) = refl
parent_kept cs (suc n) s at (x ∷ f) =
    ap (λ found. if is_in s x.children then Some at else found) (parent_kept cs n s (suc at) f)

same_neighbour : (cs : List ℕ) (place : Place) (n : ℕ) (f : Forest) → IsForest f → IsPlace place f
    → neighbour place (changed n (saying cs) f) ≡ neighbour place f
same_neighbour cs (below p) n f forest is = ap last_of (kept (λ x. x.children) (saying cs) n p f (λ x. refl))
same_neighbour cs (before s) n f forest is =
    let e = parent_is s is.0 f forest is.1 in
    ap (one_before s) (siblings_are s is.0 (changed n (saying cs) f) (parent_kept cs n s 0 f ∙ e)
    ∙ kept (λ x. x.children) (saying cs) n is.0 f (λ x. refl) ∙ sym (siblings_are s is.0 f e))

-- a new text is the node right before its place
in_after : (n c : ℕ) (front rest : List ℕ) → IsIn n (front ++ c ∷ n ∷ rest)
in_after n c [] rest = inr (inl refl)
in_after n c (m ∷ front) rest = inr (in_after n c front rest)

still_in : (s q : ℕ) (kind : Kind) (f : Forest)
    → IsIn s (children_at q (put_node (before s) (nodes f) (made kind f))) → IsIn s (children_at q f)
still_in s q kind f i = subst (IsIn s) (children_made q kind f) (either (λ old. old) (λ new. new.1)
    (in_put_before s s (nodes f) (children_at q (made kind f))
    (subst (IsIn s) (put_in_front s (nodes f) q (made kind f)) i)))

new_children : (s p : ℕ) (front rest : List ℕ) (kind : Kind) (f : Forest) → IsForest f
    → children_at p f ≡ front ++ s ∷ rest
    → children_at p (put_node (before s) (nodes f) (made kind f)) ≡ front ++ nodes f ∷ s ∷ rest
new_children s p front rest kind f forest e = put_in_front s (nodes f) p (made kind f)
    ∙ ap (put_before s (nodes f)) (children_made p kind f ∙ e)
    ∙ put_before_at s (nodes f) front rest (not_in_front s front rest (subst AreDistinct e (forest.once p)))

not_new : (s p : ℕ) (f : Forest) → IsForest f → IsIn s (children_at p f) → ¬ (nodes f ≡ s)
not_new s p f forest i e = let within : s < nodes f = forest.within p s (of_child p s i) in omega arith

new_before : (s p : ℕ) (kind : Kind) (f : Forest) → IsForest f → IsIn s (children_at p f) → Standing s (children_at p f)
    → neighbour (before s) (put_node (before s) (nodes f) (made kind f)) ≡ Some (nodes f)
new_before s p kind f forest i stand =
    let g : Forest = put_node (before s) (nodes f) (made kind f) in
    let e : children_at p g ≡ stand.front ++ nodes f ∷ s ∷ stand.rest =
    new_children s p stand.front stand.rest kind f forest stand.whole in
    let there : IsIn s (children_at p g) = subst (IsIn s) (sym e) (in_after s (nodes f) stand.front stand.rest) in
    let parent : parent_of s g ≡ Some p = only_parent s 0 p g there (λ q j.
    forest.single q p s (of_child q s (still_in s q kind f j)) (of_child p s i)) ∙ ap Some (add-zero p) in
    ap (one_before s) (siblings_are s p g parent ∙ e) ∙ one_before_put s (nodes f) stand.front stand.rest
    (not_in_front s stand.front stand.rest (subst AreDistinct stand.whole (forest.once p))) (not_new s p f forest i)

more_held : (kind : Kind) (p : ℕ) (f : Forest) → Holds p f → Holds p (made kind f)
more_held kind p f h = let e : nodes (made kind f) ≡ suc (nodes f) = size_made kind f in omega arith

new_neighbour : (place : Place) (kind : Kind) (f : Forest) → IsForest f → IsPlace place f
    → neighbour place (put_node place (nodes f) (made kind f)) ≡ Some (nodes f)
new_neighbour (below p) kind f forest is = ap last_of (put_below p (nodes f) (made kind f) (more_held kind p f is))
    ∙ last_of_end (children_at p (made kind f)) (nodes f)
new_neighbour (before s) kind f forest is =
    new_before s is.0 kind f forest is.1 (standing s (children_at is.0 f) is.1)

-- a new text grows where it was put
changed_mapped : (ds : List ℕ) (s c n : ℕ) (f : Forest)
    → changed n (saying ds) (map (in_front s c) f) ≡ map (in_front s c) (changed n (saying ds) f)
changed_mapped ds s c n [] = refl
changed_mapped ds s c zero (x ∷ f) = refl
changed_mapped ds s c (suc n) (x ∷ f) = ap (λ g. in_front s c x ∷ g) (changed_mapped ds s c n f)

changed_after : (ds : List ℕ) (p c n : ℕ) (f : Forest)
    → changed n (saying ds) (changed p (trailing c) f) ≡ changed p (trailing c) (changed n (saying ds) f)
changed_after ds p c n [] = refl
changed_after ds zero c zero (x ∷ f) = refl
changed_after ds zero c (suc n) (x ∷ f) = refl
changed_after ds (suc p) c zero (x ∷ f) = refl
changed_after ds (suc p) c (suc n) (x ∷ f) = ap (λ g. x ∷ g) (changed_after ds p c n f)

changed_put : (ds : List ℕ) (place : Place) (c n : ℕ) (f : Forest)
    → changed n (saying ds) (put_node place c f) ≡ put_node place c (changed n (saying ds) f)
changed_put ds (below p) c n f = changed_after ds p c n f
changed_put ds (before s) c n f = changed_mapped ds s c n f

changed_made : (cs ds : List ℕ) (f : Forest)
    → changed (nodes f) (saying ds) (made (text cs) f) ≡ made (text (cs ++ ds)) f
changed_made cs ds [] = refl
changed_made cs ds (x ∷ f) = ap (λ g. x ∷ g) (changed_made cs ds f)

new_twice : (place : Place) (cs : List ℕ) (d : ℕ) (ds : List ℕ) (f : Forest) → IsForest f → IsPlace place f
    → put_node place (nodes f) (made (text (cs ++ d ∷ ds)) f)
    ≡ put_words place (d ∷ ds) (put_node place (nodes f) (made (text cs) f))
new_twice place cs d ds f forest is =
    ap (put_node place (nodes f)) (sym (changed_made cs (d ∷ ds) f))
    ∙ sym (changed_put (d ∷ ds) place (nodes f) (nodes f) (made (text cs) f))
    ∙ sym (text_more place d ds cs (nodes f) (put_node place (nodes f) (made (text cs) f))
    (new_neighbour place (text cs) f forest is)
    (ap text_of (put_kinds place (nodes f) (nodes f) (made (text cs) f) ∙ kind_new (text cs) f)))

-- texts side by side, by what stands right before their place
on_found : (place : Place) (c : ℕ) (cs : List ℕ) (d : ℕ) (ds : List ℕ) (n : ℕ) (f : Forest) (said : Option (List ℕ))
    → IsForest f → IsPlace place f → neighbour place f ≡ Some n → text_of (kind_at n f) ≡ said
    → put_words place (c ∷ (cs ++ d ∷ ds)) f ≡ put_words place (d ∷ ds) (put_words place (c ∷ cs) f)
on_found place c cs d ds n f None forest is e k = new_text_after place c (cs ++ d ∷ ds) n f e k
    ∙ new_twice place (c ∷ cs) d ds f forest is
    ∙ ap (put_words place (d ∷ ds)) (sym (new_text_after place c cs n f e k))
on_found place c cs d ds n f (Some said) forest is e k = text_more place c (cs ++ d ∷ ds) said n f e k
    ∙ sym (changed_twice (c ∷ cs) (d ∷ ds) n f)
    ∙ sym (text_more place d ds (said ++ c ∷ cs) n (changed n (saying (c ∷ cs)) f)
    (same_neighbour (c ∷ cs) place n f forest is ∙ e) (grown (c ∷ cs) said n f k))
    ∙ ap (put_words place (d ∷ ds)) (sym (text_more place c cs said n f e k))

on_place : (place : Place) (c : ℕ) (cs : List ℕ) (d : ℕ) (ds : List ℕ) (f : Forest) (found : Option ℕ)
    → IsForest f → IsPlace place f → neighbour place f ≡ found
    → put_words place (c ∷ (cs ++ d ∷ ds)) f ≡ put_words place (d ∷ ds) (put_words place (c ∷ cs) f)
on_place place c cs d ds f None forest is e = new_text place c (cs ++ d ∷ ds) f e
    ∙ new_twice place (c ∷ cs) d ds f forest is ∙ ap (put_words place (d ∷ ds)) (sym (new_text place c cs f e))
on_place place c cs d ds f (Some n) forest is e =
    on_found place c cs d ds n f (text_of (kind_at n f)) forest is e refl

pub side_by_side : (place : Place) (cs ds : List ℕ) (f : Forest) → IsForest f → IsPlace place f
    → put_words place (cs ++ ds) f ≡ put_words place ds (put_words place cs f)
side_by_side place [] ds f forest is = refl
side_by_side place (c ∷ cs) [] f forest is = ap (λ l. put_words place (c ∷ l) f) (append-nil cs)
side_by_side place (c ∷ cs) (d ∷ ds) f forest is = on_place place c cs d ds f (neighbour place f) forest is refl
