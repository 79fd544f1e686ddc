-- Nodes in memory are the forest of before with one change, and linked.
use Rattle.std.proofs.Common.{◌≡◌, ◌<◌, ◌⊎◌, [], ◌∷◌, ◌++◌, ◌∙◌, ◌+◌, List, MatchOption, None, Option, Some, ap, ap₂}
use Rattle.std.proofs.Common.{arith, inl, inr, length, refl, slice_index_or, subst, suc, sym, zero, ℕ}
use Rattle.std.specs.Option.{option_to_list}
use Rattle.std.proofs.lemmas.List.{length-append, length-map}
use Rattle.tree_forest.specs.Changes.{made, reparented}
use Rattle.tree_forest.specs.Conditions.{CanMove}
use Rattle.tree_forest.specs.Forest.{Forest, Holds, Kind, children_at, document, kind_at, nodes, page_alone}
use Rattle.tree_forest.specs.Orders.{AreDistinct, IsForest, IsIn, of_child}
use Rattle.tree_forest.specs.Places.{before, below, last_of, one_before}
use Rattle.tree_forest.proofs.LawLists.{chosen_at, chosen_off, not_in_front, standing}
use Rattle.tree_forest.proofs.Nodes.{holds_child, same_some}
use Rattle.html_render_dom.specs.Links.{AreLinks, IsLinked}
use Rattle.html_render_dom.specs.Siblings.{IsChain, Spot, after_of, before_of, edge, first_spot, given, holder}
use Rattle.html_render_dom.specs.Siblings.{last_spot, link_at, number_at, put_between, sibling, spot_of, taken_from}
use Rattle.html_render_dom.specs.Nodes.{IsFollowed, chain, forest_of, kind_of, kinds_in, kinds_of, links_in, links_of}
use Rattle.html_render_dom.specs.Nodes.{with_no_links, with_parents}
use Rattle.html_render_dom.specs.Spans.{IsLeft, span}
use Rattle.html_render_dom.specs.declared.node.Node.{Node as HeldNode}
use Rattle.html_render_dom.specs.declared.nodes.Nodes.{Nodes}
use Rattle.html_render_dom.proofs.SpanSteps.{all_next, chain_span, left_is}
use Rattle.html_render_dom.proofs.ChainForests.{chain_children, forest_is, kind_of_held, run_followed, same_forest}
use Rattle.html_render_dom.proofs.ChainForests.{size_of}
use Rattle.html_render_dom.proofs.GivenChildren.{AreGiven, linked_given}
use Rattle.std.proofs.lemmas.Bool.{cases_eq}
use Rattle.html_render_dom.proofs.LinkedNodes.{no_child}
use Rattle.html_render_dom.proofs.LinkChanges.{after_is, before_is, down, first_back, holds_first, holds_last}
use Rattle.html_render_dom.proofs.LinkChanges.{last_back, linked_made, linked_out, linked_put}

-- a forest that is in memory, as a whole
pub held_as : (new : Nodes) (g : Forest) → nodes g ≡ length (kinds_of new) →
    ((m : ℕ) → kind_at m g ≡ slice_index_or (kinds_of new) m document) → IsForest g → AreLinks g (links_of new) →
    (forest_of new ≡ g) × IsLinked new
held_as new g size kinds forest links =
    let e = forest_is new g size kinds forest links in (
      e,
      record {
        forest = subst IsForest (sym e) forest;
        links = subst (λ v. AreLinks v (links_of new)) (sym e) links;
      },
    )

-- the kinds are those of before
pub held_with : (old new : Nodes) (g : Forest) → kinds_of new ≡ kinds_of old → nodes g ≡ nodes (forest_of old) →
    ((m : ℕ) → kind_at m g ≡ kind_at m (forest_of old)) → IsForest g → AreLinks g (links_of new) →
    (forest_of new ≡ g) × IsLinked new
held_with old new g same size kinds forest links = held_as new g
    (size ∙ (size_of old ∙ ap length (sym same)))
    (λ m. kinds m ∙ (kind_of_held old m ∙ ap (λ v. slice_index_or v m document) (sym same))) forest links

no_end : (ns : List ℕ) → ns ++ [] ≡ ns
no_end [] = refl
no_end (n ∷ ns) = ap (λ v. n ∷ v) (no_end ns)

-- the spots of a parent that the links lead to are there
pub last_held : (held : Nodes) (p : ℕ) (s : Option ℕ) → IsLinked held → Holds p (forest_of held) →
    s ≡ before_of (edge p) (links_of held) → holder (spot_of p s) < length (kinds_of held)
last_held held p s linked hp is =
    let cs = children_at p (forest_of held) in
    let at : spot_of p s ≡ last_spot (edge p) cs =
    ap (spot_of p) (is ∙ (linked.links.chains p).end.before) ∙ last_back p cs in
    subst (λ k. holder (spot_of p s) < k) (size_of held) (subst (λ u. holder u < nodes (forest_of held)) (sym at)
    (holds_last p (nodes (forest_of held)) cs hp (λ c i. linked.forest.within p c (of_child p c i))))

pub beside_held : (held : Nodes) (p n : ℕ) (s t : Option ℕ) → IsLinked held → IsIn n (children_at p (forest_of held)) →
    s ≡ before_of (sibling n) (links_of held) → t ≡ after_of (sibling n) (links_of held) →
    (holder (spot_of p s) < length (kinds_of held)) × (holder (spot_of p t) < length (kinds_of held))
beside_held held p n s t linked child is-s is-t =
    let f = forest_of held in
    let w = standing n (children_at p f) child in
    let chain : IsChain p (w.front ++ n ∷ w.rest) (links_of held) =
    subst (λ cs. IsChain p cs (links_of held)) w.whole (linked.links.chains p) in
    let at-s : spot_of p s ≡ last_spot (edge p) w.front =
    ap (spot_of p) (is-s ∙ before_is p n w.front w.rest (links_of held) chain) ∙ last_back p w.front in
    let at-t : spot_of p t ≡ first_spot w.rest (edge p) =
    ap (spot_of p) (is-t ∙ after_is p n w.front w.rest (links_of held) chain) ∙ first_back p w.rest in
    let hp = holds_child p n f child in (
      subst (λ k. holder (spot_of p s) < k) (size_of held) (subst (λ u. holder u < nodes f) (sym at-s)
          (holds_last p (nodes f) w.front hp (λ c i. within c (in_front c n w.front w.rest i) w.whole))),
      subst (λ k. holder (spot_of p t) < k) (size_of held) (subst (λ u. holder u < nodes f) (sym at-t)
          (holds_first p (nodes f) w.rest hp (λ c i. within c (in_rest c n w.front w.rest i) w.whole))),
    ) where
      in_front : (c n : ℕ) (xs ys : List ℕ) → IsIn c xs → IsIn c (xs ++ n ∷ ys)
      in_front c n [] ys i = absurd i
      in_front c n (x ∷ xs) ys (inl e) = inl e
      in_front c n (x ∷ xs) ys (inr i) = inr (in_front c n xs ys i)

      in_rest : (c n : ℕ) (xs ys : List ℕ) → IsIn c ys → IsIn c (xs ++ n ∷ ys)
      in_rest c n [] ys i = inr i
      in_rest c n (x ∷ xs) ys i = inr (in_rest c n xs ys i)

      within : (c : ℕ) {ns : List ℕ} → IsIn c ns → children_at p (forest_of held) ≡ ns → Holds c (forest_of held)
      within c i whole = linked.forest.within p c (of_child p c (subst (IsIn c) (sym whole) i))

-- a node that is put after the children of another
pub below_held : (old new : Nodes) (p n : ℕ) (s : Option ℕ) (g : Forest) → IsLinked old → Holds p (forest_of old) →
    CanMove (below p) n (forest_of old) → IsForest g → children_at p g ≡ children_at p (forest_of old) ++ n ∷ [] →
    ((q : ℕ) → ¬ (q ≡ p) → children_at q g ≡ children_at q (forest_of old)) → nodes g ≡ nodes (forest_of old) →
    ((m : ℕ) → kind_at m g ≡ kind_at m (forest_of old)) → kinds_of new ≡ kinds_of old →
    s ≡ before_of (edge p) (links_of old) → links_of new ≡ put_between p (spot_of p s) (edge p) n (links_of old) →
    (forest_of new ≡ g) × IsLinked new
below_held old new p n s g linked hp can forest there elsewhere size kinds same is links =
    held_with old new g same size kinds forest (subst (AreLinks g) (sym (links ∙ at))
    (linked_put (forest_of old) g (links_of old) p n cs [] linked.forest linked.links hp can.within
    (no_child n (forest_of old) can.free) (sym (no_end cs)) there elsewhere size)) where
      cs : List ℕ
      cs = children_at p (forest_of old)

      at : put_between p (spot_of p s) (edge p) n (links_of old)
          ≡ put_between p (last_spot (edge p) cs) (edge p) n (links_of old)
      at = ap (λ u. put_between p u (edge p) n (links_of old))
          (ap (spot_of p) (is ∙ (linked.links.chains p).end.before) ∙ last_back p cs)

-- a node that is put before a child
pub before_held : (old new : Nodes) (p n k : ℕ) (s : Option ℕ) (g : Forest) (xs ys : List ℕ) → IsLinked old →
    CanMove (before k) n (forest_of old) → children_at p (forest_of old) ≡ xs ++ k ∷ ys → IsForest g →
    children_at p g ≡ xs ++ n ∷ k ∷ ys →
    ((q : ℕ) → ¬ (q ≡ p) → children_at q g ≡ children_at q (forest_of old)) → nodes g ≡ nodes (forest_of old) →
    ((m : ℕ) → kind_at m g ≡ kind_at m (forest_of old)) → kinds_of new ≡ kinds_of old →
    s ≡ before_of (sibling k) (links_of old) →
    links_of new ≡ put_between p (spot_of p s) (sibling k) n (links_of old) → (forest_of new ≡ g) × IsLinked new
before_held old new p n k s g xs ys linked can here forest there elsewhere size kinds same is links =
    held_with old new g same size kinds forest (subst (AreLinks g) (sym (links ∙ at))
    (linked_put (forest_of old) g (links_of old) p n xs (k ∷ ys) linked.forest linked.links
    (holds_child p k (forest_of old) (subst (IsIn k) (sym here) (middle xs)))
    can.within (no_child n (forest_of old) can.free) here there elsewhere size)) where
      middle : (xs : List ℕ) → IsIn k (xs ++ k ∷ ys)
      middle [] = inl refl
      middle (x ∷ xs) = inr (middle xs)

      at : put_between p (spot_of p s) (sibling k) n (links_of old)
          ≡ put_between p (last_spot (edge p) xs) (sibling k) n (links_of old)
      at = ap (λ u. put_between p u (sibling k) n (links_of old))
          (ap (spot_of p) (is ∙ before_is p k xs ys (links_of old)
          (subst (λ cs. IsChain p cs (links_of old)) here (linked.links.chains p))) ∙ last_back p xs)

-- a node that is taken out
pub out_held : (old new : Nodes) (p n : ℕ) (s t : Option ℕ) (g : Forest) (xs ys : List ℕ) → IsLinked old →
    children_at p (forest_of old) ≡ xs ++ n ∷ ys → IsForest g → children_at p g ≡ xs ++ ys →
    ((q : ℕ) → ¬ (q ≡ p) → children_at q g ≡ children_at q (forest_of old)) → nodes g ≡ nodes (forest_of old) →
    ((m : ℕ) → kind_at m g ≡ kind_at m (forest_of old)) → kinds_of new ≡ kinds_of old →
    s ≡ before_of (sibling n) (links_of old) → t ≡ after_of (sibling n) (links_of old) →
    links_of new ≡ taken_from (spot_of p s) (spot_of p t) n (links_of old) → (forest_of new ≡ g) × IsLinked new
out_held old new p n s t g xs ys linked here forest there elsewhere size kinds same is-s is-t links =
    held_with old new g same size kinds forest (subst (AreLinks g) (sym (links ∙ at))
    (linked_out (forest_of old) g (links_of old) p n xs ys linked.forest linked.links
    (holds_child p n (forest_of old) (subst (IsIn n) (sym here) (middle xs))) here there elsewhere size)) where
      middle : (xs : List ℕ) → IsIn n (xs ++ n ∷ ys)
      middle [] = inl refl
      middle (x ∷ xs) = inr (middle xs)

      chain : IsChain p (xs ++ n ∷ ys) (links_of old)
      chain = subst (λ cs. IsChain p cs (links_of old)) here (linked.links.chains p)

      at : taken_from (spot_of p s) (spot_of p t) n (links_of old)
          ≡ taken_from (last_spot (edge p) xs) (first_spot ys (edge p)) n (links_of old)
      at = ap₂ (λ u v. taken_from u v n (links_of old))
          (ap (spot_of p) (is-s ∙ before_is p n xs ys (links_of old) chain) ∙ last_back p xs)
          (ap (spot_of p) (is-t ∙ after_is p n xs ys (links_of old) chain) ∙ first_back p ys)

-- a node more
kind_after : (kind : Kind) (f : Forest) (ks : List Kind) (m : ℕ) → nodes f ≡ length ks →
    ((k : ℕ) → kind_at k f ≡ slice_index_or ks k document) →
    kind_at m (made kind f) ≡ slice_index_or (ks ++ kind ∷ []) m document
kind_after kind [] [] zero size kinds = refl
kind_after kind [] [] (suc m) size kinds = refl
kind_after kind [] (k ∷ ks) m size kinds = absurd (omega (arith, size))
kind_after kind (x ∷ f) [] m size kinds = absurd (omega (arith, size))
kind_after kind (x ∷ f) (k ∷ ks) zero size kinds = kinds zero
kind_after kind (x ∷ f) (k ∷ ks) (suc m) size kinds =
    kind_after kind f ks m (omega (arith, size)) (λ n. kinds (suc n))

pub made_held : (old new : Nodes) (kind : Kind) → IsLinked old → IsForest (made kind (forest_of old)) →
    nodes (made kind (forest_of old)) ≡ suc (nodes (forest_of old)) →
    ((q : ℕ) → children_at q (made kind (forest_of old)) ≡ children_at q (forest_of old)) →
    kinds_of new ≡ kinds_of old ++ kind ∷ [] → links_of new ≡ with_no_links (links_of old) →
    (forest_of new ≡ made kind (forest_of old)) × IsLinked new
made_held old new kind linked forest size children kinds links = held_as new (made kind (forest_of old))
    (size ∙ (ap suc (size_of old) ∙ sym (ap length kinds ∙ (length-append (kinds_of old) (kind ∷ []) ∙ omega arith))))
    (λ m. kind_after kind (forest_of old) (kinds_of old) m (size_of old) (kind_of_held old)
    ∙ ap (λ v. slice_index_or v m document) (sym kinds))
    forest
    (subst (AreLinks (made kind (forest_of old))) (sym links)
    (linked_made (forest_of old) (made kind (forest_of old)) (links_of old) linked.links size children))

-- a node that has noted no parent, and one that has another
pub no_parent : (held : Nodes) (n p : ℕ) → IsLinked held → None ≡ link_at n (links_of held).parent →
    ¬ (IsIn n (children_at p (forest_of held)))
no_parent held n p linked e i =
    let both : None ≡ Some p = e ∙ down (forest_of held) (links_of held) n p linked.links i in absurd (cc)

pub one_parent : (f : Forest) (n p q : ℕ) → IsForest f → IsIn n (children_at p f) → ¬ (q ≡ p) →
    ¬ (IsIn n (children_at q f))
one_parent f n p q forest i off j = off (forest.single q p n (of_child q n j) (of_child p n i))

-- the children of a node that are given to another
pub given_facts : (f : Forest) (from to c : ℕ) (cs : List ℕ) → children_at from f ≡ c ∷ cs → ¬ (from ≡ to) →
    children_at to (reparented from to f) ≡ children_at to f ++ children_at from f →
    children_at from (reparented from to f) ≡ [] →
    ((q : ℕ) → ¬ (q ≡ from) → ¬ (q ≡ to) → children_at q (reparented from to f) ≡ children_at q f) →
    nodes (reparented from to f) ≡ nodes f →
    AreGiven f (reparented from to f) from to c (children_at to f) cs
given_facts f from to c cs is apart all none elsewhere size = record {
  apart = apart;
  children = refl;
  moved = is;
  all = all ∙ ap (λ v. children_at to f ++ v) is;
  none = none;
  elsewhere = elsewhere;
  size = size;
}

-- the first child, and those after it
pub record StartsWith (c : ℕ) (cs : List ℕ) : Type 0 where
  pub rest : List ℕ
  pub whole : cs ≡ c ∷ rest

pub starts_with : (held : Nodes) (p c : ℕ) → IsLinked held → Some c ≡ after_of (edge p) (links_of held) →
    StartsWith c (children_at p (forest_of held))
starts_with held p c linked e = by (children_at p (forest_of held)) (linked.links.chains p) where
  by : (cs : List ℕ) → IsChain p cs (links_of held) → StartsWith c cs
  by [] chain = absurd (let none : Some c ≡ None = e ∙ chain.end.trailing in cc)
  by (d ∷ cs) chain = let same : Some c ≡ Some d = e ∙ chain.run.0.trailing in
      record { rest = cs; whole = ap (λ v. v ∷ cs) (sym (same_some c d same)) }

pub no_first : (held : Nodes) (p : ℕ) → IsLinked held → None ≡ after_of (edge p) (links_of held) →
    children_at p (forest_of held) ≡ []
no_first held p linked e = by (children_at p (forest_of held)) (linked.links.chains p) where
  by : (cs : List ℕ) → IsChain p cs (links_of held) → cs ≡ []
  by [] chain = refl
  by (d ∷ cs) chain = absurd (let some : None ≡ Some d = e ∙ chain.run.0.trailing in cc)

-- what following the links of a node's children asks
pub children_chain : (held : Nodes) (p : ℕ) (o : Option ℕ) → IsLinked held → o ≡ after_of (edge p) (links_of held) →
    chain (links_of held).next (length (links_of held).next) o ≡ children_at p (forest_of held)
children_chain held p o linked e = ap (chain (links_of held).next (length (links_of held).next)) e
    ∙ chain_children p (forest_of held) (links_of held) linked.forest linked.links

pub children_followed : (held : Nodes) (p : ℕ) (o : Option ℕ) → IsLinked held → o ≡ after_of (edge p) (links_of held) →
    IsFollowed (links_of held).next o (chain (links_of held).next (length (links_of held).next) o)
children_followed held p o linked e = subst (IsFollowed (links_of held).next o) (sym (children_chain held p o linked e))
    (subst (λ v. IsFollowed (links_of held).next v (children_at p (forest_of held))) (sym e)
    (run_followed p (edge p) (children_at p (forest_of held)) (links_of held) (linked.links.chains p).run
    (linked.links.chains p).end.trailing))

pub children_held : (held : Nodes) (p n : ℕ) (o : Option ℕ) → IsLinked held → o ≡ after_of (edge p) (links_of held) →
    IsIn n (chain (links_of held).next (length (links_of held).next) o) → n < length (kinds_of held)
children_held held p n o linked e i = subst (λ k. n < k) (size_of held) (linked.forest.within p n
    (of_child p n (subst (IsIn n) (children_chain held p o linked e) i)))

pub all_counted : (held : Nodes) → IsLinked held → length (links_of held).parent ≡ length (kinds_of held)
all_counted held linked = linked.links.counted.parent ∙ size_of held

-- a node without children gives none
pub none_given : (f : Forest) (from to : ℕ) → children_at from f ≡ [] → ¬ (from ≡ to) →
    children_at to (reparented from to f) ≡ children_at to f ++ children_at from f →
    children_at from (reparented from to f) ≡ [] →
    ((q : ℕ) → ¬ (q ≡ from) → ¬ (q ≡ to) → children_at q (reparented from to f) ≡ children_at q f) →
    nodes (reparented from to f) ≡ nodes f → ((m : ℕ) → kind_at m (reparented from to f) ≡ kind_at m f) →
    f ≡ reparented from to f
none_given f from to is apart all none elsewhere size kinds = same_forest f (reparented from to f) (sym size)
    (λ m. sym (kinds m)) (λ q. sym (same q (cases_eq q from) (cases_eq q to))) where
      same : (q : ℕ) → (q ≡ from) ⊎ (q ≡ from → ⊥) → (q ≡ to) ⊎ (q ≡ to → ⊥) →
          children_at q (reparented from to f) ≡ children_at q f
      same q (inl e) _ = subst (λ v. children_at v (reparented from to f) ≡ children_at v f) (sym e) (none ∙ sym is)
      same q (inr _) (inl e) = subst (λ v. children_at v (reparented from to f) ≡ children_at v f) (sym e)
          (all ∙ (ap (λ v. children_at to f ++ v) is ∙ no_end (children_at to f)))
      same q (inr other) (inr off) = elsewhere q other off

pub given_held : (old new : Nodes) (from to c : ℕ) (cs : List ℕ) (s last : Option ℕ) (ps : List (Option ℕ))
    (g : Forest) → IsLinked old → Holds from (forest_of old) → Holds to (forest_of old) →
    AreGiven (forest_of old) g from to c (children_at to (forest_of old)) cs → IsForest g →
    ((m : ℕ) → kind_at m g ≡ kind_at m (forest_of old)) → kinds_of new ≡ kinds_of old →
    s ≡ before_of (edge to) (links_of old) → last ≡ before_of (edge from) (links_of old) →
    length ps ≡ length (links_of old).parent →
    ((n : ℕ) → IsIn n (c ∷ cs) → link_at n ps ≡ Some to) →
    ((n : ℕ) → ¬ (IsIn n (c ∷ cs)) → link_at n ps ≡ link_at n (links_of old).parent) →
    links_of new ≡ given from to (spot_of to s) c last (with_parents ps (links_of old)) →
    (forest_of new ≡ g) × IsLinked new
given_held old new from to c cs s last ps g linked hf ht are forest kinds same is-s is-last size passed others links =
    held_with old new g same are.size kinds forest (subst (AreLinks g) (sym (links ∙ at))
    (linked_given (forest_of old) g (links_of old) ps from to c (children_at to (forest_of old)) cs are linked.forest
    linked.links hf ht size passed others)) where
      at-s : spot_of to s ≡ last_spot (edge to) (children_at to (forest_of old))
      at-s = ap (spot_of to) (is-s ∙ (linked.links.chains to).end.before) ∙ last_back to
          (children_at to (forest_of old))

      at-last : last ≡ number_at (last_spot (sibling c) cs)
      at-last = is-last ∙ (subst (λ v. IsChain from v (links_of old)) are.moved (linked.links.chains from)).end.before

      at : given from to (spot_of to s) c last (with_parents ps (links_of old)) ≡ given from to
          (last_spot (edge to) (children_at to (forest_of old))) c (number_at (last_spot (sibling c) cs))
          (with_parents ps (links_of old))
      at = ap₂ (λ u v. given from to u c v (with_parents ps (links_of old))) at-s at-last

pub first_held : (held : Nodes) (p c : ℕ) → IsLinked held → Some c ≡ after_of (edge p) (links_of held) →
    c < length (kinds_of held)
first_held held p c linked e =
    let starts = starts_with held p c linked e in
    subst (λ k. c < k) (size_of held) (linked.forest.within p c (of_child p c
    (subst (IsIn c) (sym starts.whole) (inl refl))))

-- the children that an iterator begins with
abbrev pub all_left : (held : Nodes) (p : ℕ) (front back : Option ℕ) → IsLinked held →
    front ≡ after_of (edge p) (links_of held) → back ≡ before_of (edge p) (links_of held) →
    IsLeft (links_of held) (length (kinds_of held)) front back
all_left held p front back linked e h = record {
  numbers = children_at p (forest_of held);
  spans = chain_span p (children_at p (forest_of held)) (links_of held) front back (linked.links.chains p) e h;
  distinct = linked.forest.once p;
  within = λ n i. subst (λ k. n < k) (size_of held) (linked.forest.within p n (of_child p n i));
}

pub left_children : (held : Nodes) (p : ℕ) (front back : Option ℕ) → IsLinked held →
    front ≡ after_of (edge p) (links_of held) → back ≡ before_of (edge p) (links_of held) →
    span (links_of held).next (length (links_of held).next) front back ≡ children_at p (forest_of held)
left_children held p front back linked e h = left_is (links_of held) (length (kinds_of held)) front back
    (all_next held.items.items) (all_left held p front back linked e h)

-- a page's document alone
no_links_yet : AreLinks [] (links_in [])
no_links_yet = record {
  counted = record { parent = refl; first = refl; last = refl; previous = refl; next = refl };
  chains = λ p. record { run = tt; end = record { trailing = refl; before = refl } };
  up = λ n p e. absurd (cc);
  alone = λ n e. (refl, refl);
}

pub page_held : (held : Nodes) → IsForest page_alone → kinds_of held ≡ document ∷ [] →
    links_of held ≡ with_no_links (links_in []) → (forest_of held ≡ page_alone) × IsLinked held
page_held held forest kinds links = held_as held page_alone (sym (ap length kinds))
    (λ m. at m ∙ ap (λ v. slice_index_or v m document) (sym kinds)) forest
    (subst (AreLinks page_alone) (sym links) (linked_made [] page_alone (links_in []) no_links_yet refl children)) where
      at : (m : ℕ) → kind_at m page_alone ≡ slice_index_or (document ∷ []) m document
      at zero = refl
      at (suc m) = refl

      children : (q : ℕ) → children_at q page_alone ≡ children_at q []
      children zero = refl
      children (suc q) = refl

-- the last node was taken out
pub popped : (xs ys : List HeldNode) (r : Option HeldNode) (n m : ℕ) → xs ≡ ys ++ option_to_list r →
    MatchOption r ((n ≡ 0) × (m ≡ 0)) (λ _. m + 1 ≡ n) → n ≡ length xs → 0 < length (kinds_in xs) →
    (x : HeldNode) × (xs ≡ ys ++ x ∷ [])
popped xs ys None n m split empty count some =
    absurd (omega (arith, empty.0, count, length-map xs (λ (x : HeldNode). kind_of x.data)))
popped xs ys (Some x) n m split _ count some = (x, split)

-- what stands before the last one
same_front : {A : Type 0} (xs ys : List A) (x y : A) → xs ++ x ∷ [] ≡ ys ++ y ∷ [] → xs ≡ ys
same_front [] [] x y e = refl
same_front [] (b ∷ []) x y e = absurd (cc)
same_front [] (b ∷ c ∷ ys) x y e = absurd (cc)
same_front (a ∷ []) [] x y e = absurd (cc)
same_front (a ∷ c ∷ xs) [] x y e = absurd (cc)
same_front (a ∷ xs) (b ∷ ys) x y e =
    let rest : xs ++ x ∷ [] ≡ ys ++ y ∷ [] = cc in
    let first : a ≡ b = cc in
    ap (λ v. v ∷ xs) first ∙ ap (λ v. b ∷ v) (same_front xs ys x y rest)

pub one_less : (xs ys zs : List HeldNode) → (x : HeldNode) × (zs ≡ xs ++ x ∷ []) →
    (x : HeldNode) × (zs ≡ ys ++ x ∷ []) → xs ≡ ys
one_less xs ys zs one other = same_front xs ys one.0 other.0 (sym one.1 ∙ other.1)

pub some_kinds : (xs ys : List HeldNode) → (x : HeldNode) × (ys ≡ xs ++ x ∷ []) → 0 < length (kinds_in ys)
some_kinds xs ys more =
    let all : length ys ≡ length xs + 1 = ap length more.1 ∙ length-append xs (more.0 ∷ []) in
    omega (arith, all, length-map ys (λ (x : HeldNode). kind_of x.data))

-- the last child of a node, and the one right before another
last_spot_of : (s : Spot) (c : ℕ) (cs : List ℕ) → number_at (last_spot s (c ∷ cs)) ≡ last_of (c ∷ cs)
last_spot_of s c [] = refl
last_spot_of s c (d ∷ cs) = last_spot_of (sibling c) d cs

pub last_is : (held : Nodes) (p : ℕ) (o : Option ℕ) → IsLinked held → o ≡ before_of (edge p) (links_of held) →
    o ≡ last_of (children_at p (forest_of held))
last_is held p o linked e = e ∙ ((linked.links.chains p).end.before ∙ by (children_at p (forest_of held))) where
  by : (cs : List ℕ) → number_at (last_spot (edge p) cs) ≡ last_of cs
  by [] = refl
  by (c ∷ cs) = last_spot_of (edge p) c cs

one_before_at : (front rest : List ℕ) (p s : ℕ) → AreDistinct (front ++ s ∷ rest) →
    number_at (last_spot (edge p) front) ≡ one_before s (front ++ s ∷ rest)
one_before_at front rest p s d = from front (edge p) refl d where
  none : (n : ℕ) (ms : List ℕ) → ¬ (IsIn s ms) → one_before s (n ∷ ms) ≡ None
  none n [] off = refl
  none n (m ∷ ms) off = chosen_off m s (Some n) (one_before s (m ∷ ms)) (λ e. off (inl (sym e)))
      ∙ none m ms (λ i. off (inr i))

  trailing : (n : ℕ) (front : List ℕ) → AreDistinct (n ∷ front ++ s ∷ rest) →
      number_at (last_spot (sibling n) front) ≡ one_before s (n ∷ front ++ s ∷ rest)
  trailing n [] d = sym (chosen_at s s (Some n) (one_before s (s ∷ rest)) refl)
  trailing n (m ∷ front) d = trailing m front d.1 ∙ sym (chosen_off m s (Some n) (one_before s (m ∷ front ++ s ∷ rest))
      (λ e. not_in_front s (m ∷ front) rest d.1 (inl (sym e))))

  from : (front : List ℕ) (u : Spot) → u ≡ edge p → AreDistinct (front ++ s ∷ rest) →
      number_at (last_spot u front) ≡ one_before s (front ++ s ∷ rest)
  from [] u e d = ap number_at e ∙ sym (none s rest d.0)
  from (n ∷ front) u e d = trailing n front d

pub before_child : (held : Nodes) (p s : ℕ) (o : Option ℕ) → IsLinked held →
    Some p ≡ link_at s (links_of held).parent → o ≡ before_of (sibling s) (links_of held) →
    o ≡ one_before s (children_at p (forest_of held))
before_child held p s o linked noted e =
    let cs = children_at p (forest_of held) in
    let w = standing s cs (linked.links.up s p (sym noted)) in
    e ∙ (before_is p s w.front w.rest (links_of held)
    (subst (λ v. IsChain p v (links_of held)) w.whole (linked.links.chains p))
    ∙ (one_before_at w.front w.rest p s (subst AreDistinct w.whole (linked.forest.once p)) ∙ ap (one_before s)
    (sym w.whole)))

-- an element, and what holds its contents
pub element_held : (old new : Nodes) (kind : Kind) (g : Forest) → IsLinked old → made kind (forest_of old) ≡ g →
    IsForest g → nodes (made kind (forest_of old)) ≡ suc (nodes (forest_of old)) →
    ((q : ℕ) → children_at q (made kind (forest_of old)) ≡ children_at q (forest_of old)) →
    kinds_of new ≡ kinds_of old ++ kind ∷ [] → links_of new ≡ with_no_links (links_of old) →
    (forest_of new ≡ g) × IsLinked new
element_held old new kind g linked is forest size children kinds links =
    let both = made_held old new kind linked (subst IsForest (sym is) forest) size children kinds links in
    (both.0 ∙ is, both.1)

pub template_held : (old new : Nodes) (kind : Kind) (g : Forest) → IsLinked old →
    made document (made kind (forest_of old)) ≡ g → IsForest g →
    ((k : Kind) (f : Forest) → nodes (made k f) ≡ suc (nodes f)) →
    ((k : Kind) (q : ℕ) (f : Forest) → children_at q (made k f) ≡ children_at q f) →
    kinds_of new ≡ (kinds_of old ++ kind ∷ []) ++ document ∷ [] →
    links_of new ≡ with_no_links (with_no_links (links_of old)) → (forest_of new ≡ g) × IsLinked new
template_held old new kind g linked is forest size children kinds links = held_as new g
    (ap nodes (sym is) ∙ (two ∙ sym (ap length kinds)))
    (λ m. ap (kind_at m) (sym is) ∙ (kind_after document one (kinds_of old ++ kind ∷ []) m one_size
    (λ k. kind_after kind (forest_of old) (kinds_of old) k (size_of old) (kind_of_held old))
    ∙ ap (λ v. slice_index_or v m document) (sym kinds)))
    forest (subst (AreLinks g) (sym links) (subst (λ v. AreLinks v (with_no_links (with_no_links (links_of old)))) is
    (linked_made one (made document one) (with_no_links (links_of old))
    (linked_made (forest_of old) one (links_of old) linked.links (size kind (forest_of old))
    (λ q. children kind q (forest_of old)))
    (size document one) (λ q. children document q one)))) where
      one : Forest
      one = made kind (forest_of old)

      one_size : nodes one ≡ length (kinds_of old ++ kind ∷ [])
      one_size = let more : nodes one ≡ suc (nodes (forest_of old)) = size kind (forest_of old) in
          let long : length (kinds_of old ++ kind ∷ []) ≡ length (kinds_of old) + 1 = length-append (kinds_of old)
          (kind ∷ []) in
          let held : nodes (forest_of old) ≡ length (kinds_of old) = size_of old in omega (arith, more, long, held)

      two : nodes (made document one) ≡ length ((kinds_of old ++ kind ∷ []) ++ document ∷ [])
      two = let more : nodes (made document one) ≡ suc (nodes one) = size document one in
          let long : length ((kinds_of old ++ kind ∷ []) ++ document ∷ []) ≡ length (kinds_of old ++ kind ∷ []) + 1 =
          length-append (kinds_of old ++ kind ∷ []) (document ∷ []) in omega (arith, more, long, one_size)

pub child_held : (held : Nodes) (n p : ℕ) → IsLinked held → Some p ≡ link_at n (links_of held).parent →
    n < length (kinds_of held)
child_held held n p linked noted = subst (λ k. n < k) (size_of held)
    (linked.forest.within p n (of_child p n (linked.links.up n p (sym noted))))
