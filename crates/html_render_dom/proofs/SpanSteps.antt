-- One child more is given, from either end.
use Rattle.std.proofs.Common.{◌≡◌, ◌+◌, ◌<◌, ◌≤◌, ◌⊎◌, [], ◌∷◌, ◌++◌, ◌∙◌, List, None, Option, Some, ap, arith, false}
use Rattle.std.proofs.Common.{inl, inr, length, option_map, refl, subst, suc, sym, true, zero, ℕ}
use Rattle.std.proofs.lemmas.Bool.{cond-true, cond-false, eq-eqb, eqb-true, ne_eqb}
use Rattle.std.proofs.lemmas.List.{length-append, length-map}
use Rattle.std.specs.Iterator.{MakesProgress, item_count}
use Rattle.tree_forest.specs.Orders.{AreDistinct, IsIn}
use Rattle.html_render_dom.specs.Siblings.{IsChain, IsRun, Links, after_of, before_of, edge, last_spot, link_at}
use Rattle.html_render_dom.specs.Siblings.{number_at, sibling}
use Rattle.html_render_dom.specs.Nodes.{kind_of, kinds_in, links_in}
use Rattle.html_render_dom.specs.Spans.{IsLeft, IsSpan, IsSpanFrom, is_at, span}
use Rattle.html_render_dom.specs.Numbers.{number_of}
use Rattle.html_render_dom.specs.declared.node.Node.{Node as HeldNode}
use Rattle.html_render_dom.proofs.ChainForests.{no_more}

same_some : {n m : ℕ} → Some n ≡ Some m → n ≡ m
same_some e = cc

-- the last of some children
abbrev last_number : ℕ → List ℕ → ℕ
last_number c [] = c
last_number c (d ∷ cs) = last_number d cs

last_in : (c : ℕ) (cs : List ℕ) → IsIn (last_number c cs) (c ∷ cs)
last_in c [] = inl refl
last_in c (d ∷ cs) = inr (last_in d cs)

span_back : (l : Links) (c : ℕ) (cs : List ℕ) (back : Option ℕ) → IsSpanFrom l c cs back →
    back ≡ Some (last_number c cs)
span_back l c [] back s = s
span_back l c (d ∷ cs) back s = span_back l d cs back s.1

-- the span that links and both ends give
span_from : (l : Links) (steps c : ℕ) (cs : List ℕ) (back : Option ℕ) → IsSpanFrom l c cs back → AreDistinct (c ∷ cs) →
    length (c ∷ cs) ≤ steps → span l.next steps (Some c) back ≡ c ∷ cs
span_from l zero c cs back s d h = absurd (omega arith)
span_from l (suc steps) c [] back s d h = ap (λ v. c ∷ v)
    (cond-true (is_at c back) _ _ (ap (is_at c) s ∙ eq-eqb c c refl))
span_from l (suc steps) c (e ∷ cs) back s d h = ap (λ v. c ∷ v)
    (cond-false (is_at c back) _ _ (ap (is_at c) (span_back l e cs back s.1)
    ∙ ne_eqb c (last_number e cs) (λ is. d.0 (subst (λ k. IsIn k (e ∷ cs)) (sym is) (last_in e cs))))
    ∙ (ap (λ o. span l.next steps o back) s.0.trailing ∙ span_from l steps e cs back s.1 d.1 (omega arith)))

pub span_is : (l : Links) (steps : ℕ) (front back : Option ℕ) (cs : List ℕ) → IsSpan l front cs back → AreDistinct cs →
    length cs ≤ steps → span l.next steps front back ≡ cs
span_is l steps front back [] s d h = ap (λ o. span l.next steps o back) s.0
span_is l steps front back (c ∷ cs) s d h = ap (λ o. span l.next steps o back) s.0 ∙ span_from l steps c cs back s.1 d h

pub left_is : (l : Links) (k : ℕ) (front back : Option ℕ) → length l.next ≡ k → (w : IsLeft l k front back) →
    span l.next (length l.next) front back ≡ w.numbers
left_is l k front back size w = span_is l (length l.next) front back w.numbers w.spans w.distinct
    (let h : length w.numbers ≤ k = no_more k w.numbers w.distinct w.within in omega (arith, size, h))

pub all_next : (xs : List HeldNode) → length (links_in xs).next ≡ length (kinds_in xs)
all_next xs = length-map xs (λ x. option_map number_of x.next) ∙ sym (length-map xs (λ x. kind_of x.data))

pub none_left : (l : Links) (k : ℕ) → IsLeft l k None None
none_left l k = record { numbers = []; spans = (refl, refl); distinct = tt; within = λ n i. absurd i }

pub no_back : (l : Links) (k : ℕ) (front back : Option ℕ) → back ≡ None → IsLeft l k front back → front ≡ None
no_back l k front back none w = by w.numbers w.spans where
  by : (cs : List ℕ) → IsSpan l front cs back → front ≡ None
  by [] s = s.0
  by (c ∷ cs) s =
      absurd (let both : None ≡ Some (last_number c cs) = sym none ∙ span_back l c cs back s.1 in cc)

-- the end is there
pub end_within : (l : Links) (k n : ℕ) (front back : Option ℕ) → (front ≡ Some n) ⊎ (back ≡ Some n) →
    IsLeft l k front back → n < k
end_within l k n front back e w = w.within n (by w.numbers w.spans e) where
  by : (cs : List ℕ) → IsSpan l front cs back → (front ≡ Some n) ⊎ (back ≡ Some n) → IsIn n cs
  by [] s (inl e) = absurd (let both : None ≡ Some n = sym s.0 ∙ e in cc)
  by [] s (inr e) = absurd (let both : None ≡ Some n = sym s.1 ∙ e in cc)
  by (c ∷ cs) s (inl e) = inl (same_some (sym e ∙ s.0))
  by (c ∷ cs) s (inr e) =
      subst (λ m. IsIn m (c ∷ cs)) (same_some (sym (span_back l c cs back s.1) ∙ e)) (last_in c cs)

-- the first one is given
pub record IsNextLeft (l : Links) (k n : ℕ) (front back : Option ℕ) : Type 0 where
  pub left : IsLeft l k (link_at n l.next) back
  pub gives : span l.next (length l.next) front back ≡ n ∷ span l.next (length l.next) (link_at n l.next) back

pub first_alone : (l : Links) (k n : ℕ) (front back : Option ℕ) → length l.next ≡ k → front ≡ Some n →
    true ≡ is_at n back → IsLeft l k front back → span l.next (length l.next) front back ≡ n ∷ []
first_alone l k n front back size is at w = left_is l k front back size w ∙ by w.numbers w.spans w.distinct where
  by : (cs : List ℕ) → IsSpan l front cs back → AreDistinct cs → cs ≡ n ∷ []
  by [] s d = absurd (let both : None ≡ Some n = sym s.0 ∙ is in cc)
  by (c ∷ []) s d = ap (λ v. v ∷ []) (same_some (sym s.0 ∙ is))
  by (c ∷ e ∷ cs) s d =
      let same : n ≡ c = same_some (sym is ∙ s.0) in
      let last : n ≡ last_number e cs = eqb-true n (last_number e cs)
      (sym (at ∙ ap (is_at n) (span_back l e cs back s.1.1))) in
      absurd (d.0 (subst (λ v. IsIn v (e ∷ cs)) (sym last ∙ same) (last_in e cs)))

pub first_of_more : (l : Links) (k n : ℕ) (front back : Option ℕ) → length l.next ≡ k → front ≡ Some n →
    false ≡ is_at n back → IsLeft l k front back → IsNextLeft l k n front back
first_of_more l k n front back size is at w = by w.numbers w.spans w.distinct w.within
    (left_is l k front back size w) where
      by : (cs : List ℕ) → IsSpan l front cs back → AreDistinct cs → ((m : ℕ) → IsIn m cs → m < k) →
          span l.next (length l.next) front back ≡ cs → IsNextLeft l k n front back
      by [] s d within whole = absurd (let both : None ≡ Some n = sym s.0 ∙ is in cc)
      by (c ∷ []) s d within whole =
          let same : n ≡ c = same_some (sym is ∙ s.0) in
          let no : false ≡ true = at ∙ (ap (is_at n) s.1 ∙ eq-eqb n c same) in absurd (cc)
      by (c ∷ e ∷ cs) s d within whole =
          let same : c ≡ n = same_some (sym s.0 ∙ is) in
          let next : link_at n l.next ≡ Some e = ap (λ v. link_at v l.next) (sym same) ∙ s.1.0.trailing in
          let left : IsLeft l k (link_at n l.next) back = record {
            numbers = e ∷ cs;
            spans = (next, s.1.1);
            distinct = d.1;
            within = λ m i. within m (inr i);
          } in
          record {
            left = left;
            gives = whole ∙ (ap (λ v. v ∷ e ∷ cs) same
                ∙ ap (λ v. n ∷ v) (sym (left_is l k (link_at n l.next) back size left)));
          }

-- the last one is given
pub record IsNextBack (l : Links) (k n : ℕ) (front back : Option ℕ) : Type 0 where
  pub left : IsLeft l k front (link_at n l.previous)
  pub gives : span l.next (length l.next) front back ≡ span l.next (length l.next) front (link_at n l.previous) ++ n ∷
      []

pub last_alone : (l : Links) (k n : ℕ) (front back : Option ℕ) → length l.next ≡ k → back ≡ Some n →
    true ≡ is_at n front → IsLeft l k front back → span l.next (length l.next) front back ≡ n ∷ []
last_alone l k n front back size is at w = by front refl at w where
  by : (o : Option ℕ) → front ≡ o → true ≡ is_at n o → IsLeft l k front back →
      span l.next (length l.next) front back ≡ n ∷ []
  by None e at w = absurd (cc)
  by (Some m) e at w =
      let same : n ≡ m = eqb-true n m (sym at) in
      first_alone l k n front back size (e ∙ ap Some (sym same)) (sym (ap (is_at n) is ∙ eq-eqb n n refl)) w

-- all but the last of them
record IsShorter (l : Links) (c n : ℕ) (cs : List ℕ) : Type 0 where
  front : List ℕ
  whole : c ∷ cs ≡ (c ∷ front) ++ n ∷ []
  spans : IsSpanFrom l c front (link_at n l.previous)

shorter : (l : Links) (c e : ℕ) (cs : List ℕ) (back : Option ℕ) → IsSpanFrom l c (e ∷ cs) back →
    IsShorter l c (last_number e cs) (e ∷ cs)
shorter l c e [] back s = record { front = []; whole = refl; spans = s.0.before }
shorter l c e (d ∷ cs) back s =
    let more = shorter l e d cs back s.1 in
    record { front = e ∷ more.front; whole = ap (λ v. c ∷ v) more.whole; spans = (s.0, more.spans) }

distinct_front : (xs : List ℕ) (n : ℕ) → AreDistinct (xs ++ n ∷ []) → AreDistinct xs
distinct_front [] n d = tt
distinct_front (x ∷ xs) n d = (λ i. d.0 (in_front xs i), distinct_front xs n d.1) where
  in_front : (xs : List ℕ) → IsIn x xs → IsIn x (xs ++ n ∷ [])
  in_front [] i = absurd i
  in_front (y ∷ ys) (inl e) = inl e
  in_front (y ∷ ys) (inr i) = inr (in_front ys i)

in_whole : (m n : ℕ) (xs : List ℕ) → IsIn m xs → IsIn m (xs ++ n ∷ [])
in_whole m n [] i = absurd i
in_whole m n (x ∷ xs) (inl e) = inl e
in_whole m n (x ∷ xs) (inr i) = inr (in_whole m n xs i)

pub last_of_more : (l : Links) (k n : ℕ) (front back : Option ℕ) → length l.next ≡ k → back ≡ Some n →
    false ≡ is_at n front → IsLeft l k front back → IsNextBack l k n front back
last_of_more l k n front back size is at w = by w.numbers w.spans w.distinct w.within
    (left_is l k front back size w) where
      by : (cs : List ℕ) → IsSpan l front cs back → AreDistinct cs → ((m : ℕ) → IsIn m cs → m < k) →
          span l.next (length l.next) front back ≡ cs → IsNextBack l k n front back
      by [] s d within whole = absurd (let both : None ≡ Some n = sym s.1 ∙ is in cc)
      by (c ∷ []) s d within whole =
          let same : n ≡ c = same_some (sym is ∙ s.1) in
          let no : false ≡ true = at ∙ (ap (is_at n) s.0 ∙ eq-eqb n c same) in absurd (cc)
      by (c ∷ e ∷ cs) s d within whole =
          let last : last_number e cs ≡ n = same_some (sym (span_back l e cs back s.1.1) ∙ is) in
          let less : IsShorter l c n (e ∷ cs) =
          subst (λ v. IsShorter l c v (e ∷ cs)) last (shorter l c e cs back s.1) in
          let left : IsLeft l k front (link_at n l.previous) = record {
            numbers = c ∷ less.front;
            spans = (s.0, less.spans);
            distinct = distinct_front (c ∷ less.front) n (subst AreDistinct less.whole d);
            within = λ m i. within m (subst (IsIn m) (sym less.whole) (in_whole m n (c ∷ less.front) i));
          } in
          record {
            left = left;
            gives = whole ∙ (less.whole
                ∙ ap (λ v. v ++ n ∷ []) (sym (left_is l k front (link_at n l.previous) size left)));
          }

-- all children of a node
run_span : (p c : ℕ) (cs : List ℕ) (l : Links) (back : Option ℕ) → IsRun p (sibling c) cs l →
    back ≡ number_at (last_spot (sibling c) cs) → IsSpanFrom l c cs back
run_span p c [] l back run e = e
run_span p c (d ∷ cs) l back run e = (run.0, run_span p d cs l back run.1.1 e)

pub chain_span : (p : ℕ) (cs : List ℕ) (l : Links) (front back : Option ℕ) → IsChain p cs l →
    front ≡ after_of (edge p) l → back ≡ before_of (edge p) l → IsSpan l front cs back
chain_span p [] l front back chain e h = (e ∙ chain.end.trailing, h ∙ chain.end.before)
chain_span p (c ∷ cs) l front back chain e h =
    (e ∙ chain.run.0.trailing, run_span p c cs l back chain.run.1.1 (h ∙ chain.end.before))

-- each call that gives one leaves fewer
pub goes_first : {H : Type 0} (number : H → ℕ) (can : List ℕ → Type 0) → ((t : List ℕ) → can t) → (s t : List ℕ)
    (n : H) → s ≡ number n ∷ t →
    MakesProgress can (item_count (λ (c : List ℕ). c)) s (Some n) t
goes_first number can allowed s t n e =
    let less : length t < length s = (let all : length s ≡ suc (length t) = ap length e in omega (arith, all)) in
    record { on = λ _. (allowed t, tt, less); keeps = allowed t; rests = λ _. tt }

pub goes_last : {H : Type 0} (number : H → ℕ) (can : List ℕ → Type 0) → ((t : List ℕ) → can t) → (s t : List ℕ)
    (n : H) → s ≡ t ++ number n ∷ [] →
    MakesProgress can (item_count (λ (c : List ℕ). c)) s (Some n) t
goes_last number can allowed s t n e =
    let less : length t < length s =
    (let all : length s ≡ length t + 1 = ap length e ∙ length-append t (number n ∷ []) in omega (arith, all)) in
    record { on = λ _. (allowed t, tt, less); keeps = allowed t; rests = λ _. tt }

-- nothing is left after a call that gave nothing
pub none_given : (l : Links) (k : ℕ) (front back : Option ℕ) → back ≡ None → IsLeft l k front back →
    span l.next (length l.next) front back ≡ []
none_given l k front back none w = ap (λ o. span l.next (length l.next) o back) (no_back l k front back none w)
