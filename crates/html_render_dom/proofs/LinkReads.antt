-- What the links lead to after a change of one of them, and of a few.
use Rattle.std.proofs.Common.{◌≡◌, ℕ, ◌<◌, List, Option, None, Some, length, refl, sym, ap, ◌∙◌, subst}
use Rattle.std.proofs.lemmas.List.{get_or-set_same, get_or-set_other, length-set}
use Rattle.html_render_dom.specs.Siblings.{AreCounted, AreNeighbours, Links, Spot, after_of, before_of, edge, holder}
use Rattle.html_render_dom.specs.Siblings.{joined, link_at, number_at, put_between, sibling, taken_from, with_after}
use Rattle.html_render_dom.specs.Siblings.{with_before, with_parent}

pub same_sibling : {n m : ℕ} → sibling n ≡ sibling m → n ≡ m
same_sibling e = ap holder e

pub edge_apart : {p n : ℕ} → edge p ≡ sibling n → ⊥
edge_apart e = absurd (cc)

within : (k n : ℕ) (links : List (Option ℕ)) → length links ≡ k → n < k → n < length links
within k n links e h = subst (λ v. n < v) (sym e) h

-- one link
pub after_set : (k : ℕ) (s : Spot) (o : Option ℕ) (l : Links) → AreCounted k l → holder s < k →
    after_of s (with_after s o l) ≡ o
after_set k (edge p) o l c h = get_or-set_same l.first p o None (within k p l.first c.first h)
after_set k (sibling n) o l c h = get_or-set_same l.next n o None (within k n l.next c.next h)

pub before_set : (k : ℕ) (s : Spot) (o : Option ℕ) (l : Links) → AreCounted k l → holder s < k →
    before_of s (with_before s o l) ≡ o
before_set k (edge p) o l c h = get_or-set_same l.last p o None (within k p l.last c.last h)
before_set k (sibling n) o l c h = get_or-set_same l.previous n o None (within k n l.previous c.previous h)

pub parent_set : (k n : ℕ) (o : Option ℕ) (l : Links) → AreCounted k l → n < k →
    link_at n (with_parent n o l).parent ≡ o
parent_set k n o l c h = get_or-set_same l.parent n o None (within k n l.parent c.parent h)

pub after_kept : (s u : Spot) (o : Option ℕ) (l : Links) → ¬ (u ≡ s) →
    after_of u (with_after s o l) ≡ after_of u l
after_kept (edge p) (edge q) o l off = get_or-set_other l.first p q o None (λ e. off (ap edge e))
after_kept (edge p) (sibling n) o l off = refl
after_kept (sibling m) (edge q) o l off = refl
after_kept (sibling m) (sibling n) o l off = get_or-set_other l.next m n o None (λ e. off (ap sibling e))

pub before_kept : (s u : Spot) (o : Option ℕ) (l : Links) → ¬ (u ≡ s) →
    before_of u (with_before s o l) ≡ before_of u l
before_kept (edge p) (edge q) o l off = get_or-set_other l.last p q o None (λ e. off (ap edge e))
before_kept (edge p) (sibling n) o l off = refl
before_kept (sibling m) (edge q) o l off = refl
before_kept (sibling m) (sibling n) o l off = get_or-set_other l.previous m n o None (λ e. off (ap sibling e))

pub parent_kept : (n m : ℕ) (o : Option ℕ) (l : Links) → ¬ (m ≡ n) →
    link_at m (with_parent n o l).parent ≡ link_at m l.parent
parent_kept n m o l off = get_or-set_other l.parent n m o None off

-- a change of another kind of link
pub after_before : (s u : Spot) (o : Option ℕ) (l : Links) → after_of u (with_before s o l) ≡ after_of u l
after_before (edge p) (edge q) o l = refl
after_before (edge p) (sibling n) o l = refl
after_before (sibling m) (edge q) o l = refl
after_before (sibling m) (sibling n) o l = refl

pub before_after : (s u : Spot) (o : Option ℕ) (l : Links) → before_of u (with_after s o l) ≡ before_of u l
before_after (edge p) (edge q) o l = refl
before_after (edge p) (sibling n) o l = refl
before_after (sibling m) (edge q) o l = refl
before_after (sibling m) (sibling n) o l = refl

pub after_parent : (n : ℕ) (u : Spot) (o : Option ℕ) (l : Links) → after_of u (with_parent n o l) ≡ after_of u l
after_parent n (edge q) o l = refl
after_parent n (sibling m) o l = refl

pub before_parent : (n : ℕ) (u : Spot) (o : Option ℕ) (l : Links) → before_of u (with_parent n o l) ≡ before_of u l
before_parent n (edge q) o l = refl
before_parent n (sibling m) o l = refl

pub parent_after : (s : Spot) (o : Option ℕ) (l : Links) → (with_after s o l).parent ≡ l.parent
parent_after (edge p) o l = refl
parent_after (sibling m) o l = refl

pub parent_before : (s : Spot) (o : Option ℕ) (l : Links) → (with_before s o l).parent ≡ l.parent
parent_before (edge p) o l = refl
parent_before (sibling m) o l = refl

-- as many links as before
pub counted_after : (k : ℕ) (s : Spot) (o : Option ℕ) (l : Links) → AreCounted k l → AreCounted k (with_after s o l)
counted_after k (edge p) o l c = record {
  parent = c.parent;
  first = length-set l.first p o ∙ c.first;
  last = c.last;
  previous = c.previous;
  next = c.next;
}
counted_after k (sibling m) o l c = record {
  parent = c.parent;
  first = c.first;
  last = c.last;
  previous = c.previous;
  next = length-set l.next m o ∙ c.next;
}

pub counted_before : (k : ℕ) (s : Spot) (o : Option ℕ) (l : Links) → AreCounted k l → AreCounted k (with_before s o l)
counted_before k (edge p) o l c = record {
  parent = c.parent;
  first = c.first;
  last = length-set l.last p o ∙ c.last;
  previous = c.previous;
  next = c.next;
}
counted_before k (sibling m) o l c = record {
  parent = c.parent;
  first = c.first;
  last = c.last;
  previous = length-set l.previous m o ∙ c.previous;
  next = c.next;
}

pub counted_parent : (k n : ℕ) (o : Option ℕ) (l : Links) → AreCounted k l → AreCounted k (with_parent n o l)
counted_parent k n o l c = record {
  parent = length-set l.parent n o ∙ c.parent;
  first = c.first;
  last = c.last;
  previous = c.previous;
  next = c.next;
}

pub counted_joined : (k : ℕ) (s t : Spot) (l : Links) → AreCounted k l → AreCounted k (joined s t l)
counted_joined k s t l c =
    counted_before k t (number_at s) (with_after s (number_at t) l) (counted_after k s (number_at t) l c)

-- two spots that are joined
pub joined_after : (s t u : Spot) (l : Links) → ¬ (u ≡ s) → after_of u (joined s t l) ≡ after_of u l
joined_after s t u l off = after_before t u (number_at s) (with_after s (number_at t) l)
    ∙ after_kept s u (number_at t) l off

pub joined_before : (s t u : Spot) (l : Links) → ¬ (u ≡ t) → before_of u (joined s t l) ≡ before_of u l
joined_before s t u l off = before_kept t u (number_at s) (with_after s (number_at t) l) off
    ∙ before_after s u (number_at t) l

pub joined_parent : (s t : Spot) (l : Links) → (joined s t l).parent ≡ l.parent
joined_parent s t l = parent_before t (number_at s) (with_after s (number_at t) l) ∙ parent_after s (number_at t) l

pub joined_there : (k : ℕ) (s t : Spot) (l : Links) → AreCounted k l → holder s < k → holder t < k →
    AreNeighbours s t (joined s t l)
joined_there k s t l c hs ht = record {
  trailing = after_before t s (number_at s) (with_after s (number_at t) l) ∙ after_set k s (number_at t) l c hs;
  before = before_set k t (number_at s) (with_after s (number_at t) l) (counted_after k s (number_at t) l c) ht;
}

-- but for two spots and a node, the links are as they were
pub record Agrees (n : ℕ) (s t : Spot) (l m : Links) : Type 0 where
  pub trailing : (u : Spot) → ¬ (u ≡ s) → ¬ (u ≡ sibling n) → after_of u m ≡ after_of u l
  pub before : (u : Spot) → ¬ (u ≡ t) → ¬ (u ≡ sibling n) → before_of u m ≡ before_of u l
  pub parents : (k : ℕ) → ¬ (k ≡ n) → link_at k m.parent ≡ link_at k l.parent

-- a node that is put between two spots
pub record IsPut (p n : ℕ) (s t : Spot) (l m : Links) : Type 0 where
  pub agrees : Agrees n s t l m
  pub here : AreNeighbours s (sibling n) m
  pub there : AreNeighbours (sibling n) t m
  pub parent : link_at n m.parent ≡ Some p

pub is_put : (k p n : ℕ) (s t : Spot) (l : Links) → AreCounted k l → holder s < k → holder t < k → n < k →
    ¬ (s ≡ sibling n) → ¬ (t ≡ sibling n) → IsPut p n s t l (put_between p s t n l)
is_put k p n s t l c hs ht hn s-off t-off = record {
  agrees = record {
    trailing = λ u off other. after_parent n u (Some p) second ∙ joined_after (sibling n) t u first other
        ∙ joined_after s (sibling n) u l off;
    before = λ u off other. before_parent n u (Some p) second ∙ joined_before (sibling n) t u first off
        ∙ joined_before s (sibling n) u l other;
    parents = λ m off. parent_kept n m (Some p) second off
        ∙ ap (link_at m) (joined_parent (sibling n) t first ∙ joined_parent s (sibling n) l);
  };
  here = record {
    trailing = after_parent n s (Some p) second ∙ joined_after (sibling n) t s first s-off ∙ one.trailing;
    before = before_parent n (sibling n) (Some p) second
        ∙ joined_before (sibling n) t (sibling n) first (λ e. t-off (sym e)) ∙ one.before;
  };
  there = record {
    trailing = after_parent n (sibling n) (Some p) second ∙ two.trailing;
    before = before_parent n t (Some p) second ∙ two.before;
  };
  parent = parent_set k n (Some p) second (counted_joined k (sibling n) t first counted) hn;
} where
  first : Links
  first = joined s (sibling n) l

  second : Links
  second = joined (sibling n) t first

  counted : AreCounted k first
  counted = counted_joined k s (sibling n) l c

  one : AreNeighbours s (sibling n) first
  one = joined_there k s (sibling n) l c hs hn

  two : AreNeighbours (sibling n) t second
  two = joined_there k (sibling n) t first counted hn ht

pub counted_put : (k p n : ℕ) (s t : Spot) (l : Links) → AreCounted k l → AreCounted k (put_between p s t n l)
counted_put k p n s t l c = counted_parent k n (Some p) (joined (sibling n) t (joined s (sibling n) l))
    (counted_joined k (sibling n) t (joined s (sibling n) l) (counted_joined k s (sibling n) l c))

-- a node that is taken from between two spots
pub record IsOut (n : ℕ) (s t : Spot) (l m : Links) : Type 0 where
  pub agrees : Agrees n s t l m
  pub here : AreNeighbours s t m
  pub parent : link_at n m.parent ≡ None
  pub previous : link_at n m.previous ≡ None
  pub next : link_at n m.next ≡ None

pub is_out : (k n : ℕ) (s t : Spot) (l : Links) → AreCounted k l → holder s < k → holder t < k → n < k →
    ¬ (s ≡ sibling n) → ¬ (t ≡ sibling n) → IsOut n s t l (taken_from s t n l)
is_out k n s t l c hs ht hn s-off t-off = record {
  agrees = record {
    trailing = λ u off other. trailings u other ∙ joined_after s t u l off;
    before = λ u off other. befores u other ∙ joined_before s t u l off;
    parents = λ m off. parent_kept n m None third off ∙ ap (link_at m) (parent_before (sibling n) None second
        ∙ parent_after (sibling n) None first ∙ joined_parent s t l);
  };
  here = record { trailing = trailings s s-off ∙ one.trailing; before = befores t t-off ∙ one.before };
  parent = parent_set k n None third (counted_before k (sibling n) None second
      (counted_after k (sibling n) None first counted)) hn;
  previous = before_set k (sibling n) None second (counted_after k (sibling n) None first counted) hn;
  next = after_set k (sibling n) None first counted hn;
} where
  first : Links
  first = joined s t l

  second : Links
  second = with_after (sibling n) None first

  third : Links
  third = with_before (sibling n) None second

  counted : AreCounted k first
  counted = counted_joined k s t l c

  one : AreNeighbours s t first
  one = joined_there k s t l c hs ht

  trailings : (u : Spot) → ¬ (u ≡ sibling n) → after_of u (taken_from s t n l) ≡ after_of u first
  trailings u other = after_parent n u None third ∙ after_before (sibling n) u None second
      ∙ after_kept (sibling n) u None first other

  befores : (u : Spot) → ¬ (u ≡ sibling n) → before_of u (taken_from s t n l) ≡ before_of u first
  befores u other = before_parent n u None third ∙ before_kept (sibling n) u None second other
      ∙ before_after (sibling n) u None first

pub counted_out : (k n : ℕ) (s t : Spot) (l : Links) → AreCounted k l → AreCounted k (taken_from s t n l)
counted_out k n s t l c = counted_parent k n None
    (with_before (sibling n) None (with_after (sibling n) None (joined s t l)))
    (counted_before k (sibling n) None (with_after (sibling n) None (joined s t l))
    (counted_after k (sibling n) None (joined s t l) (counted_joined k s t l c)))
