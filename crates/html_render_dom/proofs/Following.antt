-- Links that are followed to the end, one step at a time.
use Rattle.std.proofs.Common.{◌≡◌, ◌<◌, ◌≤◌, ◌⊎◌, ◌∷◌, ◌∙◌, List, None, Option, Some, ap, arith, inl, inr, length, refl}
use Rattle.std.proofs.Common.{slice_set, subst, suc, sym, zero, ℕ}
use Rattle.std.proofs.lemmas.Bool.{cases_eq}
use Rattle.std.proofs.lemmas.List.{get_or-set_same, get_or-set_other, length-set}
use Rattle.tree_forest.specs.Orders.{IsIn}
use Rattle.html_render_dom.specs.Siblings.{Links, link_at, with_parent}
use Rattle.html_render_dom.specs.Nodes.{IsFollowed, chain, with_parents}
use Rattle.html_render_dom.proofs.ChainForests.{chain_is}

chain_short : (next : List (Option ℕ)) (steps : ℕ) (o : Option ℕ) → length (chain next steps o) ≤ steps
chain_short next steps None = omega arith
chain_short next zero (Some n) = omega arith
chain_short next (suc steps) (Some n) =
    let h : length (chain next steps (link_at n next)) ≤ steps = chain_short next steps (link_at n next) in omega arith

-- one step
pub record IsStep (next : List (Option ℕ)) (steps c : ℕ) : Type 0 where
  pub first : chain next steps (Some c) ≡ c ∷ chain next steps (link_at c next)
  pub followed : IsFollowed next (link_at c next) (chain next steps (link_at c next))

pub chain_step : (next : List (Option ℕ)) (steps c : ℕ) → IsFollowed next (Some c) (chain next steps (Some c)) →
    IsStep next steps c
chain_step next zero c f = absurd (cc)
chain_step next (suc steps) c f =
    let short : length (chain next steps (link_at c next)) ≤ steps = chain_short next steps (link_at c next) in
    let same : chain next (suc steps) (link_at c next) ≡ chain next steps (link_at c next) =
    chain_is next (suc steps) (link_at c next) (chain next steps (link_at c next)) f.1 (omega (arith, short)) in
    record {
      first = ap (λ v. c ∷ v) (sym same);
      followed = subst (IsFollowed next (link_at c next)) (sym same) f.1;
    }

-- the children that were passed have noted their parent, and no other link has changed
pub record IsLinking (p : ℕ) (rest first : Option ℕ) (old new : Links) : Type 0 where
  pub same : new ≡ with_parents new.parent old
  pub counted : length new.parent ≡ length old.parent
  pub followed : IsFollowed old.next rest (chain old.next (length old.next) rest)
  pub within : (n : ℕ) → IsIn n (chain old.next (length old.next) rest) → IsIn n
      (chain old.next (length old.next) first)
  pub passed : (n : ℕ) → IsIn n (chain old.next (length old.next) first) →
      IsIn n (chain old.next (length old.next) rest) ⊎ (link_at n new.parent ≡ Some p)
  pub others : (n : ℕ) → ¬ (IsIn n (chain old.next (length old.next) first)) →
      link_at n new.parent ≡ link_at n old.parent

pub linking_first : (p : ℕ) (first : Option ℕ) (old : Links) →
    IsFollowed old.next first (chain old.next (length old.next) first) → IsLinking p first first old old
linking_first p first old f = record {
  same = refl;
  counted = refl;
  followed = f;
  within = λ n i. i;
  passed = λ n i. inl i;
  others = λ n off. refl;
}

pub child_within : (p c : ℕ) (rest first : Option ℕ) (old new : Links) → IsLinking p rest first old new →
    rest ≡ Some c → IsIn c (chain old.next (length old.next) first)
child_within p c rest first old new linking is =
    let step = chain_step old.next (length old.next) c
    (subst (λ o. IsFollowed old.next o (chain old.next (length old.next) o)) is linking.followed) in
    linking.within c (subst (IsIn c) (sym (ap (chain old.next (length old.next)) is ∙ step.first)) (inl refl))

pub linking_next : (p c : ℕ) (rest first after : Option ℕ) (old new m : Links) → IsLinking p rest first old new →
    rest ≡ Some c → c < length old.parent → m ≡ with_parent c (Some p) new → after ≡ link_at c new.next →
    IsLinking p after first old m
linking_next p c rest first after old new m linking is holds set read =
    subst (IsLinking p after first old) (sym set) (record {
      same = ap (with_parent c (Some p)) linking.same;
      counted = length-set new.parent c (Some p) ∙ linking.counted;
      followed = subst (λ o. IsFollowed old.next o (chain old.next (length old.next) o)) (sym to) step.followed;
      within = λ n i. linking.within n (subst (IsIn n) (sym whole) (inr i));
      passed = λ n i. passed n (cases_eq n c) (linking.passed n i);
      others = λ n off. there n (λ e. off (subst (λ k. IsIn k (chain old.next (length old.next) first)) (sym e)
          (child_within p c rest first old new linking is))) ∙ linking.others n off;
    }) where
      step : IsStep old.next (length old.next) c
      step = chain_step old.next (length old.next) c
          (subst (λ o. IsFollowed old.next o (chain old.next (length old.next) o)) is linking.followed)

      to : after ≡ link_at c old.next
      to = read ∙ ap (λ (v : Links). link_at c v.next) linking.same

      whole : chain old.next (length old.next) rest ≡ c ∷ chain old.next (length old.next) after
      whole = ap (chain old.next (length old.next)) is ∙ (step.first
          ∙ ap (λ o. c ∷ chain old.next (length old.next) o) (sym to))

      there : (n : ℕ) → ¬ (n ≡ c) → link_at n (slice_set new.parent c (Some p)) ≡ link_at n new.parent
      there n off = get_or-set_other new.parent c n (Some p) None off

      here : link_at c (slice_set new.parent c (Some p)) ≡ Some p
      here = get_or-set_same new.parent c (Some p) None (subst (λ k. c < k) (sym linking.counted) holds)

      passed : (n : ℕ) → (n ≡ c) ⊎ (n ≡ c → ⊥) →
          IsIn n (chain old.next (length old.next) rest) ⊎ (link_at n new.parent ≡ Some p) →
          IsIn n (chain old.next (length old.next) after) ⊎ (link_at n (slice_set new.parent c (Some p)) ≡ Some p)
      passed n (inl e) _ = inr (ap (λ k. link_at k (slice_set new.parent c (Some p))) e ∙ here)
      passed n (inr off) (inr was) = inr (there n off ∙ was)
      passed n (inr off) (inl i) = left (subst (IsIn n) whole i) where
        left : IsIn n (c ∷ chain old.next (length old.next) after) →
            IsIn n (chain old.next (length old.next) after) ⊎ (link_at n (slice_set new.parent c (Some p)) ≡ Some p)
        left (inl e) = absurd (off e)
        left (inr j) = inl j

pub fewer_left : (p c : ℕ) (rest first after : Option ℕ) (old new : Links) → IsLinking p rest first old new →
    rest ≡ Some c → after ≡ link_at c new.next →
    length (chain old.next (length old.next) after) < length (chain old.next (length old.next) rest)
fewer_left p c rest first after old new linking is read =
    let step = chain_step old.next (length old.next) c
    (subst (λ o. IsFollowed old.next o (chain old.next (length old.next) o)) is linking.followed) in
    let to : after ≡ link_at c old.next = read ∙ ap (λ (v : Links). link_at c v.next) linking.same in
    let whole : length (chain old.next (length old.next) rest) ≡ suc (length (chain old.next (length old.next) after)) =
    ap length (ap (chain old.next (length old.next)) is ∙ (step.first
    ∙ ap (λ o. c ∷ chain old.next (length old.next) o) (sym to))) in omega (arith, whole)

pub all_passed : (p n : ℕ) (rest first : Option ℕ) (old new : Links) → IsLinking p rest first old new → rest ≡ None →
    IsIn n (chain old.next (length old.next) first) → link_at n new.parent ≡ Some p
all_passed p n rest first old new linking end i = by (linking.passed n i) where
  by : IsIn n (chain old.next (length old.next) rest) ⊎ (link_at n new.parent ≡ Some p) → link_at n new.parent ≡ Some p
  by (inl j) = absurd (subst (IsIn n) (ap (chain old.next (length old.next)) end) j)
  by (inr e) = e
