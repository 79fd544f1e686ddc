-- How what holds changes with a declaration more.
use Rattle.std.proofs.Common.{◌≡◌, Bool, true, false, List, [], ◌∷◌, ◌++◌, true≢false, refl, sym, ap, ◌∙◌}
use Rattle.std.specs.Prelude.{All, Option, None, Some, cond}
use Rattle.std.proofs.lemmas.List.{append_assoc}
use Rattle.std.proofs.lemmas.List.Elements.{All-append, All-cons, All-head, All-nil, All-push, All-same, All-tail}
use Rattle.std.proofs.lemmas.List.Elements.{All-weaker}
use Rattle.dom_styles.specs.declared.cascade.Declared.{Declared}
use Rattle.dom_styles.specs.Keys.{is_before, is_outranked}
use Rattle.dom_styles.specs.Cascade.{Holds, IsCascaded}
use Rattle.dom_styles.proofs.KeyLemmas.{not_before_two, before_one_way}

-- ---- a declaration more

-- what holds once `d` is declared too
abbrev pub updated : {T : Type 0} → Option (Declared T) → Declared T → Option (Declared T)
updated old d = cond (is_outranked old d) old (Some d)

module _ {T : Type 0} where
  kept : (ds : List (Declared T)) (held d : Declared T) → Holds ds held → is_before d held ≡ true
      → Holds (ds ++ d ∷ []) held
  kept ds held d holds less = record {
    front = holds.front;
    rest = holds.rest ++ d ∷ [];
    split = ap (λ es. es ++ d ∷ []) holds.split ∙ append_assoc holds.front (held ∷ holds.rest) (d ∷ []);
    greatest = holds.greatest;
    last = All-push (λ e. is_before e held ≡ true) holds.rest d holds.last less;
  }

  taken_over : (ds : List (Declared T)) (held d : Declared T) → Holds ds held → is_before d held ≡ false
      → Holds (ds ++ d ∷ []) d
  taken_over ds held d holds less = record {
    front = ds;
    rest = [];
    split = refl;
    greatest = All-same NotBefore ds (holds.front ++ held ∷ holds.rest) holds.split
        (All-append NotBefore holds.front (held ∷ holds.rest)
        (All-weaker (λ e. is_before held e ≡ false) NotBefore (λ e h. not_before_two d held e less h) holds.front
        holds.greatest)
        (All-cons NotBefore held holds.rest less
        (All-weaker (λ e. is_before e held ≡ true) NotBefore
        (λ e h. not_before_two d held e less (before_one_way e held h)) holds.rest holds.last)));
    last = All-nil (λ e. is_before e d ≡ true);
  }
    where
      NotBefore : Declared T → Type 0
      NotBefore e = is_before d e ≡ false

  pub kept_on : (ds : List (Declared T)) (old : Option (Declared T)) (d : Declared T) → is_outranked old d ≡ true
      → IsCascaded ds old → IsCascaded (ds ++ d ∷ []) old
  kept_on ds None d less holds = absurd (true≢false (sym less))
  kept_on ds (Some held) d less holds = kept ds held d holds less

  pub given_way : (ds : List (Declared T)) (old : Option (Declared T)) (d : Declared T) → is_outranked old d ≡ false
      → IsCascaded ds old → IsCascaded (ds ++ d ∷ []) (Some d)
  given_way ds None d less empty = record {
    front = [];
    rest = [];
    split = ap (λ es. es ++ d ∷ []) empty;
    greatest = All-nil (λ e. is_before d e ≡ false);
    last = All-nil (λ e. is_before e d ≡ true);
  }
  given_way ds (Some held) d less holds = taken_over ds held d holds less

  pub cascades_on : (ds : List (Declared T)) (old : Option (Declared T)) (d : Declared T) → IsCascaded ds old
      → IsCascaded (ds ++ d ∷ []) (updated old d)
  cascades_on ds old d holds = on (is_outranked old d) refl
    where
      on : (less : Bool) → is_outranked old d ≡ less → IsCascaded (ds ++ d ∷ []) (cond less old (Some d))
      on true less = kept_on ds old d less holds
      on false less = given_way ds old d less holds

  -- ---- one declaration holds

  in_the_middle : (P : Declared T → Type 0) (d : Declared T) (front rest : List (Declared T))
      → All P (front ++ d ∷ rest) → P d
  in_the_middle P d [] rest all = All-head P d rest all
  in_the_middle P d (e ∷ es) rest all = in_the_middle P d es rest (All-tail P e (es ++ d ∷ rest) all)

  -- after the last of the greatest there is none of the greatest
  not_after : (d e f : Declared T) (rest fs others : List (Declared T)) → d ∷ rest ≡ f ∷ (fs ++ e ∷ others)
      → All (λ x. is_before x d ≡ true) rest → All (λ x. is_before e x ≡ false) (f ∷ fs) → ⊥
  not_after d e f rest fs others same last greatest =
      let first : d ≡ f = cc in
      let rest_is : fs ++ e ∷ others ≡ rest = cc in
      let less : is_before e d ≡ true = in_the_middle (λ x. is_before x d ≡ true) e fs others
      (All-same (λ x. is_before x d ≡ true) (fs ++ e ∷ others) rest rest_is last) in
      let not_less : is_before e f ≡ false = All-head (λ x. is_before e x ≡ false) f fs greatest in
      true≢false (sym less ∙ ap (λ x. is_before e x) first ∙ not_less)

  one_greatest : (d e : Declared T) (front rest other_front other_rest : List (Declared T))
      → front ++ d ∷ rest ≡ other_front ++ e ∷ other_rest
      → All (λ x. is_before d x ≡ false) front → All (λ x. is_before x d ≡ true) rest
      → All (λ x. is_before e x ≡ false) other_front → All (λ x. is_before x e ≡ true) other_rest → d ≡ e
  one_greatest d e [] rest [] other_rest same greatest last other_greatest other_last = cc
  one_greatest d e [] rest (g ∷ gs) other_rest same greatest last other_greatest other_last =
      absurd (not_after d e g rest gs other_rest same last other_greatest)
  one_greatest d e (f ∷ fs) rest [] other_rest same greatest last other_greatest other_last =
      absurd (not_after e d f other_rest fs rest (sym same) other_last greatest)
  one_greatest d e (f ∷ fs) rest (g ∷ gs) other_rest same greatest last other_greatest other_last =
      one_greatest d e fs rest gs other_rest (cc)
      (All-tail (λ x. is_before d x ≡ false) f fs greatest) last
      (All-tail (λ x. is_before e x ≡ false) g gs other_greatest) other_last

  not_empty : (ds front rest : List (Declared T)) (d : Declared T) → ds ≡ [] → ds ≡ front ++ d ∷ rest → ⊥
  not_empty ds [] rest d empty split = absurd (cc)
  not_empty ds (f ∷ fs) rest d empty split = absurd (cc)

  pub one_holds : (ds : List (Declared T)) (one another : Option (Declared T)) → IsCascaded ds one
      → IsCascaded ds another → one ≡ another
  one_holds ds None None h k = refl
  one_holds ds None (Some e) h k = absurd (not_empty ds k.front k.rest e h k.split)
  one_holds ds (Some d) None h k = absurd (not_empty ds h.front h.rest d k h.split)
  one_holds ds (Some d) (Some e) h k =
      ap Some
      (one_greatest d e h.front h.rest k.front k.rest (sym h.split ∙ k.split) h.greatest h.last k.greatest k.last)

  -- ---- what a call of `maybe_update` ends with

  by_itself : (old : Option (Declared T)) → (ds : List (Declared T)) × IsCascaded ds old
  by_itself None = ([], refl)
  by_itself (Some d) = (
    d ∷ [],
    record {
      front = [];
      rest = [];
      split = refl;
      greatest = All-nil (λ e. is_before d e ≡ false);
      last = All-nil (λ e. is_before e d ≡ true);
    },
  )

  pub is_updated : (old new : Option (Declared T)) (d : Declared T)
      → ((ds : List (Declared T)) → IsCascaded ds old → IsCascaded (ds ++ d ∷ []) new) → new ≡ updated old d
  is_updated old new d step =
      let alone : (ds : List (Declared T)) × IsCascaded ds old = by_itself old in
      one_holds (alone.0 ++ d ∷ []) new (updated old d) (step alone.0 alone.1) (cascades_on alone.0 old d alone.1)
