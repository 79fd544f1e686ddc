-- The first of each name are one list.
use Rattle.std.proofs.Common.{◌≡◌, ◌||◌, [], ◌∷◌, ◌++◌, ◌∙◌, ◌⊎◌, ⊎_elim, Bool, List, ap, append_assoc, cond, false}
use Rattle.std.proofs.Common.{inl, inr, refl, reverse, subst, sym, true, ℕ}
use Rattle.std.proofs.Math.Bool.{or-false}
use Rattle.std.proofs.lemmas.Bool.{both_ways, cond-false, cond-true, false≢true, or_cases, or_left, or_right}
use Rattle.std.proofs.lemmas.List.{reverse-append, reverse-reverse}
use Rattle.std.proofs.lemmas.List.Folds.{list_any-append}
use Rattle.std.proofs.lemmas.Slice.Eq.{bytes_eq-Decides}
use Rattle.std.specs.Str.{bytes_eq}
use Rattle.html_lexemes.specs.declared.names.Attribute.{Attribute}
use Rattle.token_grammar.specs.TagLaws.{AreFirstOfEach, IsFirstOfName, IsPartOf, none_is, stays, goes}
use Rattle.token_grammar.specs.Tags.{first_of_each, has_name}
use Rattle.token_grammar.proofs.FirstOfEach.{IsBefore, IsLast, emitted_already, first_of_each_read, has_name-push}
use Rattle.token_grammar.proofs.FirstOfEach.{where_stands}

-- ---- names

record IsNamedIn (name : List ℕ) (xs : List Attribute) : Type 0 where
  front : List Attribute
  x : Attribute
  back : List Attribute
  whole : xs ≡ front ++ x ∷ back
  same : x.name.local ≡ name

after_another : (name : List ℕ) (a : Attribute) (xs : List Attribute) → IsNamedIn name xs → IsNamedIn name (a ∷ xs)
after_another name a xs h =
    record { front = a ∷ h.front; x = h.x; back = h.back; whole = ap (λ l. a ∷ l) h.whole; same = h.same }

at_front : (name : List ℕ) (a : Attribute) (xs : List Attribute) → bytes_eq a.name.local name ≡ true →
    IsNamedIn name (a ∷ xs)
at_front name a xs e =
    record { front = []; x = a; back = xs; whole = refl; same = (bytes_eq-Decides a.name.local name).0 e }

named_in : (name : List ℕ) (xs : List Attribute) → has_name name xs ≡ true → IsNamedIn name xs
named_in name [] e = absurd (false≢true e)
named_in name (a ∷ xs) e =
    ⊎_elim (λ t. at_front name a xs t) (λ t. after_another name a xs (named_in name xs t))
    (or_cases (bytes_eq a.name.local name) (has_name name xs) e)

stands_named : (name : List ℕ) (front : List Attribute) (x : Attribute) (back : List Attribute) → x.name.local ≡ name →
    has_name name (front ++ x ∷ back) ≡ true
stands_named name front x back e =
    list_any-append (λ (b : Attribute). bytes_eq b.name.local name) front (x ∷ back)
    ∙ or_right (has_name name front) (has_name name (x ∷ back))
    (or_left (bytes_eq x.name.local name) (has_name name back) ((bytes_eq-Decides x.name.local name).1 e))

front_named : (name : List ℕ) (front back : List Attribute) → has_name name front ≡ true →
    has_name name (front ++ back) ≡ true
front_named name front back e =
    list_any-append (λ (b : Attribute). bytes_eq b.name.local name) front back ∙
    or_left (has_name name front) (has_name name back) e

part_named : (name : List ℕ) (part whole : List Attribute) → IsPartOf part whole → has_name name part ≡ true →
    has_name name whole ≡ true
part_named name _ _ none_is e = e
part_named name _ _ (stays x part whole h) e =
    let b : Bool = bytes_eq x.name.local name in
    ⊎_elim (λ t. or_left b (has_name name whole) t)
    (λ t. or_right b (has_name name whole) (part_named name part whole h t)) (or_cases b (has_name name part) e)
part_named name _ _ (goes x part whole h) e =
    or_right (bytes_eq x.name.local name) (has_name name whole) (part_named name part whole h e)

-- ---- parts

nothing_of : (xs : List Attribute) → IsPartOf [] xs
nothing_of [] = none_is
nothing_of (x ∷ xs) = goes x [] xs (nothing_of xs)

part_up_to : (part front : List Attribute) (x : Attribute) (back : List Attribute) → IsPartOf part front →
    IsPartOf (part ++ x ∷ []) (front ++ x ∷ back)
part_up_to _ _ x back none_is = stays x [] back (nothing_of back)
part_up_to _ _ x back (stays y part front h) =
    stays y (part ++ x ∷ []) (front ++ x ∷ back) (part_up_to part front x back h)
part_up_to _ _ x back (goes y part front h) =
    goes y (part ++ x ∷ []) (front ++ x ∷ back) (part_up_to part front x back h)

part_of_nothing : (xs : List Attribute) → IsPartOf xs [] → xs ≡ []
part_of_nothing _ none_is = refl

record HasLast (xs : List Attribute) : Type 0 where
  front : List Attribute
  last : Attribute
  whole : xs ≡ front ++ last ∷ []

last_after : (x : Attribute) (xs : List Attribute) → (xs ≡ []) ⊎ HasLast xs → HasLast (x ∷ xs)
last_after x xs (inl e) = record { front = []; last = x; whole = ap (λ l. x ∷ l) e }
last_after x xs (inr h) = record { front = x ∷ h.front; last = h.last; whole = ap (λ l. x ∷ l) h.whole }

last_of : (xs : List Attribute) → (xs ≡ []) ⊎ HasLast xs
last_of [] = inl refl
last_of (x ∷ xs) = inr (last_after x xs (last_of xs))

abbrev AreFirsts : List Attribute → List Attribute → Type 0
AreFirsts written kept = (front back : List Attribute) (x : Attribute) → kept ≡ front ++ x ∷ back →
    IsFirstOfName x front written

in_their_order : (written kept : List Attribute) → AreFirsts written kept → IsPartOf kept written
in_their_order written kept first = at (last_of kept) where
  at : (kept ≡ []) ⊎ HasLast kept → IsPartOf kept written
  at (inl e) = subst (λ (l : List Attribute). IsPartOf l written) (sym e) (nothing_of written)
  at (inr h) =
      let p = first h.front [] h.last h.whole in
      subst (λ (l : List Attribute). IsPartOf l written) (sym h.whole)
      (subst (IsPartOf (h.front ++ h.last ∷ [])) (sym p.stands) (part_up_to h.front p.front h.last p.back p.trailing))

-- ---- a list with one more

earlier : (w : List Attribute) (a x : Attribute) (others : List Attribute) (p : IsFirstOfName x others (w ++ a ∷ [])) →
    (w ≡ p.front → a ≡ x → ⊥) → IsFirstOfName x others w
earlier w a x others p other = at (where_stands w a p.front x p.back p.stands) where
  at : IsLast w a p.front x p.back ⊎ IsBefore w a p.front x p.back → IsFirstOfName x others w
  at (inl s) = absurd (other s.0 s.1)
  at (inr s) =
      record { front = p.front; back = s.others; stands = s.whole; none_earlier = p.none_earlier; trailing = p.trailing }

record EndsWith (w kept : List Attribute) (a : Attribute) : Type 0 where
  front : List Attribute
  whole : kept ≡ front ++ a ∷ []
  are : AreFirstOfEach w front

module _ (w kept : List Attribute) (a : Attribute) (h : AreFirstOfEach (w ++ a ∷ []) kept) where
  -- its name came before
  same_kept : has_name a.name.local w ≡ true → AreFirstOfEach w kept
  same_kept before = record { in_order = in_their_order w kept firsts; once = h.once; first = firsts; none_lost = names } where
    firsts : AreFirsts w kept
    firsts front back x e =
        let p = h.first front back x e in
        earlier w a x front p (λ f g.
        both_ways (has_name a.name.local w) (ap (λ (y : Attribute). has_name y.name.local w) g ∙
        ap (has_name x.name.local) f ∙ p.none_earlier) before)

    names : (name : List ℕ) → has_name name kept ≡ has_name name w
    names name =
        h.none_lost name ∙ has_name-push name w a ∙
        sym (emitted_already name a.name.local w (bytes_eq a.name.local name) refl before)

  module _ (new : has_name a.name.local w ≡ false) where
    -- it stands last
    no_more : (front back : List Attribute) → kept ≡ front ++ a ∷ back → back ≡ []
    no_more front [] e = refl
    no_more front (z ∷ back) e =
        let p = h.first (front ++ a ∷ []) back z (e ∙ sym (append_assoc front (a ∷ []) (z ∷ back))) in
        let there : has_name a.name.local p.front ≡ true =
        part_named a.name.local (front ++ a ∷ []) p.front p.trailing
        (stands_named a.name.local front a [] refl) in
        absurd (at p there (where_stands w a p.front z p.back p.stands)) where
          at : (p : IsFirstOfName z (front ++ a ∷ []) (w ++ a ∷ [])) → has_name a.name.local p.front ≡ true →
              IsLast w a p.front z p.back ⊎ IsBefore w a p.front z p.back → ⊥
          at p there (inl s) = both_ways (has_name a.name.local w) new (ap (has_name a.name.local) s.0 ∙ there)
          at p there (inr s) =
              both_ways (has_name a.name.local w) new
              (ap (has_name a.name.local) s.whole ∙ front_named a.name.local p.front (z ∷ s.others) there)

    module _ (front : List Attribute) (whole : kept ≡ front ++ a ∷ []) (part : IsPartOf front w) where
      on : (f b : List Attribute) (y : Attribute) → front ≡ f ++ y ∷ b → kept ≡ f ++ y ∷ (b ++ a ∷ [])
      on f b y e = whole ∙ ap (λ l. l ++ a ∷ []) e ∙ append_assoc f (y ∷ b) (a ∷ [])

      not_before : has_name a.name.local front ≡ false
      not_before = h.once front [] a whole

      names_left : (name : List ℕ) (b : Bool) → bytes_eq a.name.local name ≡ b → has_name name front ≡ has_name name w
      names_left name true e =
          let same : a.name.local ≡ name = (bytes_eq-Decides a.name.local name).0 e in
          ap (λ n. has_name n front) (sym same) ∙ not_before ∙ sym new ∙ ap (λ n. has_name n w) same
      names_left name false e =
          let one : has_name name kept ≡ has_name name front =
          ap (has_name name) whole ∙ has_name-push name front a ∙ ap (λ b. has_name name front || b) e ∙
          or-false (has_name name front) in
          let other : has_name name (w ++ a ∷ []) ≡ has_name name w =
          has_name-push name w a ∙ ap (λ b. has_name name w || b) e ∙ or-false (has_name name w) in
          sym one ∙ h.none_lost name ∙ other

      others_are : AreFirstOfEach w front
      others_are = record {
        in_order = part;
        once = λ f b y e. h.once f (b ++ a ∷ []) y (on f b y e);
        first = λ f b y e.
            earlier w a y f (h.first f (b ++ a ∷ []) y (on f b y e)) (λ k g.
            both_ways (has_name a.name.local front) not_before
            (ap (has_name a.name.local) e ∙ stands_named a.name.local f y b
            (ap (λ (z : Attribute). z.name.local) (sym g))));
        none_lost = λ name. names_left name (bytes_eq a.name.local name) refl;
      }

    ends_with : EndsWith w kept a
    ends_with =
        let n = named_in a.name.local kept (h.none_lost a.name.local ∙ stands_named a.name.local w a [] refl) in
        let p = h.first n.front n.back n.x n.whole in
        at n p (where_stands w a p.front n.x p.back p.stands) where
          at : (n : IsNamedIn a.name.local kept) (p : IsFirstOfName n.x n.front (w ++ a ∷ [])) →
              IsLast w a p.front n.x p.back ⊎ IsBefore w a p.front n.x p.back → EndsWith w kept a
          at n p (inl s) =
              let stands : kept ≡ n.front ++ a ∷ n.back = n.whole ∙ ap (λ y. n.front ++ y ∷ n.back) (sym s.1) in
              let whole : kept ≡ n.front ++ a ∷ [] =
              stands ∙ ap (λ l. n.front ++ a ∷ l) (no_more n.front n.back stands) in
              record {
                front = n.front;
                whole = whole;
                are = others_are n.front whole (subst (IsPartOf n.front) (sym s.0) p.trailing);
              }
          at n p (inr s) =
              absurd (both_ways (has_name a.name.local w) new
              (ap (has_name a.name.local) s.whole ∙ stands_named a.name.local p.front n.x s.others n.same))

-- ---- by the last of what is written

first_of_each-append : (seen xs ys : List Attribute) → first_of_each seen (xs ++ ys)
    ≡ first_of_each (first_of_each seen xs) ys
first_of_each-append seen [] ys = refl
first_of_each-append seen (x ∷ xs) ys =
    first_of_each-append (cond (has_name x.name.local seen) seen (seen ++ x ∷ [])) xs ys

abbrev IsOnly : List Attribute → Type 0
IsOnly written = (kept : List Attribute) → AreFirstOfEach written kept → kept ≡ first_of_each [] written

only_one_more : (w : List Attribute) (a : Attribute) → IsOnly w → IsOnly (w ++ a ∷ [])
only_one_more w a only kept h = at (has_name a.name.local w) refl where
  there : has_name a.name.local (first_of_each [] w) ≡ has_name a.name.local w
  there = (first_of_each_read w).none_lost a.name.local

  step : first_of_each [] (w ++ a ∷ []) ≡ cond (has_name a.name.local (first_of_each [] w)) (first_of_each [] w)
      ((first_of_each [] w) ++ a ∷ [])
  step = first_of_each-append [] w (a ∷ [])

  at : (b : Bool) → has_name a.name.local w ≡ b → kept ≡ first_of_each [] (w ++ a ∷ [])
  at true e =
      only kept (same_kept w kept a h e) ∙
      sym (step ∙ cond-true (has_name a.name.local (first_of_each [] w)) (first_of_each [] w)
      ((first_of_each [] w) ++ a ∷ []) (there ∙ e))
  at false e =
      let k = ends_with w kept a h e in
      k.whole ∙ ap (λ l. l ++ a ∷ []) (only k.front k.are) ∙
      sym (step ∙ cond-false (has_name a.name.local (first_of_each [] w)) (first_of_each [] w)
      ((first_of_each [] w) ++ a ∷ []) (there ∙ e))

only_reversed : (r : List Attribute) → IsOnly (reverse r)
only_reversed [] = λ kept h. part_of_nothing kept h.in_order
only_reversed (a ∷ r) = subst IsOnly (sym (reverse-append (a ∷ []) r)) (only_one_more (reverse r) a (only_reversed r))

pub first_of_each_only : (written : List Attribute) → IsOnly written
first_of_each_only written = subst IsOnly (reverse-reverse written) (only_reversed (reverse written))
