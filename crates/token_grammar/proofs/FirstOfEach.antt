-- Of the attributes of a tag the first of each name stays.
use Rattle.std.proofs.Common.{◌≡◌, ◌||◌, [], ◌∷◌, ◌++◌, ◌∙◌, ◌⊎◌, Bool, List, ap, append-nil, append_assoc, cond, false}
use Rattle.std.proofs.Common.{inl, inr, refl, subst, sym, true, ℕ}
use Rattle.std.proofs.Math.Bool.{or-false}
use Rattle.std.proofs.lemmas.Bool.{cond_both}
use Rattle.std.proofs.lemmas.List.Folds.{list_any-append}
use Rattle.std.proofs.lemmas.Slice.Eq.{bytes_eq-Decides}
use Rattle.std.specs.Str.{bytes_eq}
use Rattle.html_lexemes.specs.declared.names.Attribute.{Attribute}
use Rattle.token_grammar.specs.TagLaws.{AreFirstOfEach, IsFirstOfName, IsPartOf, none_is, stays, goes}
use Rattle.token_grammar.specs.Tags.{first_of_each, has_name}

-- ---- lists with one member more

part_left : {T : Type 0} (part whole : List T) (x : T) → IsPartOf part whole → IsPartOf part (whole ++ x ∷ [])
part_left _ _ x none_is = goes x [] [] none_is
part_left _ _ x (stays y part whole h) = stays y part (whole ++ x ∷ []) (part_left part whole x h)
part_left _ _ x (goes y part whole h) = goes y part (whole ++ x ∷ []) (part_left part whole x h)

part_kept : {T : Type 0} (part whole : List T) (x : T) → IsPartOf part whole →
    IsPartOf (part ++ x ∷ []) (whole ++ x ∷ [])
part_kept _ _ x none_is = stays x [] [] none_is
part_kept _ _ x (stays y part whole h) = stays y (part ++ x ∷ []) (whole ++ x ∷ []) (part_kept part whole x h)
part_kept _ _ x (goes y part whole h) = goes y (part ++ x ∷ []) (whole ++ x ∷ []) (part_kept part whole x h)

-- a member of a list with one more is that one, or stands before it
abbrev pub IsLast : {T : Type 0} → List T → T → List T → T → List T → Type 0
IsLast xs a front x back = (xs ≡ front) × (a ≡ x)

pub record IsBefore {T : Type 0} (xs : List T) (a : T) (front : List T) (x : T) (back : List T) : Type 0 where
  pub others : List T
  pub whole : xs ≡ front ++ x ∷ others

abbrev pub Stands : {T : Type 0} → List T → T → List T → T → List T → Type 0
Stands xs a front x back = IsLast xs a front x back ⊎ IsBefore xs a front x back

after_one : {T : Type 0} (xs : List T) (a y : T) (front : List T) (x : T) (back : List T) → Stands xs a front x back →
    Stands (y ∷ xs) a (y ∷ front) x back
after_one xs a y front x back (inl h) = inl (ap (λ l. y ∷ l) h.0, h.1)
after_one xs a y front x back (inr h) = inr (record { others = h.others; whole = ap (λ l. y ∷ l) h.whole })

pub where_stands : {T : Type 0} (xs : List T) (a : T) (front : List T) (x : T) (back : List T) →
    xs ++ a ∷ [] ≡ front ++ x ∷ back → Stands xs a front x back
where_stands [] a [] x back e = let same : a ≡ x = cc in inl (refl, same)
where_stands [] a (f ∷ []) x back e = cc
where_stands [] a (f ∷ g ∷ front) x back e = cc
where_stands
    (y ∷ xs) a [] x back e = let same : y ≡ x = cc in inr (record { others = xs; whole = ap (λ z. z ∷ xs) same })
where_stands (y ∷ xs) a (f ∷ front) x back e =
    let same : y ≡ f = cc in
    let tails : xs ++ a ∷ [] ≡ front ++ x ∷ back = cc in
    subst (λ z. Stands (y ∷ xs) a (z ∷ front) x back) same
    (after_one xs a y front x back (where_stands xs a front x back tails))

-- ---- names

pub has_name-push : (name : List ℕ) (xs : List Attribute) (a : Attribute) → has_name name (xs ++ a ∷ [])
    ≡ (has_name name xs || bytes_eq a.name.local name)
has_name-push name xs a =
    list_any-append (λ (b : Attribute). bytes_eq b.name.local name) xs (a ∷ []) ∙
    ap (λ b. has_name name xs || b) (or-false (bytes_eq a.name.local name))

-- where a name stands already, another attribute with it changes nothing
pub emitted_already : (name own : List ℕ) (kept : List Attribute) (b : Bool) → bytes_eq own name ≡ b →
    has_name own kept ≡ true → has_name name kept ≡ (has_name name kept || b)
emitted_already name own kept true e h =
    let same : own ≡ name = (bytes_eq-Decides own name).0 e in
    let t : has_name name kept ≡ true = subst (λ l. has_name l kept ≡ true) same h in
    t ∙ ap (λ c. c || true) (sym t)
emitted_already name own kept false e h = sym (or-false (has_name name kept))

later : (written others : List Attribute) (a x : Attribute) → IsFirstOfName x others written →
    IsFirstOfName x others (written ++ a ∷ [])
later written others a x h = record {
  front = h.front;
  back = h.back ++ a ∷ [];
  stands = ap (λ l. l ++ a ∷ []) h.stands ∙ append_assoc h.front (x ∷ h.back) (a ∷ []);
  none_earlier = h.none_earlier;
  trailing = h.trailing;
}

module _ (written kept : List Attribute) (a : Attribute) (h : AreFirstOfEach written kept) where
  -- its name came before
  left_out : has_name a.name.local kept ≡ true → AreFirstOfEach (written ++ a ∷ []) kept
  left_out e = record {
    in_order = part_left kept written a h.in_order;
    once = h.once;
    first = λ front back x is. later written front a x (h.first front back x is);
    none_lost = λ name.
        emitted_already name a.name.local kept (bytes_eq a.name.local name) refl e ∙
        ap (λ b. b || bytes_eq a.name.local name) (h.none_lost name)
        ∙ sym (has_name-push name written a);
  }

  module _ (e : has_name a.name.local kept ≡ false) where
    once_more : (front back : List Attribute) (x : Attribute) → Stands kept a front x back →
        has_name x.name.local front ≡ false
    once_more front back x (inl p) =
        subst (λ (l : List Attribute). has_name x.name.local l ≡ false) p.0
        (subst (λ (y : Attribute). has_name y.name.local kept ≡ false) p.1 e)
    once_more front back x (inr p) = h.once front p.others x p.whole

    newest : IsFirstOfName a kept (written ++ a ∷ [])
    newest = record {
      front = written;
      back = [];
      stands = refl;
      none_earlier = sym (h.none_lost a.name.local) ∙ e;
      trailing = h.in_order;
    }

    first_more : (front back : List Attribute) (x : Attribute) → Stands kept a front x back →
        IsFirstOfName x front (written ++ a ∷ [])
    first_more front back x (inl p) =
        subst (λ (l : List Attribute). IsFirstOfName x l (written ++ a ∷ [])) p.0
        (subst (λ (y : Attribute). IsFirstOfName y kept (written ++ a ∷ [])) p.1 newest)
    first_more front back x (inr p) = later written front a x (h.first front p.others x p.whole)

    taken : AreFirstOfEach (written ++ a ∷ []) (kept ++ a ∷ [])
    taken = record {
      in_order = part_kept kept written a h.in_order;
      once = λ front back x is. once_more front back x (where_stands kept a front x back is);
      first = λ front back x is. first_more front back x (where_stands kept a front x back is);
      none_lost = λ name.
          has_name-push name kept a ∙ ap (λ b. b || bytes_eq a.name.local name) (h.none_lost name) ∙
          sym (has_name-push name written a);
    }

  one_more : AreFirstOfEach (written ++ a ∷ []) (cond (has_name a.name.local kept) kept (kept ++ a ∷ []))
  one_more =
      cond_both (has_name a.name.local kept) kept (kept ++ a ∷ []) (AreFirstOfEach (written ++ a ∷ [])) left_out taken

read_on : (written kept others : List Attribute) → AreFirstOfEach written kept →
    AreFirstOfEach (written ++ others) (first_of_each kept others)
read_on written kept [] h = subst (λ (l : List Attribute). AreFirstOfEach l kept) (sym (append-nil written)) h
read_on written kept (a ∷ others) h =
    let more : List Attribute = cond (has_name a.name.local kept) kept (kept ++ a ∷ []) in
    subst (λ (l : List Attribute). AreFirstOfEach l (first_of_each more others)) (append_assoc written (a ∷ []) others)
    (read_on (written ++ a ∷ []) more others (one_more written kept a h))

nothing_read : AreFirstOfEach [] []
nothing_read = record { in_order = none_is; once = no_member; first = no_first; none_lost = λ name. refl } where
  no_member : (front back : List Attribute) (x : Attribute) → [] ≡ front ++ x ∷ back →
      has_name x.name.local front ≡ false
  no_member [] back x e = cc
  no_member (f ∷ front) back x e = cc

  no_first : (front back : List Attribute) (x : Attribute) → [] ≡ front ++ x ∷ back → IsFirstOfName x front []
  no_first [] back x e = absurd (let k : [] ≡ x ∷ back = e in cc)
  no_first (f ∷ front) back x e = absurd (let k : [] ≡ f ∷ (front ++ x ∷ back) = e in cc)

pub first_of_each_read : (written : List Attribute) → AreFirstOfEach written (first_of_each [] written)
first_of_each_read written = read_on [] [] written nothing_read
