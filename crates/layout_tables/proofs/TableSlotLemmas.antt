-- Renderers that stand in the slots of a row.
use Rattle.std.proofs.Common.{◌≡◌, ◌+◌, ◌<◌, ◌≤◌, [], ◌∷◌, ◌++◌, ◌∙◌, Bool, List, ap, append-nil, append_assoc, arith}
use Rattle.std.proofs.Common.{cond, drop, false, filter, get_or, length, map, refl, suc, sym, take, true, ℕ}
use Rattle.std.proofs.lemmas.List.{drop_all, drop_more, map-append}
use Rattle.std.proofs.lemmas.List.Sums.{prefix_len-drop_all, prefix_len-drop_no, prefix_len-drop_yes}
use Rattle.std.specs.List.{prefix_len}
use Rattle.block_renderer.specs.Seen.{sub_of}
use Rattle.block_renderer.specs.declared.sub_renderer.SubRenderer.{SubRenderer}
use Rattle.layout_state.specs.Seen.{made_of}
use Rattle.block_trait.specs.Renderers.{Sub}

pub made_more : {D T H A : Type 0} (seen : T → A) (held : D → H) (old new : List (SubRenderer D T × ℕ))
    (part : SubRenderer D T) (n : ℕ) (s : Sub H A) → new ≡ old ++ (part, n) ∷ [] → sub_of seen held part ≡ s
    → made_of seen held new ≡ made_of seen held old ++ (s, n) ∷ []
made_more {D} {T} {H} {A} seen held old new part n s e f =
    ap (λ (v : List (SubRenderer D T × ℕ)). made_of seen held v) e
    ∙ (map-append (λ (c : SubRenderer D T × ℕ). (sub_of seen held c.0, c.1)) old ((part, n) ∷ [])
    ∙ ap (λ (x : Sub H A). made_of seen held old ++ (x, n) ∷ []) f)

-- one slot more of those that are left
pub filled_more : {X Y : Type 0} (f : X → Y) (made one whole : List Y) (slots : List X) (at : ℕ) (d : X)
    → at < length slots → one ≡ made ++ map f (get_or slots at d ∷ []) → made ++ map f (drop at slots) ≡ whole
    → one ++ map f (drop (at + 1) slots) ≡ whole
filled_more f made one whole slots at d l e h =
    ap (λ v. v ++ map f (drop (at + 1) slots)) e
    ∙ (append_assoc made (f (get_or slots at d) ∷ []) (map f (drop (at + 1) slots))
    ∙ (ap (λ v. made ++ map f v) (sym (drop_more slots at d l)) ∙ h))

pub filled_all : {X Y : Type 0} (f : X → Y) (made whole : List Y) (slots : List X) (at : ℕ) → length slots ≤ at
    → made ++ map f (drop at slots) ≡ whole → made ≡ whole
filled_all f made whole slots at l h =
    sym (append-nil made) ∙ (ap (λ v. made ++ map f v) (sym (drop_all at slots l)) ∙ h)

pub slot_filled : {S X Y : Type 0} (F : S → X → Y) (s t : S) (x : X) (made one whole : List Y) (slots : List X)
    (at : ℕ) → x ≡ get_or slots at x → at < length slots → s ≡ t → one ≡ made ++ map (F s) (x ∷ [])
    → made ++ map (F t) (drop at slots) ≡ whole → one ++ map (F t) (drop (at + 1) slots) ≡ whole
slot_filled F s t x made one whole slots at is l same e h =
    filled_more (F t) made one whole slots at x l
    (e ∙ (ap (λ u. made ++ map (F u) (x ∷ [])) same ∙ ap (λ y. made ++ map (F t) (y ∷ [])) is)) h

-- ---- the slots that are left of a row, of which those without a column are passed over

kept_apart : {X : Type 0} (p : X → Bool) (x : X) (xs : List X)
    → filter p (x ∷ xs) ≡ filter p (x ∷ []) ++ filter p xs
kept_apart p x xs = by_test (p x)
  where
    by_test : (b : Bool) → cond b (x ∷ filter p xs) (filter p xs) ≡ cond b (x ∷ []) [] ++ filter p xs
    by_test true = refl
    by_test false = refl

-- one slot more of those that are left, where it has a column
pub filled_kept : {S X Y : Type 0} (F : S → X → Y) (p : X → Bool) (s t : S) (x : X) (made one whole : List Y)
    (slots : List X) (at : ℕ) → x ≡ get_or slots at x → at < length slots → s ≡ t
    → one ≡ made ++ map (F s) (filter p (x ∷ [])) → made ++ map (F t) (filter p (drop at slots)) ≡ whole
    → one ++ map (F t) (filter p (drop (at + 1) slots)) ≡ whole
filled_kept F p s t x made one whole slots at is l same e h =
    let rest = filter p (drop (at + 1) slots) in
    let here = filter p (x ∷ []) in
    ap (λ v. v ++ map (F t) rest) (e ∙ ap (λ u. made ++ map (F u) here) same)
    ∙ (append_assoc made (map (F t) here) (map (F t) rest)
    ∙ (ap (λ v. made ++ v) (sym (map-append (F t) here rest))
    ∙ (ap (λ v. made ++ map (F t) v) (sym (ap (filter p) (drop_more slots at x l
    ∙ ap (λ y. y ∷ drop (at + 1) slots) (sym is)) ∙ kept_apart p x (drop (at + 1) slots))) ∙ h)))

pub kept_filled : {X Y : Type 0} (f : X → Y) (p : X → Bool) (x : X) (made : List Y) (one : List Y) → p x ≡ true
    → one ≡ made ++ map f (x ∷ []) → one ≡ made ++ map f (filter p (x ∷ []))
kept_filled f p x made one keeps h = h ∙ ap (λ b. made ++ map f (cond b (x ∷ []) [])) (sym keeps)

pub none_filled : {X Y : Type 0} (f : X → Y) (p : X → Bool) (x : X) (made : List Y) → p x ≡ false
    → made ≡ made ++ map f (filter p (x ∷ []))
none_filled f p x made passes = sym (append-nil made) ∙ ap (λ b. made ++ map f (cond b (x ∷ []) [])) (sym passes)

pub filled_end : {X Y : Type 0} (f : X → Y) (p : X → Bool) (made whole : List Y) (slots : List X) (at : ℕ)
    → length slots ≤ at → made ++ map f (filter p (drop at slots)) ≡ whole → made ≡ whole
filled_end f p made whole slots at l h =
    sym (append-nil made) ∙ (ap (λ v. made ++ map f (filter p v)) (sym (drop_all at slots l)) ∙ h)

-- ---- the slots before a cell

one_first : (n : ℕ) → 1 + n ≡ suc n
one_first n = omega arith

pub empties_more : {X : Type 0} (p : X → Bool) (slots : List X) (at : ℕ) (x : X) → x ≡ get_or slots at x
    → at < length slots → p x ≡ true → take (prefix_len p (drop at slots)) (drop at slots)
    ≡ x ∷ take (prefix_len p (drop (at + 1) slots)) (drop (at + 1) slots)
empties_more p slots at x is l h =
    let rest = drop (at + 1) slots in
    ap (λ (n : ℕ). take n (drop at slots)) (prefix_len-drop_yes p slots at x l (ap p (sym is) ∙ h)
    ∙ one_first (prefix_len p rest))
    ∙ (ap (λ v. take (suc (prefix_len p rest)) v) (drop_more slots at x l)
    ∙ ap (λ y. y ∷ take (prefix_len p rest) rest) (sym is))

pub cell_more : {X : Type 0} (p : X → Bool) (slots : List X) (at : ℕ) (x : X) → x ≡ get_or slots at x
    → at < length slots → p x ≡ true → drop (prefix_len p (drop at slots)) (drop at slots)
    ≡ drop (prefix_len p (drop (at + 1) slots)) (drop (at + 1) slots)
cell_more p slots at x is l h =
    let rest = drop (at + 1) slots in
    ap (λ (n : ℕ). drop n (drop at slots)) (prefix_len-drop_yes p slots at x l (ap p (sym is) ∙ h)
    ∙ one_first (prefix_len p rest))
    ∙ ap (λ v. drop (suc (prefix_len p rest)) v) (drop_more slots at x l)

pub no_empties_at : {X : Type 0} (p : X → Bool) (slots : List X) (at : ℕ) (x : X) → x ≡ get_or slots at x
    → at < length slots → p x ≡ false → take (prefix_len p (drop at slots)) (drop at slots) ≡ []
no_empties_at p slots at x is l h =
    ap (λ (n : ℕ). take n (drop at slots)) (prefix_len-drop_no p slots at x l (ap p (sym is) ∙ h))

pub no_empties_end : {X : Type 0} (p : X → Bool) (slots : List X) (at : ℕ) → length slots ≤ at
    → take (prefix_len p (drop at slots)) (drop at slots) ≡ []
no_empties_end p slots at l = ap (λ (n : ℕ). take n (drop at slots)) (prefix_len-drop_all p slots at l)

-- one slot more of those before a cell
pub empty_filled : {S X Y : Type 0} (F : S → X → Y) (p : X → Bool) (s t : S) (x : X) (made one whole : List Y)
    (slots : List X) (at : ℕ) → x ≡ get_or slots at x → at < length slots → p x ≡ true → s ≡ t
    → one ≡ made ++ map (F s) (x ∷ [])
    → made ++ map (F t) (take (prefix_len p (drop at slots)) (drop at slots)) ≡ whole
    → one ++ map (F t) (take (prefix_len p (drop (at + 1) slots)) (drop (at + 1) slots)) ≡ whole
empty_filled F p s t x made one whole slots at is l empty same e h =
    let rest = take (prefix_len p (drop (at + 1) slots)) (drop (at + 1) slots) in
    ap (λ v. v ++ map (F t) rest) (e ∙ ap (λ u. made ++ map (F u) (x ∷ [])) same)
    ∙ (append_assoc made (F t x ∷ []) (map (F t) rest)
    ∙ (ap (λ v. made ++ map (F t) v) (sym (empties_more p slots at x is l empty)) ∙ h))

pub made_whole : {X Y : Type 0} (f : X → Y) (made whole : List Y) (rest : List X) → rest ≡ []
    → made ++ map f rest ≡ whole → made ≡ whole
made_whole f made whole rest none h = sym (append-nil made) ∙ (ap (λ v. made ++ map f v) (sym none) ∙ h)
