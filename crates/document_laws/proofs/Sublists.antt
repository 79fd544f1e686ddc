-- Lists of active formatting elements: those that are open, and what is left of others.
use Rattle.std.proofs.Common.{◌≡◌, ◌<◌, ◌≤◌, ◌==◌, ◌&&◌, [], ◌∷◌, if◌then◌else◌, ◌∙◌, Bool, List, None, ap, arith}
use Rattle.std.proofs.Common.{codes, false, inl, inr, refl, subst, sym, true, ℕ}
use Rattle.std.proofs.lemmas.Bool.{eq-eqb, ne_eqb}
use Rattle.std.specs.Bool.{nat_lt}
use Rattle.tree_formatting.specs.Alike.{count_alike, is_alike}
use Rattle.tree_formatting.specs.Entries.{Entry, formatted, is_listed, is_named, last_named, marker, up_to_marker}
use Rattle.tree_formatting.specs.Pushing.{without_earliest}
use Rattle.tree_forest.specs.Forest.{is_in}
use Rattle.html_lexemes.specs.declared.token.Tag.{Tag}
pub use Rattle.document_laws.specs.Parts.{AllUnder, AreOpen, IsFree, IsSub, NoLink}

pub sub_itself : (xs : List Entry) → IsSub xs xs
sub_itself [] = tt
sub_itself (x ∷ xs) = inl (refl, sub_itself xs)

pub sub_more : (xs : List Entry) (y : Entry) (ys : List Entry) → IsSub xs ys → IsSub xs (y ∷ ys)
sub_more [] y ys sub = tt
sub_more (x ∷ xs) y ys sub = inr sub

pub sub_tail : (x : Entry) (xs ys : List Entry) → IsSub (x ∷ xs) ys → IsSub xs ys
sub_tail x xs [] sub = absurd sub
sub_tail x xs (y ∷ ys) (inl h) = sub_more xs y ys h.1
sub_tail x xs (y ∷ ys) (inr h) = sub_more xs y ys (sub_tail x xs ys h)

pub sub_trans : (xs ys zs : List Entry) → IsSub xs ys → IsSub ys zs → IsSub xs zs
sub_trans [] ys zs first second = tt
sub_trans (x ∷ xs) [] zs first second = absurd first
sub_trans (x ∷ xs) (y ∷ ys) [] first second = absurd second
sub_trans (x ∷ xs) (y ∷ ys) (z ∷ zs) (inl h) (inl k) = inl (h.0 ∙ k.0, sub_trans xs ys zs h.1 k.1)
sub_trans (x ∷ xs) (y ∷ ys) (z ∷ zs) (inr h) (inl k) = inr (sub_trans (x ∷ xs) ys zs h k.1)
sub_trans (x ∷ xs) (y ∷ ys) (z ∷ zs) first (inr k) = inr (sub_trans (x ∷ xs) (y ∷ ys) zs first k)

pub sub_nothing : (xs : List Entry) → IsSub xs [] → xs ≡ []
sub_nothing [] sub = refl
sub_nothing (x ∷ xs) sub = absurd sub

pub open_more : (es : List Entry) (n : ℕ) (ns : List ℕ) → AreOpen es ns → AreOpen es (n ∷ ns)
open_more [] n ns are = tt
open_more (marker ∷ es) n ns are = absurd are
open_more (formatted m tag ∷ es) n ns are = inr are

pub sub_open : (xs ys : List Entry) (ns : List ℕ) → IsSub xs ys → AreOpen ys ns → AreOpen xs ns
sub_open [] ys ns sub are = tt
sub_open (x ∷ xs) [] ns sub are = absurd sub
sub_open (x ∷ xs) (marker ∷ ys) ns sub are = absurd are
sub_open (x ∷ xs) (formatted m tag ∷ ys) [] sub are = absurd are
sub_open (x ∷ xs) (formatted m tag ∷ ys) (n ∷ ns) (inl h) (inl k) =
    subst (λ e. AreOpen (e ∷ xs) (n ∷ ns)) (sym h.0) (inl (k.0, sub_open xs ys ns h.1 k.1))
sub_open (x ∷ xs) (formatted m tag ∷ ys) (n ∷ ns) (inr h) (inl k) =
    open_more (x ∷ xs) n ns (sub_open (x ∷ xs) ys ns h k.1)
sub_open (x ∷ xs) (formatted m tag ∷ ys) (n ∷ ns) sub (inr k) =
    open_more (x ∷ xs) n ns (sub_open (x ∷ xs) (formatted m tag ∷ ys) ns sub k)

pub sub_no_link : (xs ys : List Entry) → IsSub xs ys → NoLink ys → NoLink xs
sub_no_link [] ys sub free = tt
sub_no_link (x ∷ xs) [] sub free = absurd sub
sub_no_link (x ∷ xs) (marker ∷ ys) (inl h) free =
    subst (λ e. NoLink (e ∷ xs)) (sym h.0) (sub_no_link xs ys h.1 free)
sub_no_link (x ∷ xs) (marker ∷ ys) (inr h) free = sub_no_link (x ∷ xs) ys h free
sub_no_link (x ∷ xs) (formatted n tag ∷ ys) (inl h) free =
    subst (λ e. NoLink (e ∷ xs)) (sym h.0) (free.0, sub_no_link xs ys h.1 free.1)
sub_no_link (x ∷ xs) (formatted n tag ∷ ys) (inr h) free = sub_no_link (x ∷ xs) ys h free.1

pub sub_free : (linked : Bool) (xs ys : List Entry) → IsSub xs ys → IsFree linked ys → IsFree linked xs
sub_free true xs ys sub free = tt
sub_free false xs ys sub free = sub_no_link xs ys sub free

unnamed : (n : ℕ) (tag : Tag) (es : List Entry) → is_named (codes "a") tag ≡ false →
    last_named (codes "a") es ≡ None → last_named (codes "a") (formatted n tag ∷ es) ≡ None
unnamed n tag es e none = rw e none

pub no_link_named : (es : List Entry) → NoLink es → last_named (codes "a") es ≡ None
no_link_named [] free = refl
no_link_named (marker ∷ es) free = refl
no_link_named (formatted n tag ∷ es) free = unnamed n tag es free.0 (no_link_named es free.1)

-- numbers
pub itself : (n : ℕ) → (n == n) ≡ true
itself n = eq-eqb n n refl

pub under_more : (k j : ℕ) (ns : List ℕ) → k ≤ j → AllUnder k ns → AllUnder j ns
under_more k j [] h under = tt
under_more k j (n ∷ ns) h under = (larger n k j under.0 h, under_more k j ns h under.1) where
  larger : (n k j : ℕ) → n < k → k ≤ j → n < j
  larger n k j h i = omega (arith, h, i)

found_here : (m n : ℕ) (rest : Bool) → m ≡ n → (if m == n then true else rest) ≡ true
found_here m n rest e = ap (λ b. if b then true else rest) (eq-eqb m n e)

found_later : (b rest : Bool) → rest ≡ true → (if b then true else rest) ≡ true
found_later true rest e = refl
found_later false rest e = e

pub open_found : (m : ℕ) (tag : Tag) (es : List Entry) (ns : List ℕ) → AreOpen (formatted m tag ∷ es) ns →
    is_in m ns ≡ true
open_found m tag es [] are = absurd are
open_found m tag es (n ∷ ns) (inl h) = found_here m n (is_in m ns) h.0
open_found m tag es (n ∷ ns) (inr h) = found_later (m == n) (is_in m ns) (open_found m tag es ns h)

not_here : (m o : ℕ) → ¬ (m ≡ o) → (rest : Bool) → rest ≡ false → (if m == o then true else rest) ≡ false
not_here m o apart rest e = ap (λ b. if b then true else rest) (ne_eqb m o apart) ∙ e

below_it : (m n o : ℕ) → m ≡ n → n < o → ¬ (m ≡ o)
below_it m n o e h k = absurd (omega (arith, e, h, k))

-- an element nearer than all open ones that may be listed isn't listed
pub unlisted_above : (o : ℕ) (es : List Entry) (ns : List ℕ) → AreOpen es ns → AllUnder o ns → is_listed o es ≡ false
unlisted_above o [] ns are under = refl
unlisted_above o (marker ∷ es) ns are under = absurd are
unlisted_above o (formatted m tag ∷ es) [] are under = absurd are
unlisted_above o (formatted m tag ∷ es) (n ∷ ns) (inl h) under =
    not_here m o (below_it m n o h.0 under.0) (is_listed o es) (unlisted_above o es ns h.1 under.1)
unlisted_above o (formatted m tag ∷ es) (n ∷ ns) (inr h) under =
    unlisted_above o (formatted m tag ∷ es) ns h under.1

-- what is pushed stands first, and after it some of those that were listed
abbrev pub shortened : Tag → List Entry → List Entry
shortened tag es = if nat_lt 2 (count_alike tag (up_to_marker es)) then without_earliest tag es else es

sub_if : (b : Bool) (xs ys zs : List Entry) → IsSub xs zs → IsSub ys zs → IsSub (if b then xs else ys) zs
sub_if true xs ys zs first second = first
sub_if false xs ys zs first second = second

without_sub : (tag : Tag) (es : List Entry) → IsSub (without_earliest tag es) es
without_sub tag [] = tt
without_sub tag (marker ∷ es) = sub_itself (marker ∷ es)
without_sub tag (formatted n held ∷ es) =
    sub_if (is_alike tag (formatted n held) && (count_alike tag (up_to_marker es) == 0)) es
    (formatted n held ∷ without_earliest tag es) (formatted n held ∷ es)
    (sub_more es (formatted n held) es (sub_itself es)) (inl (refl, without_sub tag es))

pub shortened_sub : (tag : Tag) (es : List Entry) → IsSub (shortened tag es) es
shortened_sub tag es = sub_if (nat_lt 2 (count_alike tag (up_to_marker es))) (without_earliest tag es) es es
    (without_sub tag es) (sub_itself es)
