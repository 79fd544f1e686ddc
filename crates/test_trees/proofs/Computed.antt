-- The conditions of the changes of a forest, computed on one that is written down.
use Rattle.std.proofs.Common.{◌≡◌, ◌<◌, ◌⊎◌, ◌∙◌, ◌==◌, if◌then◌else◌, Bool, List, None, Option, Some, ap, arith}
use Rattle.std.proofs.Common.{eq-eqb, false, inl, inr, ltb, ltb-true, refl, suc, true, zero, ℕ}
use Rattle.std.proofs.lemmas.Bool.{cases_eq}
use Rattle.std.specs.Prelude.{codes}
use Rattle.std.specs.Str.{chars}
use Rattle.tree_forest.specs.Conditions.{CanMove, CanPut, CanReparent}
use Rattle.tree_forest.specs.Forest.{Forest, Kind, children_at, comment, contents_of, doctype, document, element}
use Rattle.tree_forest.specs.Forest.{instruction, is_in, kind_at, nodes, text}
use Rattle.tree_forest.specs.Orders.{Above, AtOrAbove, HasNoParent, IsIn, IsParent, child, further, of_child}
use Rattle.tree_forest.specs.Orders.{of_contents}
use Rattle.tree_forest.specs.Places.{before, below, node, words}
use Rattle.tree_forest.proofs.LawLists.{decide_in, is_in_false, is_in_true}
use Rattle.tree_forest.proofs.Nodes.{holds_parent}

-- a test of all numbers below another
abbrev pub for_all : ℕ → (ℕ → Bool) → Bool
for_all zero g = true
for_all (suc n) g = if g n then for_all n g else false

abbrev pub is_one : ℕ → Option ℕ → Bool
is_one n None = false
is_one n (Some m) = n == m

abbrev pub is_parent : ℕ → ℕ → Forest → Bool
is_parent p n f = if is_in n (children_at p f) then true else is_one n (contents_of p f)

abbrev pub is_free : ℕ → Forest → Bool
is_free n f = for_all (nodes f) (λ p. if is_parent p n f then false else true)

abbrev pub is_child_kind : Kind → Bool
is_child_kind document = false
is_child_kind (doctype name public system) = true
is_child_kind (text cs) = true
is_child_kind (comment cs) = true
is_child_kind (instruction target cs) = true
is_child_kind (element e) = true

-- not at or above, as far as so many steps go
abbrev pub is_apart : ℕ → ℕ → ℕ → Forest → Bool
is_apart zero n x f = false
is_apart (suc k) n x f =
    if n == x then false else for_all (nodes f) (λ p. if is_parent p x f then is_apart k n p f else true)

abbrev pub may_move : ℕ → ℕ → Forest → Bool
may_move x n f = if ltb n (nodes f) then (if is_free n f then
    (if is_child_kind (kind_at n f) then is_apart (nodes f) n x f else false) else false) else false

abbrev pub may_reparent : ℕ → ℕ → Forest → Bool
may_reparent old new f = if ltb old (nodes f) then (if ltb new (nodes f) then is_apart (nodes f) old new f
    else false) else false

-- what tests say
first_so : (a b : Bool) → (if a then b else false) ≡ true → a ≡ true
first_so true b e = refl
first_so false b e = absurd (cc)

second_so : (a b : Bool) → (if a then b else false) ≡ true → b ≡ true
second_so true b e = e
second_so false b e = absurd (cc)

not_so : (b : Bool) → (if b then false else true) ≡ true → b ≡ true → ⊥
not_so true e h = absurd (cc)
not_so false e h = absurd (cc)

then_so : (b c : Bool) → (if b then c else true) ≡ true → b ≡ true → c ≡ true
then_so true c e h = e
then_so false c e h = absurd (cc)

neither_so : (b c : Bool) → (if b then false else c) ≡ true → b ≡ true → ⊥
neither_so true c e h = absurd (cc)
neither_so false c e h = absurd (cc)

else_so : (b c : Bool) → (if b then false else c) ≡ true → c ≡ true
else_so true c e = absurd (cc)
else_so false c e = e

left_true : (a b : Bool) → a ≡ true → (if a then true else b) ≡ true
left_true true b e = refl
left_true false b e = absurd (cc)

right_true : (a b : Bool) → b ≡ true → (if a then true else b) ≡ true
right_true true b e = refl
right_true false b e = e

less_by : (n m : ℕ) → n < suc m → ¬ (n ≡ m) → n < m
less_by n m h off = omega arith

all_by : (m n : ℕ) (g : ℕ → Bool) → g m ≡ true → (n < m → g n ≡ true) → n < suc m → (n ≡ m) ⊎ ¬ (n ≡ m) → g n ≡ true
all_by m n g last more h (inl same) = ap g same ∙ last
all_by m n g last more h (inr off) = more (less_by n m h off)

one_of_all : (m n : ℕ) (g : ℕ → Bool) → for_all m g ≡ true → n < m → g n ≡ true
one_of_all zero n g e h = absurd (omega arith)
one_of_all (suc m) n g e h = all_by m n g (first_so (g m) (for_all m g) e)
    (λ less. one_of_all m n g (second_so (g m) (for_all m g) e) less) h (cases_eq n m)

is_one_so : (n : ℕ) (at : Option ℕ) → at ≡ Some n → is_one n at ≡ true
is_one_so n at e = ap (is_one n) e ∙ eq-eqb n n refl

parent_so : (p n : ℕ) (f : Forest) → IsParent f p n → is_parent p n f ≡ true
parent_so p n f (of_child _ _ i) =
    left_true (is_in n (children_at p f)) (is_one n (contents_of p f)) (is_in_true n (children_at p f) i)
parent_so p n f (of_contents _ _ e) =
    right_true (is_in n (children_at p f)) (is_one n (contents_of p f)) (is_one_so n (contents_of p f) e)

free_so : (n : ℕ) (f : Forest) → is_free n f ≡ true → HasNoParent n f
free_so n f e = λ p up. not_so (is_parent p n f)
    (one_of_all (nodes f) p (λ q. if is_parent q n f then false else true) e (holds_parent p n f up))
    (parent_so p n f up)

child_so : (kind : Kind) → is_child_kind kind ≡ true → ¬ (kind ≡ document)
child_so document e h = absurd (cc)
child_so (doctype name public system) e h = absurd (cc)
child_so (text cs) e h = absurd (cc)
child_so (comment cs) e h = absurd (cc)
child_so (instruction target cs) e h = absurd (cc)
child_so (element x) e h = absurd (cc)

-- the parent of a node that is apart is apart
parent_apart : (k n p x : ℕ) (f : Forest) → is_apart (suc k) n x f ≡ true → IsParent f p x → is_apart k n p f ≡ true
parent_apart k n p x f e up = then_so (is_parent p x f) (is_apart k n p f)
    (one_of_all (nodes f) p (λ q. if is_parent q x f then is_apart k n q f else true)
    (else_so (n == x) (for_all (nodes f) (λ q. if is_parent q x f then is_apart k n q f else true)) e)
    (holds_parent p x f up))
    (parent_so p x f up)

itself_not_apart : (k n : ℕ) (f : Forest) → is_apart k n n f ≡ true → ⊥
itself_not_apart zero n f e = absurd (cc)
itself_not_apart (suc k) n f e = neither_so (n == n)
    (for_all (nodes f) (λ p. if is_parent p n f then is_apart k n p f else true)) e (eq-eqb n n refl)

not_above : (k n x : ℕ) (f : Forest) → is_apart k n x f ≡ true → ¬ (Above (IsParent f) n x)
not_above zero n x f e up = absurd (cc)
not_above (suc k) n x f e (child _ _ edge) = itself_not_apart k n f (parent_apart k n n x f e edge)
not_above (suc k) n x f e (further _ b _ up edge) = not_above k n b f (parent_apart k n b x f e edge) up

apart_so : (k n x : ℕ) (f : Forest) → is_apart k n x f ≡ true → ¬ (AtOrAbove (IsParent f) n x)
apart_so k n x f e (inl same) = itself_not_apart k n f (ap (λ y. is_apart k n y f) same ∙ e)
apart_so k n x f e (inr up) = not_above k n x f e up

is_in_so : (n p : ℕ) (f : Forest) → is_in n (children_at p f) ≡ true → IsIn n (children_at p f)
is_in_so n p f e = by (decide_in n (children_at p f)) where
  by : IsIn n (children_at p f) ⊎ ¬ (IsIn n (children_at p f)) → IsIn n (children_at p f)
  by (inl i) = i
  by (inr out) = let no : is_in n (children_at p f) ≡ false = is_in_false n (children_at p f) out in absurd (cc)

move_below : (p n : ℕ) (f : Forest) → may_move p n f ≡ true → CanMove (below p) n f
move_below p n f e =
    let rest = second_so (ltb n (nodes f)) _ e in
    let last = second_so (is_free n f) _ rest in
    record {
      within = ltb-true n (nodes f) (first_so (ltb n (nodes f)) _ e);
      free = free_so n f (first_so (is_free n f) _ rest);
      no_document = child_so (kind_at n f) (first_so (is_child_kind (kind_at n f)) _ last);
      apart = apart_so (nodes f) n p f (second_so (is_child_kind (kind_at n f)) _ last);
    }

move_before : (s n : ℕ) (f : Forest) → may_move s n f ≡ true → CanMove (before s) n f
move_before s n f e =
    let m = move_below s n f e in
    record { within = m.within; free = m.free; no_document = m.no_document; apart = m.apart }

-- what may be put, and where children may go
pub node_below : (p n : ℕ) (f : Forest) → ltb p (nodes f) ≡ true → may_move p n f ≡ true → CanPut (below p) (node n) f
node_below p n f here e = (ltb-true p (nodes f) here, move_below p n f e)

pub words_below : (p : ℕ) (cs : List ℕ) (f : Forest) → ltb p (nodes f) ≡ true → CanPut (below p) (words cs) f
words_below p cs f here = ltb-true p (nodes f) here

pub node_before : (p s n : ℕ) (f : Forest) → is_in s (children_at p f) ≡ true → may_move s n f ≡ true →
    CanPut (before s) (node n) f
node_before p s n f here e = ((p, is_in_so s p f here), move_before s n f e)

pub words_before : (p s : ℕ) (cs : List ℕ) (f : Forest) → is_in s (children_at p f) ≡ true →
    CanPut (before s) (words cs) f
words_before p s cs f here = (p, is_in_so s p f here)

pub reparents : (old new : ℕ) (f : Forest) → may_reparent old new f ≡ true → CanReparent old new f
reparents old new f e =
    let rest = second_so (ltb old (nodes f)) _ e in
    record {
      given = ltb-true old (nodes f) (first_so (ltb old (nodes f)) _ e);
      holds = ltb-true new (nodes f) (first_so (ltb new (nodes f)) _ rest);
      apart = apart_so (nodes f) old new f (second_so (ltb new (nodes f)) _ rest);
    }

pub x_codes : chars (codes "x") ≡ codes "x"
unfolding chars
x_codes = refl

pub y_codes : chars (codes "y") ≡ codes "y"
unfolding chars
y_codes = refl
