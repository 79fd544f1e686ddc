-- Two ways to cut a list, and what more letters do to a line.
use Rattle.std.proofs.Common.{◌≡◌, ◌+◌, ◌≤◌, ◌⊎◌, [], ◌∷◌, ◌++◌, ◌∙◌, Bool, IsTrue, List, ap, arith, false, inl, inr}
use Rattle.std.proofs.Common.{length, length-append, refl, true, ℕ}
use Rattle.std.specs.List.{AllByRecursion}
use Rattle.std.proofs.lemmas.List.Elements.{All-from_recursion, recursion_from_All}
use Rattle.std.proofs.lemmas.Grind.{flat_map-append}
use Rattle.text_normal.specs.Layout.{IsAllowed, IsLine, IsOverflow, Mark, can_follow, can_start, columns}
use Rattle.text_normal.specs.Layout.{following_columns, joined_lines}

-- ---- two fronts of one list

-- The front `long`, with `rest` after it, is the front `short` and some more, where `after` stands after `short`.
pub record IsLonger {A : Type 0} (long rest short after : List A) : Type 0 where
  pub next : A
  pub more : List A
  pub front : long ≡ short ++ next ∷ more
  pub back : next ∷ (more ++ rest) ≡ after

-- The front `short` reaches no further than `long`, of which `past` is left.
pub record IsWithin {A : Type 0} (short rest long after : List A) : Type 0 where
  pub past : List A
  pub front : long ≡ short ++ past
  pub back : rest ≡ past ++ after

one_more : {A : Type 0} (x y : A) (xs rest ys after : List A) → x ≡ y → IsLonger xs rest ys after ⊎ IsWithin xs rest ys
    after → IsLonger (x ∷ xs) rest (y ∷ ys) after ⊎ IsWithin (x ∷ xs) rest (y ∷ ys) after
one_more x y xs rest ys after same (inl h) = let tails : xs ≡ ys ++ h.next ∷ h.more = h.front in
    inl (record { next = h.next; more = h.more; front = cc; back = h.back })
one_more x y xs rest ys after same (inr h) = let tails : ys ≡ xs ++ h.past = h.front in
    inr (record { past = h.past; front = cc; back = h.back })

pub longer_or_within : {A : Type 0} (one rest other after : List A) → one ++ rest ≡ other ++ after
    → IsLonger one rest other after ⊎ IsWithin one rest other after
longer_or_within [] rest other after e = inr (record { past = other; front = refl; back = e })
longer_or_within (x ∷ xs) rest [] after e = inl (record { next = x; more = xs; front = refl; back = e })
longer_or_within (x ∷ xs) rest (y ∷ ys) after e = one_more x y xs rest ys after (cc)
    (longer_or_within xs rest ys after (cc))

-- fronts of one length are one front
pub same_fronts : {A : Type 0} (xs rest ys after : List A) → xs ++ rest ≡ ys ++ after → length xs ≡ length ys
    → (xs ≡ ys) × (rest ≡ after)
same_fronts [] rest [] after e same = (refl, e)
same_fronts [] rest (y ∷ ys) after e same = absurd (omega arith)
same_fronts (x ∷ xs) rest [] after e same = absurd (omega arith)
same_fronts (x ∷ xs) rest (y ∷ ys) after e same =
    let tails = same_fronts xs rest ys after (cc) (omega arith) in
    let fronts : xs ≡ ys = tails.0 in
    let heads : x ≡ y = cc in
    (cc, tails.1)

pub two_fronts : {A : Type 0} (long rest short after : List A) → long ++ rest ≡ short ++ after
    → (length long ≤ length short) ⊎ IsLonger long rest short after
two_fronts long rest short after e = shorter (longer_or_within long rest short after e)
  where
    shorter : IsLonger long rest short after ⊎ IsWithin long rest short after
        → (length long ≤ length short) ⊎ IsLonger long rest short after
    shorter (inl h) = inr h
    shorter (inr h) = let lengths : length short ≡ length long + length h.past = ap length h.front
        ∙ length-append long h.past in inl (omega arith)

-- ---- columns

pub following_columns-append : {S : Type 0} (xs ys : List (Mark S)) → following_columns (xs ++ ys) ≡ following_columns
    xs + following_columns ys
following_columns-append [] ys = omega arith
following_columns-append (m ∷ ms) ys = let rest = following_columns-append ms ys in omega arith

pub columns_grow : {S : Type 0} (xs ys : List (Mark S)) → columns xs ≤ columns (xs ++ ys)
columns_grow [] ys = omega arith
columns_grow (m ∷ ms) ys = let rest = following_columns-append ms ys in omega arith

-- ---- letters that can stand on a line, whatever their columns

abbrev pub Follow : {S : Type 0} → List (Mark S) → Type 0
Follow ms = AllByRecursion (λ n. IsTrue (can_follow n.joint)) ms

abbrev pub IsRun : {S : Type 0} → List (Mark S) → Type 0
IsRun [] = ⊥
IsRun (m ∷ ms) = IsTrue (can_start m.joint) × Follow ms

Follow-append : {S : Type 0} (xs ys : List (Mark S)) → Follow xs → Follow ys → Follow (xs ++ ys)
Follow-append [] ys h k = k
Follow-append (m ∷ ms) ys h k = (h.0, Follow-append ms ys h.1 k)

pub run_more : {S : Type 0} (line ms : List (Mark S)) → IsRun line → Follow ms → IsRun (line ++ ms)
run_more [] ms h k = absurd h
run_more (l ∷ ls) ms h k = (h.0, Follow-append ls ms h.1 k)

Follow-next : {S : Type 0} (xs : List (Mark S)) (m : Mark S) (ms : List (Mark S)) → Follow (xs ++ m ∷ ms)
    → IsTrue (can_follow m.joint)
Follow-next [] m ms h = h.0
Follow-next (x ∷ xs) m ms h = Follow-next xs m ms h.1

-- what stands after letters of a line can follow
pub run_next : {S : Type 0} (line : List (Mark S)) (m : Mark S) (ms : List (Mark S)) → IsRun line
    → IsRun (line ++ m ∷ ms) → IsTrue (can_follow m.joint)
run_next [] m ms h k = absurd h
run_next (l ∷ ls) m ms h k = Follow-next ls m ms k.1

-- ---- allowed lines

run_from_line : {S : Type 0} (w : ℕ) (line : List (Mark S)) → IsLine w line → IsRun line
run_from_line w [] h = absurd h
run_from_line w (m ∷ ms) h = (h.0, recursion_from_All (λ n. IsTrue (can_follow n.joint)) ms h.1)

run_from_overflow : {S : Type 0} (w : ℕ) (line : List (Mark S)) → IsOverflow w line → IsRun line
run_from_overflow w [] h = absurd h
run_from_overflow w (m ∷ []) h = (h.0, tt)
run_from_overflow w (m ∷ n ∷ ms) h = absurd h

pub run_from_allowed : {S : Type 0} (w : ℕ) (o : Bool) (line : List (Mark S)) → IsAllowed w o line → IsRun line
run_from_allowed w false line h = run_from_line w line h
run_from_allowed w true line (inl h) = run_from_line w line h
run_from_allowed w true line (inr h) = run_from_overflow w line h

line_from_run : {S : Type 0} (w : ℕ) (line : List (Mark S)) → IsRun line → columns line ≤ w → IsLine w line
line_from_run w [] h fits = absurd h
line_from_run w (m ∷ ms) h fits = (h.0, All-from_recursion (λ n. IsTrue (can_follow n.joint)) ms h.1, fits)

pub allowed_from_run : {S : Type 0} (w : ℕ) (o : Bool) (line : List (Mark S)) → IsRun line → columns line ≤ w
    → IsAllowed w o line
allowed_from_run w false line h fits = line_from_run w line h fits
allowed_from_run w true line h fits = inl (line_from_run w line h fits)

two_fit : {S : Type 0} (w : ℕ) (o : Bool) (a b : Mark S) (ms : List (Mark S)) → IsAllowed w o (a ∷ b ∷ ms)
    → columns (a ∷ b ∷ ms) ≤ w
two_fit w false a b ms h = h.2
two_fit w true a b ms (inl h) = h.2
two_fit w true a b ms (inr h) = absurd h

-- an allowed line of two letters or more isn't wider than the width
pub more_fit : {S : Type 0} (w : ℕ) (o : Bool) (line : List (Mark S)) (m : Mark S) (ms : List (Mark S)) → IsRun line
    → IsAllowed w o (line ++ m ∷ ms) → columns (line ++ m ∷ ms) ≤ w
more_fit w o [] m ms run h = absurd run
more_fit w o (a ∷ []) m ms run h = two_fit w o a m ms h
more_fit w o (a ∷ b ∷ ls) m ms run h = two_fit w o a b (ls ++ m ∷ ms) h

-- ---- what can stand after a line

abbrev pub CanBegin : {S : Type 0} → List (Mark S) → Type 0
CanBegin [] = Unit {0}
CanBegin (m ∷ ms) = IsTrue (can_start m.joint)

run_begins : {S : Type 0} (line rest : List (Mark S)) → IsRun line → CanBegin (line ++ rest)
run_begins [] rest h = absurd h
run_begins (m ∷ ms) rest h = h.0

pub lines_begin : {S : Type 0} (w : ℕ) (o : Bool) (lines : List (List (Mark S))) → AllByRecursion (IsAllowed w o) lines
    → CanBegin (joined_lines lines)
lines_begin w o [] h = tt
lines_begin w o (line ∷ lines) h = run_begins line (joined_lines lines) (run_from_allowed w o line h.0)

-- ---- lines joined

pub joined-append : {S : Type 0} (xs ys : List (List (Mark S)))
    → joined_lines (xs ++ ys) ≡ joined_lines xs ++ joined_lines ys
joined-append xs ys = flat_map-append (λ line. line) xs ys
