-- Where the walk of the adoption agency stands in memory.
use Rattle.std.proofs.Common.{◌≡◌, ◌-◌, ◌<◌, ◌≤◌, ◌==◌, ◌∙◌, [], ◌∷◌, ◌++◌, if◌then◌else◌, Bool, List, Some, ap, arith}
use Rattle.std.proofs.Common.{drop, eqb-true, false, length, map, refl, slice_index_or, subst, suc, sym, take, true}
use Rattle.std.proofs.Common.{zero, ℕ}
use Rattle.std.proofs.lemmas.Bool.Decides.{nat_tests}
use Rattle.std.specs.Bool.{nat_lt}
use Rattle.std.proofs.lemmas.List.{append_assoc, length-append, length-map, length-reverse}
use Rattle.tree_formatting.specs.Entries.{Entry, formatted, is_listed, marker, tag_in, up_to_marker}
use Rattle.tree_forest.specs.Forest.{is_in}
use Rattle.tree_forest.specs.Orders.{AreDistinct, IsIn}
use Rattle.html_lexemes.specs.declared.token.Tag.{Tag}
use Rattle.tree_model.specs.Adoption.{Walk, farther, nearer, stepped, walked}
use Rattle.tree_model.specs.Building.{Building, stack_of}
use Rattle.tree_model.specs.CanAdopt.{CanAdopt}
use Rattle.tree_model.specs.Laws.{Laws}
use Rattle.tree_model.specs.Walks.{IsWalk, IsWalkedUp, begun}
use Rattle.tree_model.proofs.NearerLemmas.{in_front_part}
use Rattle.tree_model.proofs.OpenLemmas.{divided, stack_around}
use Rattle.tree_model.proofs.WalkLemmas.{in_is, is_last, is_open, last_below, other, same_number, walk_begins}
use Rattle.tree_model.proofs.WalkLemmas.{walk_goes_on}
use Rattle.tree_model.proofs.WalkLists.{farther_there}

-- as many are open as are held
pub same_length : {H : Type 0} (number : H → ℕ) (xs : List H) → length (stack_of number xs) ≡ length xs
same_length number xs = length-reverse (map number xs) ∙ length-map xs number

-- of two divisions of a list whose ends are as long, the elements between are the same
same_between : (xs ys : List ℕ) (a b : ℕ) (cs ds : List ℕ) → xs ++ a ∷ cs ≡ ys ++ b ∷ ds →
    length cs ≡ length ds → a ≡ b
same_between [] [] a b cs ds e long = cc
same_between [] (y ∷ ys) a b cs ds e long =
    let t : cs ≡ ys ++ b ∷ ds = cc in
    absurd (omega (arith, long, ap length t, length-append ys (b ∷ ds)))
same_between (x ∷ xs) [] a b cs ds e long =
    let t : xs ++ a ∷ cs ≡ ds = cc in
    absurd (omega (arith, long, ap length t, length-append xs (a ∷ cs)))
same_between (x ∷ xs) (y ∷ ys) a b cs ds e long =
    same_between xs ys a b cs ds (let t : xs ++ a ∷ cs ≡ ys ++ b ∷ ds = cc in t) long

taken_length : {A : Type 0} (xs : List A) (k : ℕ) → k ≤ length xs → length (take k xs) ≡ k
taken_length xs zero h = refl
taken_length [] (suc k) h = absurd (omega arith)
taken_length (x ∷ xs) (suc k) h = ap suc (taken_length xs k (omega arith))

-- what has so many before it
pub at_place : {H : Type 0} (number : H → ℕ) (xs : List H) (k : ℕ) (x : H) (tops : List ℕ) (n : ℕ) (lows : List ℕ) →
    k < length xs → x ≡ slice_index_or xs k x → stack_of number xs ≡ tops ++ n ∷ lows → length lows ≡ k →
    number x ≡ n
at_place number xs k x tops n lows within read whole long =
    same_between (stack_of number (drop (suc k) xs)) tops (number x) n (stack_of number (take k xs)) lows
    (sym (stack_around number xs k x within read) ∙ whole)
    (same_length number (take k xs) ∙ taken_length xs k (omega arith) ∙ sym long)

pub above_length : {H : Type 0} (number : H → ℕ) (xs : List H) (k : ℕ) (lows : List ℕ) → k < length xs →
    stack_of number (take k xs) ≡ lows → length lows ≡ k
above_length number xs k lows within e =
    ap length (sym e) ∙ same_length number (take k xs) ∙ taken_length xs k (omega arith)

-- a listed element has a tag
tag_step : (n m : ℕ) (tag : Tag) (es : List Entry) (b : Bool) →
    (is_listed n (up_to_marker es) ≡ true → (held : Tag) × (tag_in n es ≡ Some held)) →
    (if b then true else is_listed n (up_to_marker es)) ≡ true →
    (held : Tag) × ((if b then Some tag else tag_in n es) ≡ Some held)
tag_step n m tag es true more e = (tag, refl)
tag_step n m tag es false more e = more e

has_tag : (n : ℕ) (es : List Entry) → is_listed n (up_to_marker es) ≡ true →
    (tag : Tag) × (tag_in n es ≡ Some tag)
has_tag n [] e = absurd (let k : false ≡ true = e in cc)
has_tag n (marker ∷ es) e = absurd (let k : false ≡ true = e in cc)
has_tag n (formatted m tag ∷ es) e = tag_step n m tag es (m == n) (has_tag n es) e

-- what stands above the furthest block
above_block : (n block : ℕ) (stack near left : List ℕ) → AreDistinct stack →
    stack ≡ near ++ n ∷ farther n stack → near ≡ nearer block near ++ block ∷ left →
    farther block stack ≡ left ++ n ∷ farther n stack
above_block n block stack near left distinct whole parts =
    let up = nearer block near in
    let down = n ∷ farther n stack in
    let e : stack ≡ up ++ block ∷ (left ++ down) =
    whole ∙ ap (λ v. v ++ down) parts ∙ append_assoc up (block ∷ left) down in
    ap (farther block) e ∙ farther_there block up (left ++ down) (subst AreDistinct e distinct)

-- So many elements are before the one that the walk comes to next; it began with so many.
pub record IsWalking (n block : ℕ) (first : Building) (start index : ℕ) (w : Walk) : Type 0 where
  pub tag : Tag
  pub tagged : tag_in n first.formatting ≡ Some tag
  pub left : List ℕ
  pub walk : IsWalk n block tag left (farther n first.stack) w
  pub counted : length (left ++ n ∷ farther n first.stack) ≡ index
  pub before : index ≤ start
  pub same : walked block (start - index) left w
      ≡ walked block 0 (farther block (nearer n first.stack)) (begun block first)

pub walking_begins : (n block : ℕ) (b : Building) (start : ℕ) → CanAdopt n block b →
    length (farther block b.stack) ≡ start → IsWalking n block b start start (begun block b)
walking_begins n block b start can long =
    let near = nearer n b.stack in
    let left = farther block near in
    let has = has_tag n b.formatting can.listed in
    let none : start - start ≡ 0 = omega arith in
    record {
      tag = has.0;
      tagged = has.1;
      left = left;
      walk = walk_begins n block has.0 b can.sound can.is_open can.in_scope can.found has.1 can.listed;
      counted = ap length (sym (above_block n block b.stack near left can.sound.distinct
          (divided n b.stack can.is_open)
          (divided block near (in_is block near (is_last block b.forest near can.found))))) ∙ long;
      before = omega arith;
      same = ap (λ k. walked block k left (begun block b)) none;
    }

-- the furthest block is open
pub block_open : (n block : ℕ) (b : Building) → CanAdopt n block b → is_in block b.stack ≡ true
block_open n block b can =
    let near = nearer n b.stack in
    in_is block b.stack (subst (IsIn block) (sym (divided n b.stack can.is_open))
    (in_front_part block near (n ∷ farther n b.stack) (is_last block b.forest near can.found)))

module _ (n block : ℕ) (first : Building) (start index : ℕ) (w : Walk)
    (walking : IsWalking n block first start index w) where
  abbrev rest : List ℕ
  rest = n ∷ farther n first.stack

  pub within : index ≤ length w.tree.stack
  within = omega (
    arith,
    walking.counted,
    ap length walking.walk.whole,
    length-append walking.walk.uppers (walking.left ++ rest),
  )

  pub some_left : 0 < index
  some_left = omega (arith, walking.counted, length-append walking.left rest)

-- what the walk comes to next: the formatting element, where it ends, or another
pub record IsNext (n block m : ℕ) (first : Building) (start index : ℕ) (w : Walk) : Type 0 where
  pub tag : Tag
  pub tagged : tag_in n first.formatting ≡ Some tag
  pub left : List ℕ
  pub walk : IsWalk n block tag (m ∷ left) (farther n first.stack) w
  pub counted : length (left ++ n ∷ farther n first.stack) ≡ index
  pub before : suc index ≤ start
  pub same : walked block (start - suc index) (m ∷ left) w
      ≡ walked block 0 (farther block (nearer n first.stack)) (begun block first)

same_tag : (tag held : Tag) → Some tag ≡ Some held → tag ≡ held
same_tag tag held e = cc

-- an element has so many before it
abbrev pub IsAt : ℕ → ℕ → List ℕ → Type 0
IsAt m index stack = (tops : List ℕ) (k : ℕ) (lows : List ℕ) → stack ≡ tops ++ k ∷ lows → length lows ≡ index → m ≡ k

module _ (n block m : ℕ) (first : Building) (start index : ℕ) (w : Walk) (laws : Laws) (at : IsAt m index w.tree.stack)
    (tag : Tag) (tagged : tag_in n first.formatting ≡ Some tag) where
  abbrev lows : List ℕ
  lows = farther n first.stack

  ends_by : (left : List ℕ) → IsWalk n block tag left lows w → length (left ++ n ∷ lows) ≡ suc index →
      walked block (start - suc index) left w
      ≡ walked block 0 (farther block (nearer n first.stack)) (begun block first) → m ≡ n →
      IsWalkedUp n block first w
  ends_by [] walk counted same is = record {
    same = same;
    walk = λ held e. subst (λ t. IsWalk n block t [] lows w)
        (same_tag tag held (sym tagged ∙ e)) walk;
  }
  ends_by (k ∷ left) walk counted same is = absurd (other n block k tag left lows w laws walk
      (sym is ∙ at walk.uppers k (left ++ n ∷ lows) walk.whole (omega arith)))

  next_by : (left : List ℕ) → IsWalk n block tag left lows w → length (left ++ n ∷ lows) ≡ suc index →
      suc index ≤ start → walked block (start - suc index) left w
      ≡ walked block 0 (farther block (nearer n first.stack)) (begun block first) → ¬ (m ≡ n) →
      IsNext n block m first start index w
  next_by [] walk counted before same isnt = absurd (isnt (at walk.uppers n lows walk.whole (omega arith)))
  next_by (k ∷ left) walk counted before same isnt =
      let is : m ≡ k = at walk.uppers k (left ++ n ∷ lows) walk.whole (omega arith) in
      record {
        tag = tag;
        tagged = tagged;
        left = left;
        walk = subst (λ v. IsWalk n block tag (v ∷ left) lows w) (sym is) walk;
        counted = omega arith;
        before = before;
        same = subst (λ v. walked block (start - suc index) (v ∷ left) w
            ≡ walked block 0 (farther block (nearer n first.stack)) (begun block first)) (sym is) same;
      }

counted_down : (n block : ℕ) (first : Building) (start index : ℕ) (w : Walk) →
    IsWalking n block first start index w → 0 < index → IsWalking n block first start (suc (index - 1)) w
counted_down n block first start index w walking more =
    let e : index ≡ suc (index - 1) = omega arith in
    subst (λ k. IsWalking n block first start k w) e walking

other_number : (m n : ℕ) → (m == n) ≡ false → ¬ (m ≡ n)
other_number m n e is = absurd (let k : true ≡ false = sym (same_number m n is) ∙ e in cc)

-- the walk ends at the formatting element
pub walk_ends : (n block m : ℕ) (first : Building) (start index : ℕ) (w : Walk) → Laws →
    IsWalking n block first start index w → 0 < index → IsAt m (index - 1) w.tree.stack → (m == n) ≡ true →
    IsWalkedUp n block first w
walk_ends n block m first start index w laws walking more at is =
    let down = counted_down n block first start index w walking more in
    ends_by n block m first start (index - 1) w laws at down.tag down.tagged down.left down.walk down.counted
    down.same (eqb-true m n is)

-- and goes on with any other
pub walk_next : (n block m : ℕ) (first : Building) (start index : ℕ) (w : Walk) → Laws →
    IsWalking n block first start index w → 0 < index → IsAt m (index - 1) w.tree.stack → (m == n) ≡ false →
    IsNext n block m first start (index - 1) w
walk_next n block m first start index w laws walking more at isnt =
    let down = counted_down n block first start index w walking more in
    next_by n block m first start (index - 1) w laws at down.tag down.tagged down.left down.walk down.counted
    down.before down.same (other_number m n isnt)

late_later : (k : ℕ) → nat_lt 3 (suc k) ≡ nat_lt 2 k
late_later k = grind (arith, nat_tests)

module _ (n block m : ℕ) (first : Building) (start index : ℕ) (w : Walk) (laws : Laws)
    (next : IsNext n block m first start index w) where
  pub next_open : IsIn m w.tree.stack
  next_open = is_open n block m next.tag next.left (farther n first.stack) w laws next.walk

  pub next_below : IsIn w.last (nearer m w.tree.stack)
  next_below = last_below n block m next.tag next.left (farther n first.stack) w laws next.walk

  pub step_taken : (is_late : Bool) (further : Walk) → is_late ≡ nat_lt 3 (start - index) →
      further ≡ stepped (tag_in m w.tree.formatting) is_late block m w → IsWalking n block first start index further
  step_taken is_late further late e =
      let k = start - suc index in
      let before = next.before in
      let more : start - index ≡ suc k = omega (arith, before) in
      record {
        tag = next.tag;
        tagged = next.tagged;
        left = next.left;
        walk = subst (IsWalk n block next.tag next.left (farther n first.stack)) (sym e)
            (walk_goes_on n block m next.tag next.left (farther n first.stack) w laws next.walk is_late);
        counted = next.counted;
        before = omega (arith, before);
        same = ap (λ j. walked block j next.left further) more
            ∙ ap (walked block (suc k) next.left) (e ∙ ap (λ b. stepped (tag_in m w.tree.formatting) b block m w)
            (late ∙ ap (nat_lt 3) more ∙ late_later k)) ∙ next.same;
      }
