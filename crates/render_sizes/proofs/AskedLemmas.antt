-- The columns that a layout asks for, of nodes in a row.
use Rattle.std.proofs.Common.{◌≡◌, [], ◌∷◌, ◌++◌, ◌∙◌, List, ap, append-nil, append_assoc, arith, drop, get_or, inl}
use Rattle.std.proofs.Common.{inr, length, length-append, refl, suc, sym, take, ℕ}
use Rattle.std.proofs.Math.Seq.{drop-append_seam}
use Rattle.render_values.specs.Arena.{IsFlat, trailing, first, flat, values_of}
use Rattle.render_values.specs.Values.{Values, count, joined, none, value}
use Rattle.render_values.specs.declared.info.Head.{Head}
use Rattle.render_values.specs.declared.node.RenderNode.{RenderNode}
use Rattle.render_values.proofs.ArenaLemmas.{below_is, flat_by, flat_rest, length_flat, next_values, rest_is}
use Rattle.render_values.specs.Reading.{read_back}
use Rattle.render_sizes.specs.Asked.{AreMeasured, asked_as, asked_extents, asked_of}
use Rattle.render_sizes.specs.Extents.{Measure, extent_of, extents, nothing_wide}
use Rattle.render_sizes.specs.declared.asked.Asked.{Asked}
use Rattle.render_sizes.specs.declared.asked.Asked.TheVariants.{Inside, Itself, Nothing}
use Rattle.render_sizes.specs.declared.extent.Extent.{Extent}
use Rattle.render_sizes.proofs.ExtentLemmas.{extents_first, inner_extents, inner_nodes, inner_values, length_extents}
use Rattle.render_sizes.proofs.ExtentLemmas.{next_extents, rest_values, take_seam}

pub asked_joined : (m : Measure) (vs ws : Values)
    → asked_extents m (joined vs ws) ≡ asked_extents m vs ++ asked_extents m ws
asked_joined m none ws = refl
asked_joined m (value head inside rest) ws =
    let here = asked_as (asked_of head.info) m head inside (asked_extents m inside) in
    ap (λ l. here ++ l) (asked_joined m rest ws)
    ∙ sym (append_assoc here (asked_extents m rest) (asked_extents m ws))

-- what is asked of the nodes after a node: of those that stand in it, and of those that follow it
pub asked_split : (m : Measure) (x : RenderNode) (xs : List RenderNode) → IsFlat (x ∷ xs)
    → asked_extents m (values_of xs)
    ≡ asked_extents m (first x.below (values_of xs)) ++ asked_extents m (trailing x.below (values_of xs))
asked_split m x xs h =
    ap (asked_extents m) (sym (rest_values x xs h))
    ∙ asked_joined m (first x.below (values_of xs)) (trailing x.below (values_of xs))

-- ---- one value more

-- nothing is asked of it
pub passed : (m : Measure) (x : RenderNode) (xs : List RenderNode) (old new : List Extent) → IsFlat (x ∷ xs)
    → asked_of x.head.info ≡ Nothing → new ≡ old ++ nothing_wide ∷ []
    → new ++ asked_extents m (values_of xs) ≡ old ++ asked_extents m (values_of (x ∷ xs))
passed m x xs old new h asks is =
    let k = first x.below (values_of xs) in
    let r = trailing x.below (values_of xs) in
    ap (λ l. l ++ asked_extents m (values_of xs)) is
    ∙ (append_assoc old (nothing_wide ∷ []) (asked_extents m (values_of xs))
    ∙ (ap (λ l. old ++ (nothing_wide ∷ l)) (asked_split m x xs h)
    ∙ ap (λ a. old ++ (asked_as a m x.head k (asked_extents m k) ++ asked_extents m r)) (sym asks)))

-- what stands in it is measured
pub entered : (m : Measure) (x : RenderNode) (xs inside rest : List RenderNode) (old one new : List Extent)
    → IsFlat (x ∷ xs) → asked_of x.head.info ≡ Inside → one ≡ old ++ nothing_wide ∷ []
    → inside ≡ take x.below xs → new ≡ one ++ extents m (values_of inside) → rest ≡ drop x.below xs
    → new ++ asked_extents m (values_of rest) ≡ old ++ asked_extents m (values_of (x ∷ xs))
entered m x xs inside rest old one new h asks first_is cut is later =
    let k = first x.below (values_of xs) in
    let r = trailing x.below (values_of xs) in
    let inner : values_of inside ≡ k = ap values_of cut ∙ inner_values x xs h in
    let next : values_of rest ≡ r = ap values_of later ∙ next_values x xs h in
    ap (λ l. new ++ asked_extents m l) next
    ∙ (ap (λ l. l ++ asked_extents m r) (is ∙ (ap (λ v. one ++ extents m v) inner
    ∙ (ap (λ l. l ++ extents m k) first_is ∙ append_assoc old (nothing_wide ∷ []) (extents m k))))
    ∙ (append_assoc old (nothing_wide ∷ extents m k) (asked_extents m r)
    ∙ ap (λ a. old ++ (asked_as a m x.head k (asked_extents m k) ++ asked_extents m r)) (sym asks)))

-- a node with those that stand in it are the nodes of its value
pub own_nodes : (x : RenderNode) (xs : List RenderNode) → IsFlat (x ∷ xs)
    → take (suc x.below) (x ∷ xs) ≡ flat (value x.head (first x.below (values_of xs)) none)
own_nodes x xs h =
    let k = first x.below (values_of xs) in
    ap (λ l. x ∷ l) (inner_nodes x xs h)
    ∙ (ap (λ n. record { head = x.head; below = n } ∷ flat k) (sym (below_is x xs h))
    ∙ ap (λ l. record { head = x.head; below = count k } ∷ l) (sym (append-nil (flat k))))

pub own_flat : (x : RenderNode) (xs value_nodes : List RenderNode) → IsFlat (x ∷ xs)
    → value_nodes ≡ take (suc x.below) (x ∷ xs) → IsFlat value_nodes
own_flat x xs value_nodes h cut =
    flat_by value_nodes (value x.head (first x.below (values_of xs)) none) (cut ∙ own_nodes x xs h)

-- it is measured itself
pub measured_whole : (m : Measure) (x : RenderNode) (xs value_nodes rest : List RenderNode) (old new : List Extent)
    → IsFlat (x ∷ xs) → asked_of x.head.info ≡ Itself → value_nodes ≡ take (suc x.below) (x ∷ xs)
    → new ≡ old ++ extents m (values_of value_nodes) → rest ≡ drop x.below xs
    → new ++ asked_extents m (values_of rest) ≡ old ++ asked_extents m (values_of (x ∷ xs))
measured_whole m x xs value_nodes rest old new h asks cut is later =
    let k = first x.below (values_of xs) in
    let r = trailing x.below (values_of xs) in
    let own : values_of value_nodes ≡ value x.head k none =
    ap values_of (cut ∙ own_nodes x xs h) ∙ read_back (value x.head k none) in
    let next : values_of rest ≡ r = ap values_of later ∙ next_values x xs h in
    let columns : extents m (values_of value_nodes) ≡ extent_of m x.head k ∷ extents m k =
    ap (extents m) own ∙ ap (λ l. extent_of m x.head k ∷ l) (append-nil (extents m k)) in
    ap (λ l. new ++ asked_extents m l) next
    ∙ (ap (λ l. l ++ asked_extents m r) (is ∙ ap (λ l. old ++ l) columns)
    ∙ (append_assoc old (extent_of m x.head k ∷ extents m k) (asked_extents m r)
    ∙ ap (λ a. old ++ (asked_as a m x.head k (asked_extents m k) ++ asked_extents m r)) (sym asks)))

pub none_left : (m : Measure) (rest : List RenderNode) (all whole : List Extent) → rest ≡ []
    → all ++ asked_extents m (values_of rest) ≡ whole → all ≡ whole
none_left m rest all whole over is =
    sym (append-nil all) ∙ (ap (λ l. all ++ asked_extents m (values_of l)) (sym over) ∙ is)

pub of_tree : (m : Measure) (tree : Values) (nodes : List RenderNode) → nodes ≡ flat tree
    → asked_extents m (values_of nodes) ≡ asked_extents m tree
of_tree m tree nodes e = ap (λ l. asked_extents m (values_of l)) e ∙ ap (asked_extents m) (read_back tree)

-- ---- what a walk finds

-- at a node: the columns of all nodes are there, those of the nodes that stand in it and of those that follow it, and
-- what is asked for
pub record Found (m : Measure) (x : RenderNode) (xs : List RenderNode) (es : List Extent) : Type 0 where
  pub long : length es ≡ suc (length xs)
  pub inner : AreMeasured m (values_of (take x.below xs)) (take x.below (drop 1 es))
  pub rest : AreMeasured m (values_of (drop x.below xs)) (drop x.below (drop 1 es))
  pub inside : asked_of x.head.info ≡ Inside → take x.below (drop 1 es) ≡ extents m (values_of (take x.below xs))
  pub own : asked_of x.head.info ≡ Itself → (d : Extent)
      → get_or es 0 d ≡ extent_of m x.head (values_of (take x.below xs))

length_asked_as : (a : Asked) (m : Measure) (head : Head) (inside : Values) (others : List Extent)
    → length others ≡ count inside → length (asked_as a m head inside others) ≡ suc (count inside)
length_asked_as Itself m head inside others h = ap suc (length_extents m inside)
length_asked_as Inside m head inside others h = ap suc (length_extents m inside)
length_asked_as Nothing m head inside others h = ap suc h

pub length_asked : (m : Measure) (vs : Values) → length (asked_extents m vs) ≡ count vs
length_asked m none = refl
length_asked m (value head inside rest) =
    let here = asked_as (asked_of head.info) m head inside (asked_extents m inside) in
    omega (
      arith,
      length-append here (asked_extents m rest),
      length_asked_as (asked_of head.info) m head inside (asked_extents m inside) (length_asked m inside),
      length_asked m rest,
    )

pub length_measured : (m : Measure) (vs : Values) (es : List Extent) → AreMeasured m vs es → length es ≡ count vs
length_measured m vs es (inl all) = ap length all ∙ length_extents m vs
length_measured m vs es (inr asked) = ap length asked ∙ length_asked m vs

found_all : (m : Measure) (x : RenderNode) (xs : List RenderNode) (es : List Extent) → IsFlat (x ∷ xs)
    → es ≡ extents m (values_of (x ∷ xs)) → Found m x xs es
found_all m x xs es h is =
    let k = first x.below (values_of xs) in
    let split : es ≡ extent_of m x.head k ∷ extents m (values_of xs) = is ∙ extents_first m (x ∷ xs) h (omega arith) in
    let others : drop 1 es ≡ extents m (values_of xs) = ap (drop 1) split in
    record {
      long = ap length split ∙ ap suc (length_extents m (values_of xs)
          ∙ (sym (length_flat (values_of xs)) ∙ ap length (flat_rest x xs h)));
      inner = inl (inner_extents m x xs (drop 1 es) h others);
      rest = inl (next_extents m x xs (drop 1 es) h others);
      inside = λ asks. inner_extents m x xs (drop 1 es) h others;
      own = λ asks d. ap (λ l. get_or l 0 d) split ∙ ap (extent_of m x.head) (sym (inner_values x xs h));
    }

-- a list that begins with so many
take_front : (n : ℕ) (es one later : List Extent) → es ≡ one ++ later → length one ≡ n → take n es ≡ one
take_front n es one later is long =
    ap (take n) is ∙ (ap (λ k. take k (one ++ later)) (sym long) ∙ take_seam one later)

drop_front : (n : ℕ) (es one later : List Extent) → es ≡ one ++ later → length one ≡ n → drop n es ≡ later
drop_front n es one later is long =
    ap (drop n) is ∙ (ap (λ k. drop k (one ++ later)) (sym long) ∙ drop-append_seam one later)

-- all nodes have their columns
long_by : (m : Measure) (x : RenderNode) (xs : List RenderNode) (es one : List Extent) → IsFlat (x ∷ xs)
    → es ≡ one ++ asked_extents m (trailing x.below (values_of xs)) → length one ≡ suc x.below
    → length es ≡ suc (length xs)
long_by m x xs es one h is front =
    let k = first x.below (values_of xs) in
    let r = trailing x.below (values_of xs) in
    omega (
      arith,
      ap length is,
      length-append one (asked_extents m r),
      front,
      length_asked m r,
      sym (length_flat r),
      length_flat k,
      below_is x xs h,
      ap length (rest_is x xs h),
      length-append (flat k) (flat r),
    )

found_as : (a : Asked) (m : Measure) (x : RenderNode) (xs : List RenderNode) (es : List Extent) → IsFlat (x ∷ xs)
    → asked_of x.head.info ≡ a
    → es ≡ asked_as a m x.head (first x.below (values_of xs)) (asked_extents m (first x.below (values_of xs)))
    ++ asked_extents m (trailing x.below (values_of xs))
    → Found m x xs es
found_as Itself m x xs es h asks is =
    let k = first x.below (values_of xs) in
    let r = trailing x.below (values_of xs) in
    let long = length_extents m k ∙ below_is x xs h in
    let inner = take_front x.below (drop 1 es) (extents m k) (asked_extents m r) (ap (drop 1) is) long in
    record {
      long = long_by m x xs es (extent_of m x.head k ∷ extents m k) h is (ap suc long);
      inner = inl (inner ∙ ap (extents m) (sym (inner_values x xs h)));
      rest = inr (drop_front x.below (drop 1 es) (extents m k) (asked_extents m r) (ap (drop 1) is) long
          ∙ ap (asked_extents m) (sym (next_values x xs h)));
      inside = λ other. inner ∙ ap (extents m) (sym (inner_values x xs h));
      own = λ same d. ap (λ l. get_or l 0 d) is ∙ ap (extent_of m x.head) (sym (inner_values x xs h));
    }
found_as Inside m x xs es h asks is =
    let k = first x.below (values_of xs) in
    let r = trailing x.below (values_of xs) in
    let long = length_extents m k ∙ below_is x xs h in
    let inner = take_front x.below (drop 1 es) (extents m k) (asked_extents m r) (ap (drop 1) is) long in
    record {
      long = long_by m x xs es (nothing_wide ∷ extents m k) h is (ap suc long);
      inner = inl (inner ∙ ap (extents m) (sym (inner_values x xs h)));
      rest = inr (drop_front x.below (drop 1 es) (extents m k) (asked_extents m r) (ap (drop 1) is) long
          ∙ ap (asked_extents m) (sym (next_values x xs h)));
      inside = λ same. inner ∙ ap (extents m) (sym (inner_values x xs h));
      own = λ itself d. absurd (differs (sym asks ∙ itself));
    }
  where
    differs : Inside ≡ Itself → ⊥
    differs e = cc e
found_as Nothing m x xs es h asks is =
    let k = first x.below (values_of xs) in
    let r = trailing x.below (values_of xs) in
    let long = length_asked m k ∙ below_is x xs h in
    let inner = take_front x.below (drop 1 es) (asked_extents m k) (asked_extents m r) (ap (drop 1) is) long in
    record {
      long = long_by m x xs es (nothing_wide ∷ asked_extents m k) h is (ap suc long);
      inner = inr (inner ∙ ap (asked_extents m) (sym (inner_values x xs h)));
      rest = inr (drop_front x.below (drop 1 es) (asked_extents m k) (asked_extents m r) (ap (drop 1) is) long
          ∙ ap (asked_extents m) (sym (next_values x xs h)));
      inside = λ inside. absurd (not_inside (sym asks ∙ inside));
      own = λ itself d. absurd (not_itself (sym asks ∙ itself));
    }
  where
    not_inside : Nothing ≡ Inside → ⊥
    not_inside e = cc e

    not_itself : Nothing ≡ Itself → ⊥
    not_itself e = cc e

-- at the first of some nodes
pub found : (m : Measure) (x : RenderNode) (xs : List RenderNode) (es : List Extent) → IsFlat (x ∷ xs)
    → AreMeasured m (values_of (x ∷ xs)) es → Found m x xs es
found m x xs es h (inl all) = found_all m x xs es h all
found m x xs es h (inr asked) = found_as (asked_of x.head.info) m x xs es h refl asked
