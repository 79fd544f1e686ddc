-- The walk over the nodes of values: a value begins, or ends.
use Rattle.std.proofs.Common.{◌≡◌, ◌+◌, ◌-◌, ◌<◌, ◌≤◌, [], ◌∷◌, ◌++◌, ◌∙◌, List, ap, append-nil, arith, get_or}
use Rattle.std.proofs.Common.{length, length-append, refl, reverse, subst, sym, take, ℕ}
use Rattle.std.proofs.lemmas.List.{length-set, reverse-append}
use Rattle.render_sizes.proofs.ExtentLemmas.{same_length}
use Rattle.block_trait.specs.declared.options.RenderOptions.{RenderOptions}
use Rattle.render_sizes.specs.Extents.{Measure, extent, extent_of, extents, number}
use Rattle.render_sizes.specs.declared.extent.Extent.{Extent}
use Rattle.render_values.specs.Arena.{IsFlat, values_of}
use Rattle.render_values.specs.Values.{Values, none, value}
use Rattle.render_values.specs.declared.info.Head.{Head}
use Rattle.render_values.specs.declared.node.RenderNode.{RenderNode}
use Rattle.table_fits.proofs.SegmentLemmas.{all_here, all_sound, at_of, first_node, nothing_here}
use Rattle.table_fits.specs.Flowing.{Fitting, fitting, standing}
use Rattle.table_fits.specs.Pass.{State, closes, fits_read, inside_of, nothing_passed, on_page, opens, passed}
use Rattle.table_fits.specs.Seen.{IsKept, IsPassing, fits_seen}
use Rattle.table_fits.specs.Walk.{AreSound, AreWaiting, IsSound, IsWaiting, IsWalking, Waiting, extent_at, head_at}
use Rattle.table_fits.specs.Walk.{segment, to_come}
use Rattle.table_fits.specs.declared.values.Kept.{Kept}
use Rattle.table_fits.specs.declared.pass.OpenValue.{OpenValue}
use Rattle.table_fits.specs.declared.pass.Place.{Place}
use Rattle.table_fits.specs.declared.reading.Reading.{Reading}
use Rattle.table_fits.specs.declared.standing.Around.{Around}

-- ---- a value begins

-- what follows a state follows it from wherever it came to be
come_by : (f : Fitting) (nodes : List RenderNode) (sizes : List Extent) (at from end : ℕ) (around : Around)
    (waiting : List Waiting) (s t : State)
    → passed f around (values_of (segment nodes at end)) s ≡ passed f around (values_of (segment nodes from end)) t
    → to_come f nodes sizes at end around waiting s ≡ to_come f nodes sizes from end around waiting t
come_by f nodes sizes at from end around [] s t h = h
come_by f nodes sizes at from end around (v ∷ waiting) s t h =
    ap (λ x. to_come f nodes sizes end v.end v.around waiting
    (closes f v.around (head_at nodes v.at) (extent_at sizes v.at) v.outer x)) h

begins_here : (f : Fitting) (nodes : List RenderNode) (sizes : List Extent) (at first last end : ℕ)
    (around : Around) (waiting : List Waiting) (s : State) (head : Head) (inside rest : Values)
    → head_at nodes at ≡ head
    → values_of (segment nodes at end) ≡ value head inside rest → values_of (segment nodes first last) ≡ inside
    → values_of (segment nodes last end) ≡ rest → extent_at sizes at ≡ extent_of f.measure head inside
    → to_come f nodes sizes first last (inside_of f around head (number inside))
    (record { at = at; end = end; around = around; outer = s } ∷ waiting) (opens f around head s)
    ≡ to_come f nodes sizes at end around waiting s
begins_here f nodes sizes at first last end around waiting s head inside rest is are within later sized =
    come_by f nodes sizes last at end around waiting
    (closes f around (head_at nodes at) (extent_at sizes at) s
    (passed f (inside_of f around head (number inside)) (values_of (segment nodes first last))
    (opens f around head s)))
    s
    (ap (λ v. passed f around v (closes f around (head_at nodes at) (extent_at sizes at) s
    (passed f (inside_of f around head (number inside)) (values_of (segment nodes first last))
    (opens f around head s)))) later
    ∙ (ap (λ h. passed f around rest (closes f around h (extent_at sizes at) s
    (passed f (inside_of f around head (number inside)) (values_of (segment nodes first last))
    (opens f around head s)))) is
    ∙ (ap (λ e. passed f around rest (closes f around head e s
    (passed f (inside_of f around head (number inside)) (values_of (segment nodes first last))
    (opens f around head s)))) sized
    ∙ (ap (λ v. passed f around rest (closes f around head (extent_of f.measure head inside) s
    (passed f (inside_of f around head (number inside)) v
    (opens f around head s)))) within
    ∙ ap (λ v. passed f around v s) (sym are)))))

further_on : (options : RenderOptions) (nodes : List RenderNode) (sizes : List Extent) (at : ℕ)
    (begun : List OpenValue) (waiting : List Waiting) → AreWaiting options nodes sizes at begun waiting
    → AreWaiting options nodes sizes (at + 1) begun waiting
further_on options nodes sizes at [] [] h = h
further_on options nodes sizes at [] (v ∷ waiting) h = h
further_on options nodes sizes at (o ∷ begun) [] h = h
further_on options nodes sizes at (o ∷ begun) (v ∷ waiting) h = (
  record {
    same_at = h.0.same_at;
    same_end = h.0.same_end;
    same_around = h.0.same_around;
    kept = h.0.kept;
    counted = h.0.counted;
    before = let b = h.0.before in omega arith;
    content = h.0.content;
  },
  further_on options nodes sizes at begun waiting h.1,
)

-- a value asks for no more at the least, as it does alone
no_more : (w : Measure) (head : Head) (inside : Values)
    → (extent w (value head inside none)).least ≤ (extent w (value head inside none)).size
    → (extent_of w head inside).least ≤ (extent_of w head inside).size
no_more w head inside h = omega (arith, h)

pub entered : (options : RenderOptions) (w : Measure) (nodes : List RenderNode) (sizes : List Extent) (p : Place)
    (old new : List OpenValue) (before trailing : Reading) (n : RenderNode) (kept : Kept) (around : Around)
    → ((m : Measure) (values : Values) → (extent m values).least ≤ (extent m values).size)
    → n ≡ get_or nodes p.at n → p.at < p.end → (h : IsWalking options w nodes sizes p old before)
    → IsPassing options trailing (opens (fitting options w) p.around n.head h.state)
    → IsKept options p.around (standing n.head.info) kept h.state
    → around ≡ inside_of (fitting options w) p.around n.head
    (number (values_of (segment nodes (p.at + 1) (p.at + 1 + n.below))))
    → new ≡ old ++ record { at = p.at; end = p.end; around = p.around; kept = kept } ∷ []
    → IsWalking options w nodes sizes (record { at = p.at + 1; end = p.at + 1 + n.below; around = around }) new
    trailing
entered options w nodes sizes p old new before trailing n kept around law is here h passing keeps inner pushed =
    let f = fitting options w in
    let first = p.at + 1 in
    let last = p.at + 1 + n.below in
    let inside = values_of (segment nodes first last) in
    let found = first_node nodes sizes w p.at p.end n is here h.same h.here in
    let o : OpenValue = record { at = p.at; end = p.end; around = p.around; kept = kept } in
    let v : Waiting = record { at = p.at; end = p.end; around = p.around; outer = h.state } in
    let waits : IsWaiting options nodes sizes first o v = record {
      same_at = refl;
      same_end = refl;
      same_around = refl;
      kept = subst (λ (x : Head). IsKept options p.around (standing x.info) kept h.state) (sym found.head) keeps;
      counted = h.counted;
      before = omega arith;
      content = subst (λ (e : Extent). e.least ≤ e.size) (sym found.size)
          (no_more w n.head inside (law w (value n.head inside none)));
    } in
    let reversed : reverse new ≡ o ∷ reverse old = ap reverse pushed ∙ reverse-append old (o ∷ []) in
    record {
      state = opens f p.around n.head h.state;
      waiting = v ∷ h.waiting;
      same = h.same;
      passing = passing;
      counted = length-append h.state.fits ([] ∷ []) ∙ ap (λ k. k + 1) h.counted;
      here = found.inner;
      later = (found.rest, h.later);
      are_waiting = subst (λ l. AreWaiting options nodes sizes first l (v ∷ h.waiting)) (sym reversed)
          (waits, further_on options nodes sizes p.at (reverse old) h.waiting h.are_waiting);
      goes = ap (λ a. to_come f nodes sizes first last a (v ∷ h.waiting) (opens f p.around n.head h.state)) inner
          ∙ (begins_here f nodes sizes p.at first last p.end p.around h.waiting h.state n.head inside
          (values_of (segment nodes last p.end)) found.head found.are refl refl found.size ∙ h.goes);
    }

-- ---- a value ends

-- what is known of the value that began last
record IsLast (options : RenderOptions) (nodes : List RenderNode) (sizes : List Extent) (at : ℕ) (o : OpenValue)
    (begun : List OpenValue) (waiting : List Waiting) : Type 0 where
  open_value : Waiting
  others : List Waiting
  is : waiting ≡ open_value ∷ others
  waits : IsWaiting options nodes sizes at o open_value
  are : AreWaiting options nodes sizes at begun others

last_of : (options : RenderOptions) (nodes : List RenderNode) (sizes : List Extent) (at : ℕ) (o : OpenValue)
    (begun : List OpenValue) (waiting : List Waiting) → AreWaiting options nodes sizes at (o ∷ begun) waiting
    → IsLast options nodes sizes at o begun waiting
last_of options nodes sizes at o begun [] h = absurd h
last_of options nodes sizes at o begun (v ∷ waiting) h =
    record { open_value = v; others = waiting; is = refl; waits = h.0; are = h.1 }

last_begun : (options : RenderOptions) (w : Measure) (nodes : List RenderNode) (sizes : List Extent) (p : Place)
    (begun : List OpenValue) (o : OpenValue) (reading : Reading)
    → (h : IsWalking options w nodes sizes p (begun ++ o ∷ []) reading)
    → IsLast options nodes sizes p.at o (reverse begun) h.waiting
last_begun options w nodes sizes p begun o reading h = last_of options nodes sizes p.at o (reverse begun) h.waiting
    (subst (λ l. AreWaiting options nodes sizes p.at l h.waiting) (reverse-append begun (o ∷ [])) h.are_waiting)

-- its node is there
node_there : (options : RenderOptions) (w : Measure) (nodes : List RenderNode) (sizes : List Extent) (p : Place)
    (begun : List OpenValue) (o : OpenValue) (reading : Reading)
    → IsWalking options w nodes sizes p (begun ++ o ∷ []) reading → o.at < length nodes
node_there options w nodes sizes p begun o reading h =
    let l = last_begun options w nodes sizes p begun o reading h in
    omega (arith, l.waits.same_at, l.waits.before, h.here.order, h.here.within)

ends_here : (f : Fitting) (nodes : List RenderNode) (sizes : List Extent) (at end : ℕ) (around : Around)
    (v : Waiting) (waiting : List Waiting) (s : State) → end ≡ at
    → to_come f nodes sizes at v.end v.around waiting (closes f v.around (head_at nodes v.at) (extent_at sizes v.at)
    v.outer s)
    ≡ to_come f nodes sizes at end around (v ∷ waiting) s
ends_here f nodes sizes at end around v waiting s e =
    ap (λ k. to_come f nodes sizes k v.end v.around waiting (closes f v.around (head_at nodes v.at)
    (extent_at sizes v.at) v.outer s)) (sym e)
    ∙ ap (λ vs. to_come f nodes sizes end v.end v.around waiting (closes f v.around (head_at nodes v.at)
    (extent_at sizes v.at) v.outer (passed f around vs s))) (sym (nothing_here nodes at end (omega arith)))

pub left : (options : RenderOptions) (w : Measure) (nodes : List RenderNode) (sizes : List Extent) (p : Place)
    (begun : List OpenValue) (o : OpenValue) (n : RenderNode) (before trailing : Reading) → p.end ≤ p.at
    → IsWalking options w nodes sizes p (begun ++ o ∷ []) before
    → ((s outer : State) → IsPassing options before s
    → IsKept options o.around (standing (get_or nodes o.at n).head.info) o.kept outer
    → o.at ≡ length outer.fits → length outer.fits ≤ length s.fits
    → (extent_at sizes o.at).least ≤ (extent_at sizes o.at).size
    → IsPassing options trailing (closes (fitting options w) o.around (get_or nodes o.at n).head
    (extent_at sizes o.at) outer s))
    → IsWalking options w nodes sizes (record { at = p.at; end = o.end; around = o.around }) begun trailing
left options w nodes sizes p begun o n before trailing over h ends =
    let f = fitting options w in
    let x = get_or nodes o.at n in
    let l = last_begun options w nodes sizes p begun o before h in
    let v = l.open_value in
    let e : p.end ≡ p.at = omega (arith, over, h.here.order) in
    let there : o.at < length nodes = node_there options w nodes sizes p begun o before h in
    let head : head_at nodes v.at ≡ x.head = ap (head_at nodes) (sym l.waits.same_at)
    ∙ at_of nodes o.at n there in
    let kept : IsKept options o.around (standing x.head.info) o.kept v.outer
    = subst (λ a. IsKept options a (standing x.head.info) o.kept v.outer) (sym l.waits.same_around)
    (subst (λ (y : Head). IsKept options v.around (standing y.info) o.kept v.outer) head l.waits.kept) in
    let content : (extent_at sizes o.at).least ≤ (extent_at sizes o.at).size
    = subst (λ k. (extent_at sizes k).least ≤ (extent_at sizes k).size) (sym l.waits.same_at) l.waits.content in
    let fewer : length v.outer.fits ≤ length h.state.fits
    = omega (arith, l.waits.counted, l.waits.before, h.counted) in
    let new = closes f v.around (head_at nodes v.at) (extent_at sizes v.at) v.outer h.state in
    let passing : IsPassing options trailing new
    = subst (λ k. IsPassing options trailing (closes f v.around (head_at nodes v.at) (extent_at sizes k) v.outer
    h.state))
    l.waits.same_at
    (subst (λ y. IsPassing options trailing (closes f v.around y (extent_at sizes o.at) v.outer h.state)) (sym head)
    (subst (λ a. IsPassing options trailing (closes f a x.head (extent_at sizes o.at) v.outer h.state))
    l.waits.same_around
    (ends h.state v.outer h.passing kept (l.waits.same_at ∙ sym l.waits.counted) fewer content))) in
    let sound : AreSound nodes sizes w p.end (v ∷ l.others) = subst (AreSound nodes sizes w p.end) l.is h.later in
    record {
      state = new;
      waiting = l.others;
      same = h.same;
      passing = passing;
      counted = length-set h.state.fits (length v.outer.fits)
          (fits_read (standing (head_at nodes v.at).info) h.state.table) ∙ h.counted;
      here = subst (λ k. IsSound nodes sizes w k o.end) e
          (subst (IsSound nodes sizes w p.end) (sym l.waits.same_end) sound.0);
      later = subst (λ k. AreSound nodes sizes w k l.others) (sym l.waits.same_end) sound.1;
      are_waiting = l.are;
      goes = ap (λ k. to_come f nodes sizes p.at k o.around l.others new) l.waits.same_end
          ∙ (ap (λ a. to_come f nodes sizes p.at v.end a l.others new) l.waits.same_around
          ∙ (ends_here f nodes sizes p.at p.end p.around v l.others h.state e
          ∙ (ap (λ ws. to_come f nodes sizes p.at p.end p.around ws h.state) (sym l.is) ∙ h.goes)));
    }

-- ---- the beginning and the end

pub begins_all : (options : RenderOptions) (w : Measure) (nodes : List RenderNode) (sizes : List Extent)
    (around : Around) (begun : List OpenValue) (reading : Reading) → IsFlat nodes
    → sizes ≡ extents w (values_of nodes)
    → IsPassing options reading nothing_passed → around ≡ on_page → begun ≡ []
    → IsWalking options w nodes sizes (record { at = 0; end = length nodes; around = around }) begun reading
begins_all options w nodes sizes around begun reading flat sized passing page none_begun =
    let f = fitting options w in
    let same : length sizes ≡ length nodes = same_length w nodes sizes flat sized in
    record {
      state = nothing_passed;
      waiting = [];
      same = same;
      passing = passing;
      counted = refl;
      here = all_sound nodes sizes w flat same sized;
      later = tt;
      are_waiting = subst (λ l. AreWaiting options nodes sizes 0 (reverse l) []) (sym none_begun) tt;
      goes = ap (λ a. passed f a (values_of (segment nodes 0 (length nodes))) nothing_passed) page
          ∙ ap (λ v. passed f on_page v nothing_passed) (all_here nodes);
    }

none_waits : (options : RenderOptions) (nodes : List RenderNode) (sizes : List Extent) (at : ℕ)
    (waiting : List Waiting) → AreWaiting options nodes sizes at [] waiting → waiting ≡ []
none_waits options nodes sizes at [] h = refl
none_waits options nodes sizes at (v ∷ waiting) h = absurd h

pub ends_all : (options : RenderOptions) (w : Measure) (nodes : List RenderNode) (sizes : List Extent) (p : Place)
    (begun : List OpenValue) (reading : Reading) → begun ≡ [] → p.end ≤ p.at
    → IsWalking options w nodes sizes p begun reading
    → fits_seen reading.fits.items ≡ (passed (fitting options w) on_page (values_of nodes) nothing_passed).fits
ends_all options w nodes sizes p begun reading none_begun over h =
    let f = fitting options w in
    let gone : h.waiting ≡ [] = none_waits options nodes sizes p.at h.waiting
    (subst (λ l. AreWaiting options nodes sizes p.at (reverse l) h.waiting) none_begun h.are_waiting) in
    let goes : passed f p.around (values_of (segment nodes p.at p.end)) h.state
    ≡ passed f on_page (values_of nodes) nothing_passed
    = ap (λ ws. to_come f nodes sizes p.at p.end p.around ws h.state) (sym gone) ∙ h.goes in
    h.passing.fits ∙ ap (λ (s : State). s.fits)
    (ap (λ v. passed f p.around v h.state) (sym (nothing_here nodes p.at p.end over)) ∙ goes)

pub nothing_popped : {X : Type 0} (old new : List X) (count : ℕ) → count ≡ 0 → new ≡ take (count - 1) old
    → old ≡ new ++ [] → old ≡ []
nothing_popped old new count it_is taken is =
    is ∙ (append-nil new ∙ (taken ∙ ap (λ n. take (n - 1) old) it_is))
