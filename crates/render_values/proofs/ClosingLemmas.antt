-- Values that end.
use Rattle.std.proofs.Common.{◌≡◌, ◌+◌, ◌<◌, [], ◌∷◌, ◌++◌, ◌∙◌, Bool, List, ap, append-nil, arith, drop, get_or}
use Rattle.std.proofs.Common.{length, refl, suc, sym, take, zero, ℕ}
use Rattle.std.proofs.Math.ListN.{set}
use Rattle.render_values.specs.Arena.{IsFlat, flat, values_of}
use Rattle.render_values.specs.Closing.{closed_at, ended_first, ending_first, fragment_alone, held, holding}
use Rattle.render_values.specs.Closing.{with_fragment}
use Rattle.render_values.specs.Values.{count}
use Rattle.render_values.specs.declared.closing.Outcome.TheVariants.{Stays}
use Rattle.render_values.specs.declared.closing.Condition.{Condition}
use Rattle.render_values.specs.declared.node.RenderNode.{RenderNode}
use Rattle.render_values.proofs.ArenaLemmas.{flat_drop, flat_rest, length_flat}

counted : (xs : List RenderNode) → IsFlat xs → count (values_of xs) ≡ length xs
counted xs h = sym (length_flat (values_of xs)) ∙ ap length h

pub stays_is : (xs : List RenderNode) → IsFlat xs → ended_first Stays xs ≡ holding xs
stays_is [] h = refl
stays_is (x ∷ xs) h =
    let f = flat_rest x xs h in
    ap (λ n. record { head = x.head; below = n } ∷ flat (values_of xs) ++ []) (counted xs f)
    ∙ ap (λ l. record { head = x.head; below = length xs } ∷ l) (append-nil (flat (values_of xs)) ∙ f)

pub held_is : (at : ℕ) (xs : List RenderNode) (y : RenderNode) (below : ℕ) → below + at + 1 ≡ length xs
    → y ≡ get_or xs at y → set xs at (record { head = y.head; below = below }) ≡ held at xs
held_is at [] y below e is = absurd (omega arith)
held_is zero (x ∷ xs) y below e is =
    let size : below ≡ length xs = omega arith in
    ap (λ (z : RenderNode). record { head = z.head; below = below } ∷ xs) is
    ∙ ap (λ n. record { head = x.head; below = n } ∷ xs) size
held_is (suc at) (x ∷ xs) y below e is = ap (λ l. x ∷ l) (held_is at xs y below (omega arith) is)

pub fragment_is : (at : ℕ) (xs : List RenderNode) (y : RenderNode) → at < length xs
    → y ≡ get_or (take (suc at) xs) at y → set (take (suc at) xs) at (fragment_alone y) ≡ with_fragment at xs
fragment_is at [] y h is = absurd (omega arith)
fragment_is zero (x ∷ xs) y h is = ap (λ z. fragment_alone z ∷ []) is
fragment_is (suc at) (x ∷ xs) y h is = ap (λ l. x ∷ l) (fragment_is at xs y (omega arith) is)

next_place : (at : ℕ) → at + 1 ≡ suc at
next_place at = omega arith

pub fragment_by : (at : ℕ) (items cut : List RenderNode) (y z : RenderNode) → cut ≡ take (at + 1) items
    → at < length items → y ≡ get_or cut at y → z ≡ fragment_alone y → set cut at z ≡ with_fragment at items
fragment_by at items cut y z e h is made =
    let same : cut ≡ take (suc at) items = e ∙ ap (λ n. take n items) (next_place at) in
    ap (λ l. set l at z) same
    ∙ (ap (set (take (suc at) items) at) made
    ∙ fragment_is at items y h (is ∙ ap (λ l. get_or l at y) same))

pub closed_stays : (at : ℕ) (condition : Condition) (guarded : Bool) (seen nodes : List RenderNode) → seen ≡ nodes
    → IsFlat nodes → Stays ≡ ending_first condition guarded (drop at seen)
    → held at nodes ≡ closed_at at condition guarded nodes
closed_stays at condition guarded seen nodes e h is =
    let stays : Stays ≡ ending_first condition guarded (drop at nodes) =
    is ∙ ap (λ l. ending_first condition guarded (drop at l)) e in
    ap (λ l. take at nodes ++ l) (sym (stays_is (drop at nodes) (flat_drop at nodes h)))
    ∙ ap (λ o. take at nodes ++ ended_first o (drop at nodes)) stays
