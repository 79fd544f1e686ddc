-- Raised digits.
use Rattle.std.proofs.Common.{◌≡◌, ◌+◌, ◌<◌, [], ◌∷◌, ◌++◌, ◌∙◌, Bool, List, ap, arith, drop, get_or, length, map, refl}
use Rattle.std.proofs.Common.{suc, sym, take, zero, ℕ}
use Rattle.std.proofs.Math.ListN.{set}
use Rattle.std.proofs.lemmas.List.{length_push, take_more, take_all}
use Rattle.std.specs.Prelude.{Result, OnOk, Ok, Err}
use Rattle.render_values.specs.Closing.{closed_at, ended_first, ending_first, raised_node, raised_nodes, raised_second}
use Rattle.render_values.specs.Closing.{with_raised}
use Rattle.render_values.specs.declared.closing.Outcome.TheVariants.{Raised}
use Rattle.render_values.specs.declared.raising.Raised.{Raised as RaisedPart}
use Rattle.render_values.specs.declared.closing.Condition.{Condition}
use Rattle.render_values.specs.declared.node.RenderNode.{RenderNode}

map_after : (f : ℕ → ℕ) (xs : List ℕ) (x : ℕ) → map f (xs ++ x ∷ []) ≡ map f xs ++ f x ∷ []
map_after f [] x = refl
map_after f (y ∷ xs) x = ap (λ l. f y ∷ l) (map_after f xs x)

next_taken : {Y : Type 0} (all : List ℕ) (ys : List Y) (y : Y) (x : ℕ)
    → (length ys < length all) × (x ≡ get_or all (length ys) x)
    → take (length (ys ++ y ∷ [])) all ≡ take (length ys) all ++ x ∷ []
next_taken all ys y x h =
    ap (λ n. take n all) (length_push ys y) ∙ take_more all (length ys) x h.0
    ∙ ap (λ e. take (length ys) all ++ e ∷ []) (sym h.1)

pub next_raised : {Y : Type 0} (f : ℕ → ℕ) (cs : List ℕ) (ys : List Y) (y : Y) (c d : ℕ) (mid new : List ℕ)
    → (length ys < length cs) × (c ≡ get_or cs (length ys) c) → mid ≡ map f (take (length ys) cs)
    → d ≡ f c → new ≡ mid ++ d ∷ [] → new ≡ map f (take (length (ys ++ y ∷ [])) cs)
next_raised f cs ys y c d mid new turn so_far is one =
    one ∙ ap (λ e. mid ++ e ∷ []) is ∙ ap (λ front. front ++ f c ∷ []) so_far
    ∙ sym (ap (map f) (next_taken cs ys y c turn) ∙ map_after f (take (length ys) cs) c)

pub all_raised : {Y : Type 0} (f : ℕ → ℕ) (cs : List ℕ) (ys : List Y) (new : List ℕ) → length ys ≡ length cs
    → new ≡ map f (take (length ys) cs) → new ≡ map f cs
all_raised f cs ys new whole so_far = so_far ∙ ap (map f) (take_all (length ys) cs (omega (arith, whole)))

raised_is : (at : ℕ) (xs : List RenderNode) (y : RenderNode) → at < length xs
    → y ≡ get_or (take (suc at) xs) at y
    → set (take (suc at) xs) at (raised_node (raised_second (drop at xs)) y) ≡ with_raised at xs
raised_is at [] y h is = absurd (omega arith)
raised_is zero (x ∷ xs) y h is = ap (λ z. raised_node (raised_second (x ∷ xs)) z ∷ []) is
raised_is (suc at) (x ∷ xs) y h is = ap (λ l. x ∷ l) (raised_is at xs y (omega arith) is)

next_place : (at : ℕ) → at + 1 ≡ suc at
next_place at = omega arith

pub raised_by : (at : ℕ) (items seen rest cut : List RenderNode) (y z : RenderNode) (r : RaisedPart)
    → seen ≡ items → rest ≡ drop at seen → r ≡ raised_second rest → cut ≡ take (at + 1) items
    → at < length items → y ≡ get_or cut at y → z ≡ raised_node r y → set cut at z ≡ with_raised at items
raised_by at items seen rest cut y z r same trailing raised e h is made =
    let of_items : r ≡ raised_second (drop at items) =
    raised ∙ ap raised_second (trailing ∙ ap (drop at) same) in
    let short : cut ≡ take (suc at) items = e ∙ ap (λ n. take n items) (next_place at) in
    ap (λ l. set l at z) short
    ∙ (ap (set (take (suc at) items) at) (made ∙ ap (λ i. raised_node i y) of_items)
    ∙ raised_is at items y h (is ∙ ap (λ l. get_or l at y) short))

raises : (xs : List RenderNode) → raised_nodes xs ≡ ended_first Raised xs
raises [] = refl
raises (x ∷ []) = refl
raises (x ∷ y ∷ ys) = refl

pub closed_raised : {A E : Type 0} (r : Result A E) (at : ℕ) (condition : Condition) (guarded : Bool)
    (seen nodes new : List RenderNode) → seen ≡ nodes → Raised ≡ ending_first condition guarded (drop at seen)
    → OnOk r (new ≡ with_raised at nodes) → OnOk r (new ≡ closed_at at condition guarded nodes)
closed_raised (Err e) at condition guarded seen nodes new same is done = tt
closed_raised (Ok v) at condition guarded seen nodes new same is done =
    done ∙ (ap (λ l. take at nodes ++ l) (raises (drop at nodes))
    ∙ ap (λ o. take at nodes ++ ended_first o (drop at nodes))
    (is ∙ ap (λ l. ending_first condition guarded (drop at l)) same))
