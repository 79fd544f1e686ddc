-- A loop that changes each element of a list in turn.
use Rattle.std.proofs.Common.{◌≡◌, ◌+◌, ◌<◌, ◌≤◌, [], ◌∷◌, ◌++◌, ◌∙◌, List, ap, append_assoc, arith, drop, get_or}
use Rattle.std.proofs.Common.{length, map, set, subst, sym, take, ℕ}
use Rattle.std.specs.Prelude.{All}
use Rattle.std.proofs.lemmas.List.Elements.{All-set, All-get_or}
use Rattle.std.proofs.lemmas.List.{append-nil, drop_all, drop_more, get_or-map, get_or_at, length-map, length-take-le}
use Rattle.std.proofs.lemmas.List.{map-set, map_more, set_at, take_all, take_at}

-- the first i elements are changed
pub changed_more : {X : Type 0} (change : X → X) (start now new : List X) (i : ℕ) (x y : X) → i < length start
    → now ≡ map change (take i start) ++ drop i start → x ≡ get_or now i x → y ≡ change x → new ≡ set now i y
    → new ≡ map change (take (i + 1) start) ++ drop (i + 1) start
changed_more change start now new i x y inside so_far read made set_is =
    let front = map change (take i start) in
    let here = get_or start i x in
    let rest = drop (i + 1) start in
    let long : length front ≡ i = length-map (take i start) change ∙ length-take-le i start (omega (arith, inside)) in
    let whole : now ≡ front ++ here ∷ rest = so_far ∙ ap (λ tail. front ++ tail) (drop_more start i x inside) in
    let same : x ≡ here = read ∙ ap (λ l. get_or l i x) whole ∙ get_or_at front here rest x i long in
    set_is ∙ ap (λ l. set l i y) whole ∙ set_at front here rest y i long ∙ ap (λ z. front ++ z ∷ rest)
    (made ∙ ap change same) ∙ sym (append_assoc front (change here ∷ []) rest)
    ∙ ap (λ f. f ++ rest) (sym (map_more change start i x inside))

pub all_changed : {X : Type 0} (change : X → X) (start now : List X) (i : ℕ) → length start ≤ i
    → now ≡ map change (take i start) ++ drop i start → now ≡ map change start
all_changed change start now i long so_far =
    so_far ∙ ap (λ f. map change f ++ drop i start) (take_all i start (omega (arith, long)))
    ∙ ap (λ d. map change start ++ d) (drop_all i start (omega (arith, long))) ∙ append-nil (map change start)

-- the same where the elements are seen by a view
pub views_more : {A X : Type 0} (view : A → X) (change : X → X) (first now : List A) (i : ℕ) (a b : A)
    → i < length first → length now ≡ length first
    → map view now ≡ map change (take i (map view first)) ++ drop i (map view first) → a ≡ get_or now i a
    → view b ≡ change (view (get_or now i a))
    → map view (set now i b) ≡ map change (take (i + 1) (map view first)) ++ drop (i + 1) (map view first)
views_more view change first now i a b inside same so_far read made =
    changed_more change (map view first) (map view now) (map view (set now i b)) i (view a) (view b)
    (omega (arith, inside, length-map first view)) so_far
    (ap view read ∙ sym (get_or-map view now i a (view a) (omega (arith, inside, same))))
    (made ∙ ap (λ x. change (view x)) (sym read)) (map-set view now i b)

-- the same of all, as a `Vec` has them after a loop
pub all_views : {A X : Type 0} (view : A → X) (change : X → X) (first start now : List A) (i n : ℕ) → start ≡ first
    → length start ≤ i → length now ≡ n → map view now ≡ map change (take i (map view start)) ++ drop i (map view start)
    → map view (take n (now ++ drop (length now) first)) ≡ map change (map view first)
all_views view change first start now i n same past long so_far =
    ap (map view) (take_at now (drop (length now) first) n long) ∙ all_changed change (map view start) (map view now) i
    (omega (arith, past, length-map start view)) so_far ∙ ap (λ xs. map change (map view xs)) same

-- what a change keeps of an element, the loop keeps of all
pub joined_more : {A : Type 0} (P : A → Type 0) (now : List A) (i : ℕ) (a b : A) → i < length now → a ≡ get_or now i a
    → All P now → (P (get_or now i a) → P b) → All P (set now i b)
joined_more P now i a b inside read all keeps = All-set P now i b (keeps (All-get_or P now i a inside all)) all

pub all_joined : {A : Type 0} (P : A → Type 0) (first start now : List A) (n : ℕ) → start ≡ first → length now ≡ n
    → (All P start → All P now) → All P first → All P (take n (now ++ drop (length now) first))
all_joined P first start now n same long keeps all = subst (All P) (sym (take_at now (drop (length now) first) n long))
    (keeps (subst (All P) (sym same) all))
