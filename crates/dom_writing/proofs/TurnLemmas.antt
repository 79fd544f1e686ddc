-- Turns that are put before others.
use Rattle.std.proofs.Common.{◌≡◌, [], ◌∷◌, ◌++◌, ◌∙◌, ◌-◌, List, ap, append-nil, append_assoc, inl, inr, refl, subst}
use Rattle.std.proofs.Common.{sym, take, ℕ}
use Rattle.tree_forest.specs.Forest.{Forest, nodes}
use Rattle.tree_forest.specs.Orders.{IsDocument, IsIn}
use Rattle.html_render_dom.specs.Numbers.{handle_of, number_of}
use Rattle.html_render_dom.specs.declared.node.Handle.{Handle}
use Rattle.tree_serializer.specs.Calls.{Call}
use Rattle.tree_serializer.specs.Walks.{calls_within, joined}
use Rattle.dom_writing.specs.Turns.{AreReady, IsReady, calls_of_turn, pending, pending_before, visits}
use Rattle.dom_writing.specs.declared.turn.Turn.{Turn}
use Rattle.dom_writing.specs.declared.turn.Turn.TheVariants.{Row, Visit}

pub pending-push : (f : Forest) (ts : List Turn) (t : Turn) (later : List Call)
    → pending_before f (ts ++ t ∷ []) later ≡ calls_of_turn f t ++ pending_before f ts later
pending-push f [] t later = refl
pending-push f (x ∷ ts) t later = pending-push f ts t (calls_of_turn f x ++ later)

pub pending-visits : (f : Forest) (ts : List Turn) (ns : List ℕ)
    → pending f (ts ++ visits ns) ≡ joined (calls_within (nodes f) f) ns ++ pending f ts
pending-visits f ts [] = ap (λ l. pending f l) (append-nil ts)
pending-visits f ts (n ∷ ns) = pending-push f ts (Row (handle_of n) ns) []

pub ready-push : (f : Forest) (ts : List Turn) (t : Turn) → AreReady f ts → IsReady f t → AreReady f (ts ++ t ∷ [])
ready-push f [] t h r = (r, tt)
ready-push f (x ∷ ts) t h r = (h.0, ready-push f ts t h.1 r)

pub ready-pop : (f : Forest) (ts : List Turn) (t : Turn) → AreReady f (ts ++ t ∷ []) → IsReady f t × AreReady f ts
ready-pop f [] t h = (h.0, tt)
ready-pop f (x ∷ ts) t h = let r = ready-pop f ts t h.1 in (r.0, (h.0, r.1))

pub ready-visits : (f : Forest) (ts : List Turn) (ns : List ℕ) → AreReady f ts
    → ((n : ℕ) → IsIn n ns → ¬ (IsDocument n f)) → AreReady f (ts ++ visits ns)
ready-visits f ts [] h plain = subst (AreReady f) (sym (append-nil ts)) h
ready-visits f ts (n ∷ ns) h plain = ready-push f ts (Row (handle_of n) ns) h plain

-- the first of some nodes, with the others after it
pub visits-put : (ts new : List Turn) (ns others : List ℕ) (n : Handle) → ns ≡ number_of n ∷ others
    → new ≡ ts ++ Row n others ∷ [] → new ≡ ts ++ visits ns
visits-put ts new ns others n e put = put ∙ ap (λ l. ts ++ visits l) (sym e)

pub visits-none : (ts : List Turn) (ns : List ℕ) → ns ≡ [] → ts ≡ ts ++ visits ns
visits-none ts ns e = sym (append-nil ts) ∙ ap (λ l. ts ++ visits l) (sym e)

-- a node is emitted before those after it
pub row-calls : (f : Forest) (ts put : List Turn) (n : Handle) (others : List ℕ) → put ≡ ts ++ visits others
    → calls_of_turn f (Row n others) ++ pending f ts ≡ calls_of_turn f (Visit n) ++ pending f put
row-calls f ts put n others e =
    append_assoc (calls_of_turn f (Visit n)) (joined (calls_within (nodes f) f) others) (pending f ts)
    ∙ ap (λ l. calls_of_turn f (Visit n) ++ l) (sym (ap (pending f) e ∙ pending-visits f ts others))

pub row-ready : (f : Forest) (ts put : List Turn) (n : Handle) (others : List ℕ) → put ≡ ts ++ visits others
    → IsReady f (Row n others) → AreReady f ts → IsReady f (Visit n) × AreReady f put
row-ready f ts put n others e ready h =
    (ready (number_of n) (inl refl), subst (AreReady f) (sym e) (ready-visits f ts others h (λ m i. ready m (inr i))))

-- nothing was left to be popped
pub none_popped : (old new : List Turn) (count : ℕ) → count ≡ 0 → new ≡ take (count - 1) old → old ≡ new ++ []
    → old ≡ []
none_popped old new count none is same = same ∙ (append-nil new ∙ (is ∙ ap (λ n. take (n - 1) old) none))
