-- Steps of a walk.
use Rattle.std.proofs.Common.{◌≡◌, ◌<◌, [], ◌∷◌, ◌++◌, ◌∙◌, Err, IfErr, IsErrAnd, List, Ok, OnOk, Result, ap}
use Rattle.std.proofs.Common.{append-nil, append_assoc, arith, length, refl, subst, sym, true, ℕ}
use Rattle.tree_forest.specs.Forest.{Forest, IsElement, IsElementKind, Kind, attributes_of, comment, doctype, document}
use Rattle.tree_forest.specs.Forest.{element, element_of, instruction, kind_at, name_of, nodes, text}
use Rattle.tree_forest.specs.Orders.{IsForest, IsIn}
use Rattle.html_lexemes.specs.declared.names.Attribute.{Attribute}
use Rattle.html_lexemes.specs.declared.names.QualName.{QualName}
use Rattle.html_render_dom.specs.Numbers.{number_of}
use Rattle.html_render_dom.specs.declared.node.Handle.{Handle}
use Rattle.tree_serializer.specs.Calls.{Call, Reply, done, finish, refused, reply_of, start}
use Rattle.tree_serializer.specs.Emitted.{IsEmitted, all, cut, further, out_of_memory}
use Rattle.tree_serializer.specs.Walks.{calls_by, calls_within, inner_of, joined}
use Rattle.tree_serializer.specs.declared.fault.SerializeFault.{SerializeFault}
use Rattle.tree_serializer.specs.declared.fault.SerializeFault.TheVariants.{Memory}
use Rattle.dom_writing.specs.Steps.{IsStep}
use Rattle.dom_writing.specs.Turns.{AreReady, IsReady, calls_of_turn, is_document, pending, visits}
use Rattle.dom_writing.specs.declared.turn.Turn.{Turn}
use Rattle.dom_writing.specs.declared.turn.Turn.TheVariants.{End}
use Rattle.dom_writing.proofs.NodeLemmas.{document_kind, inner_plain}
use Rattle.dom_writing.proofs.TurnLemmas.{pending-push, pending-visits, ready-pop, ready-push, ready-visits}

abbrev pub Law : Forest → Type 0
Law f = (n : ℕ) → calls_within (nodes f) f n
    ≡ calls_by (kind_at n f) (joined (calls_within (nodes f) f) (inner_of n f))

shorter : (c : Call) (cs : List Call) → length cs < length (c ∷ cs)
shorter c cs = omega arith

-- a call was taken, and the others are those of the turns
pub one_step : {S : Type 0} (means : S → Call → Reply → S → Type 0) (f : Forest) (s t : S) (call : Call)
    (calls : List Call) (turns : List Turn) → calls ≡ call ∷ pending f turns → AreReady f turns → means s call done t
    → IsStep means f s calls t turns
one_step means f s t call calls turns e ready m = record {
  emitted = λ reply u h. subst (λ l. IsEmitted means s l reply u) (sym e)
      (further s t call (pending f turns) reply u m h);
  ready = ready;
  falls = subst (λ l. length (pending f turns) < length l) (sym e) (shorter call (pending f turns));
}

pub leaf_ok : {S : Type 0} {A : Type 0} (means : S → Call → Reply → S → Type 0) (f : Forest) (s t : S) (call : Call)
    (calls : List Call) (turns : List Turn) (r : Result A SerializeFault) → calls ≡ call ∷ [] → AreReady f turns
    → means s call (reply_of r) t → OnOk r (IsStep means f s (calls ++ pending f turns) t turns)
leaf_ok means f s t call calls turns (Ok v) e ready m =
    one_step means f s t call (calls ++ pending f turns) turns (ap (λ l. l ++ pending f turns) e) ready m
leaf_ok means f s t call calls turns (Err fault) e ready m = tt

pub leaf_err : {S : Type 0} {A : Type 0} (means : S → Call → Reply → S → Type 0) (f : Forest) (s t : S) (call : Call)
    (calls : List Call) (turns : List Turn) (r : Result A SerializeFault) → calls ≡ call ∷ []
    → means s call (reply_of r) t
    → IfErr r (λ fault. IsEmitted means s (calls ++ pending f turns) (refused fault) t)
leaf_err means f s t call calls turns (Ok v) e m = tt
leaf_err means f s t call calls turns (Err fault) e m =
    subst (λ l. IsEmitted means s l (refused fault) t) (sym (ap (λ l. l ++ pending f turns) e))
    (cut s t call (pending f turns) fault m)

-- the calls of a node by its kind
pub node_calls : (f : Forest) (n : ℕ) (k : Kind) → Law f → k ≡ kind_at n f
    → calls_within (nodes f) f n ≡ calls_by k (joined (calls_within (nodes f) f) (inner_of n f))
node_calls f n k law e = law n ∙ ap (λ k. calls_by k (joined (calls_within (nodes f) f) (inner_of n f))) (sym e)

element_by : (k : Kind) (inner : List Call) → IsElementKind k
    → calls_by k inner ≡ start (element_of k).name (element_of k).attributes ∷ inner ++ finish (element_of k).name ∷ []
element_by (element e) inner is = refl
element_by document inner is = absurd is
element_by (doctype name public system) inner is = absurd is
element_by (text cs) inner is = absurd is
element_by (comment cs) inner is = absurd is
element_by (instruction target cs) inner is = absurd is

-- the calls of an element are its beginning, and those of the turns that are put
pub element_calls : (f : Forest) (node : Handle) (ns : List ℕ) (turns : List Turn) → Law f
    → IsElement (number_of node) f → ns ≡ inner_of (number_of node) f
    → calls_within (nodes f) f (number_of node) ++ pending f turns
    ≡ start (name_of (number_of node) f) (attributes_of (number_of node) f)
    ∷ pending f ((turns ++ End node ∷ []) ++ visits ns)
element_calls f node ns turns law is e =
    let n = number_of node in
    let inside = joined (calls_within (nodes f) f) (inner_of n f) in
    let put : pending f ((turns ++ End node ∷ []) ++ visits ns) ≡ inside ++ finish (name_of n f) ∷ pending f turns =
    pending-visits f (turns ++ End node ∷ []) ns
    ∙ (ap (λ l. joined (calls_within (nodes f) f) l ++ pending f (turns ++ End node ∷ [])) e
    ∙ ap (λ l. inside ++ l) (pending-push f turns (End node) [])) in
    ap (λ l. l ++ pending f turns) (law n ∙ element_by (kind_at n f) inside is)
    ∙ (ap (λ l. start (name_of n f) (attributes_of n f) ∷ l)
    (append_assoc inside (finish (name_of n f) ∷ []) (pending f turns) ∙ sym put))

pub element_ready : (f : Forest) (node : Handle) (ns : List ℕ) (turns : List Turn) → IsForest f
    → IsElement (number_of node) f → ns ≡ inner_of (number_of node) f → AreReady f turns
    → AreReady f ((turns ++ End node ∷ []) ++ visits ns)
element_ready f node ns turns forest is e ready =
    ready-visits f (turns ++ End node ∷ []) ns (ready-push f turns (End node) ready is)
    (λ m i. inner_plain f (number_of node) forest m (subst (IsIn m) e i))

-- a walk that goes on: what emits the calls that are left emits all
pub record IsGoing {S : Type 0} (means : S → Call → Reply → S → Type 0) (f : Forest) (first : S) (calls : List Call)
    (now : S) (turns : List Turn) : Type 0 where
  pub emitted : (reply : Reply) (u : S) → IsEmitted means now (pending f turns) reply u →
      IsEmitted means first calls reply u
  pub ready : AreReady f turns

pub going_first : {S : Type 0} (means : S → Call → Reply → S → Type 0) (f : Forest) (s : S) (turns : List Turn)
    → AreReady f turns → IsGoing means f s (pending f turns) s turns
going_first means f s turns ready = record { emitted = λ reply u h. h; ready = ready }

-- with a turn taken off
pub going_popped : {S : Type 0} (means : S → Call → Reply → S → Type 0) (f : Forest) (first now : S)
    (calls : List Call) (turns rest : List Turn) (turn : Turn) → turns ≡ rest ++ turn ∷ []
    → IsGoing means f first calls now turns → (reply : Reply) (u : S)
    → IsEmitted means now (calls_of_turn f turn ++ pending f rest) reply u → IsEmitted means first calls reply u
going_popped means f first now calls turns rest turn e going reply u h =
    going.emitted reply u (subst (λ l. IsEmitted means now l reply u)
    (sym (ap (λ l. pending f l) e ∙ pending-push f rest turn [])) h)

pub going_ready : {S : Type 0} (means : S → Call → Reply → S → Type 0) (f : Forest) (first now : S)
    (calls : List Call) (turns rest : List Turn) (turn : Turn) → turns ≡ rest ++ turn ∷ []
    → IsGoing means f first calls now turns → IsReady f turn × AreReady f rest
going_ready means f first now calls turns rest turn e going =
    ready-pop f rest turn (subst (AreReady f) e going.ready)

pub going_on : {S : Type 0} (means : S → Call → Reply → S → Type 0) (f : Forest) (first now later : S)
    (calls : List Call) (turns rest new : List Turn) (turn : Turn) → turns ≡ rest ++ turn ∷ []
    → IsGoing means f first calls now turns
    → IsStep means f now (calls_of_turn f turn ++ pending f rest) later new → IsGoing means f first calls later new
going_on means f first now later calls turns rest new turn e going step = record {
  emitted = λ reply u h. going_popped means f first now calls turns rest turn e going reply u (step.emitted reply u h);
  ready = step.ready;
}

pub going_falls : {S : Type 0} (means : S → Call → Reply → S → Type 0) (f : Forest) (now later : S)
    (turns rest new : List Turn) (turn : Turn) → turns ≡ rest ++ turn ∷ []
    → IsStep means f now (calls_of_turn f turn ++ pending f rest) later new
    → length (pending f new) < length (pending f turns)
going_falls means f now later turns rest new turn e step =
    subst (λ l. length (pending f new) < length l) (sym (ap (λ l. pending f l) e ∙ pending-push f rest turn []))
    step.falls

pub going_done : {S : Type 0} (means : S → Call → Reply → S → Type 0) (f : Forest) (first now : S)
    (calls : List Call) (turns : List Turn) → turns ≡ [] → IsGoing means f first calls now turns
    → IsEmitted means first calls done now
going_done means f first now calls turns e going =
    going.emitted done now (subst (λ l. IsEmitted means now (pending f l) done now) (sym e) (all now))

-- refusals
pub cut_err : {S : Type 0} {B : Type 0} (means : S → Call → Reply → S → Type 0) (s t : S) (call : Call)
    (calls rest : List Call) (x : SerializeFault) (q : Result B SerializeFault) → calls ≡ call ∷ rest
    → means s call (refused x) t → IsErrAnd q (λ e. e ≡ x)
    → IfErr q (λ fault. IsEmitted means s calls (refused fault) t)
cut_err means s t call calls rest x (Ok v) e m h = tt
cut_err means s t call calls rest x (Err y) e m h =
    subst (λ l. IsEmitted means s l (refused y) t) (sym e)
    (cut s t call rest y (subst (λ z. means s call (refused z) t) (sym h) m))

pub memory_err : {S : Type 0} {B : Type 0} (means : S → Call → Reply → S → Type 0) (s t : S) (call : Call)
    (calls rest : List Call) (q : Result B SerializeFault) → calls ≡ call ∷ rest → means s call done t
    → IsErrAnd q (λ e. e ≡ Memory) → IfErr q (λ fault. IsEmitted means s calls (refused fault) t)
memory_err means s t call calls rest (Ok v) e m h = tt
memory_err means s t call calls rest (Err y) e m h =
    subst (λ z. IsEmitted means s calls (refused z) t) (sym h)
    (subst (λ l. IsEmitted means s l (refused Memory) t) (sym e)
    (further s t call rest (refused Memory) t m (out_of_memory t rest)))

pub reply_err : {S : Type 0} {B : Type 0} (means : S → Call → Reply → S → Type 0) (s t : S) (calls : List Call)
    (x : SerializeFault) (q : Result B SerializeFault) → IsEmitted means s calls (refused x) t
    → IsErrAnd q (λ e. e ≡ x) → IsEmitted means s calls (reply_of q) t
reply_err means s t calls x (Ok v) emitted h = absurd h
reply_err means s t calls x (Err y) emitted h = subst (λ z. IsEmitted means s calls (refused z) t) (sym h) emitted

pub nothing_emitted : {S : Type 0} {B : Type 0} (means : S → Call → Reply → S → Type 0) (s : S) (calls : List Call)
    (q : Result B SerializeFault) → IsErrAnd q (λ e. e ≡ Memory) → IsEmitted means s calls (reply_of q) s
nothing_emitted means s calls q h = reply_err means s s calls Memory q (out_of_memory s calls) h

-- calls that are the same
pub step_of : {S : Type 0} {A : Type 0} (means : S → Call → Reply → S → Type 0) (f : Forest) (s t : S)
    (calls other : List Call) (turns : List Turn) (r : Result A SerializeFault) → other ≡ calls
    → OnOk r (IsStep means f s calls t turns) → OnOk r (IsStep means f s other t turns)
step_of means f s t calls other turns r e h =
    subst (λ l. OnOk r (IsStep means f s l t turns)) (sym e) h

pub cut_of : {S : Type 0} {A : Type 0} (means : S → Call → Reply → S → Type 0) (s t : S) (calls other : List Call)
    (r : Result A SerializeFault) → other ≡ calls
    → IfErr r (λ fault. IsEmitted means s calls (refused fault) t)
    → IfErr r (λ fault. IsEmitted means s other (refused fault) t)
cut_of means s t calls other r e h =
    subst (λ l. IfErr r (λ fault. IsEmitted means s l (refused fault) t)) (sym e) h

pub none_err : {S : Type 0} {B : Type 0} (means : S → Call → Reply → S → Type 0) (s : S) (calls : List Call)
    (q : Result B SerializeFault) → IsErrAnd q (λ e. e ≡ Memory)
    → IfErr q (λ fault. IsEmitted means s calls (refused fault) s)
none_err means s calls (Ok v) h = tt
none_err means s calls (Err y) h =
    subst (λ z. IsEmitted means s calls (refused z) s) (sym h) (out_of_memory s calls)

-- the beginning of an element
abbrev pub after_start : Forest → ℕ → List Call → List Call
after_start f n later = (joined (calls_within (nodes f) f) (inner_of n f) ++ finish (name_of n f) ∷ []) ++ later

pub begun : (f : Forest) (n : ℕ) (name : QualName) (attributes : List Attribute) (later : List Call) → Law f
    → IsElement n f → name ≡ name_of n f → attributes ≡ attributes_of n f
    → calls_within (nodes f) f n ++ later ≡ start name attributes ∷ after_start f n later
begun f n name attributes later law is same same_attributes =
    ap (λ l. l ++ later) (law n ∙ element_by (kind_at n f) (joined (calls_within (nodes f) f) (inner_of n f)) is)
    ∙ (ap (λ x. start x (attributes_of n f) ∷ after_start f n later) (sym same)
    ∙ ap (λ x. start name x ∷ after_start f n later) (sym same_attributes))

pub begin_step : {S : Type 0} (means : S → Call → Reply → S → Type 0) (f : Forest) (s t : S) (node : Handle)
    (name : QualName) (attributes : List Attribute) (ns : List ℕ) (turns pushed new : List Turn) → Law f
    → IsForest f → IsElement (number_of node) f → AreReady f turns → ns ≡ inner_of (number_of node) f
    → name ≡ name_of (number_of node) f → attributes ≡ attributes_of (number_of node) f
    → pushed ≡ turns ++ End node ∷ [] → new ≡ pushed ++ visits ns → means s (start name attributes) done t
    → IsStep means f s (calls_within (nodes f) f (number_of node) ++ pending f turns) t new
begin_step means f s t node name attributes ns turns pushed new law forest is ready e same same_attributes at now m =
    let whole : new ≡ (turns ++ End node ∷ []) ++ visits ns = now ∙ ap (λ l. l ++ visits ns) at in
    subst (IsStep means f s (calls_within (nodes f) f (number_of node) ++ pending f turns) t) (sym whole)
    (one_step means f s t (start (name_of (number_of node) f) (attributes_of (number_of node) f))
    (calls_within (nodes f) f (number_of node) ++ pending f turns) ((turns ++ End node ∷ []) ++ visits ns)
    (element_calls f node ns turns law is e) (element_ready f node ns turns forest is e ready)
    (subst (λ x. means s (start (name_of (number_of node) f) x) done t) same_attributes
    (subst (λ x. means s (start x attributes) done t) same m)))

-- where a walk begins
pub first_inner : (f : Forest) (turns old : List Turn) (ns : List ℕ) (n : ℕ) → old ≡ []
    → turns ≡ old ++ visits ns → ns ≡ inner_of n f
    → pending f turns ≡ joined (calls_within (nodes f) f) (inner_of n f)
first_inner f turns old ns n none e same =
    ap (λ l. pending f l) (e ∙ ap (λ l. l ++ visits ns) none)
    ∙ (pending-visits f [] ns
    ∙ (append-nil (joined (calls_within (nodes f) f) ns)
    ∙ ap (joined (calls_within (nodes f) f)) same))

pub first_ready : (f : Forest) (turns old : List Turn) (ns : List ℕ) (n : ℕ) → IsForest f → old ≡ []
    → turns ≡ old ++ visits ns → ns ≡ inner_of n f → AreReady f turns
first_ready f turns old ns n forest none e same =
    subst (AreReady f) (sym (e ∙ ap (λ l. l ++ visits ns) none))
    (ready-visits f [] ns tt (λ m i. inner_plain f n forest m (subst (IsIn m) same i)))

pub first_document : (f : Forest) (n : ℕ) → Law f → true ≡ is_document (kind_at n f)
    → joined (calls_within (nodes f) f) (inner_of n f) ≡ calls_within (nodes f) f n
first_document f n law is = sym (node_calls f n document law (sym (document_kind (kind_at n f) is)))
