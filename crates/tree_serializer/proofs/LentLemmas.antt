-- A walk that is emitted to a serializer whose writer is lent.
use Rattle.std.proofs.Common.{◌≡◌, ℕ, Bool, true, List, [], ◌∷◌, Option, refl, sym, ap, subst, ◌∙◌}
use Rattle.std.specs.Prelude.{Result, Ok, Err, OnErr, OnOk}
use Rattle.tree_forest.specs.Forest.{Forest}
use Rattle.tree_serializer.specs.Calls.{Call, Reply, reply_of}
use Rattle.tree_serializer.specs.Lent.{Lent, LentMeans}
use Rattle.tree_serializer.specs.Openings.{opening_entry}
use Rattle.tree_serializer.specs.Emitted.{IsEmitted, all, cut, further, out_of_memory}
use Rattle.tree_serializer.specs.Walked.{IsWalked}
use Rattle.tree_serializer.specs.Walks.{calls_of, walk_text}
use Rattle.tree_serializer.specs.Writing.{Grows, GrowsPart, IsSame, Means, Writing}
use Rattle.tree_serializer.specs.declared.fault.SerializeFault.{SerializeFault}
use Rattle.tree_serializer.specs.declared.fault.SerializeFault.TheVariants.{Memory, NoParent, Write}
use Rattle.tree_serializer.specs.declared.options.TraversalScope.{TraversalScope}
use Rattle.tree_serializer.proofs.GrowthLemmas.{grows_none, part_of_all}
use Rattle.tree_serializer.proofs.WalkLemmas.{walk_is_written}

-- what is emitted to it is emitted to what writes, and the reference stays
pub emitted_lent : (s u : Lent) (calls : List Call) (reply : Reply) → IsEmitted LentMeans s calls reply u
    → IsEmitted Means s.writing calls reply u.writing × (u.reference ≡ s.reference)
emitted_lent s u calls reply (all _) = (all s.writing, refl)
emitted_lent s u calls reply (further _ t call rest _ _ m emitted) =
    let h = emitted_lent t u rest reply emitted in
    (further s.writing t.writing call rest reply u.writing m.0 h.0, h.1 ∙ m.1)
emitted_lent s u calls reply (cut _ _ call rest fault m) = (cut s.writing u.writing call rest fault m.0, m.1)
emitted_lent s u calls reply (out_of_memory _ _) = (out_of_memory s.writing calls, refl)

-- what was walked, by what was returned
walked_ok : {A : Type 0} (r : Result A SerializeFault) (cs : List ℕ) (s u : Writing) → IsWalked cs s (reply_of r) u
    → OnOk r (Grows cs s.contents u.contents)
walked_ok (Ok x) cs s u h = h.2
walked_ok (Err fault) cs s u h = tt

walked_part : {A : Type 0} (r : Result A SerializeFault) (cs : List ℕ) (s u : Writing)
    → IsWalked cs s (reply_of r) u → OnErr r (GrowsPart cs s.contents u.contents)
walked_part (Ok x) cs s u h = tt
walked_part (Err Write) cs s u h = h.2
walked_part (Err NoParent) cs s u h = absurd h
walked_part (Err Memory) cs s u h = h.1

walked_failed : {A : Type 0} (r : Result A SerializeFault) (cs : List ℕ) (s u : Writing)
    → IsWalked cs s (reply_of r) u → r ≡ Err Write → u.has_failed ≡ true
walked_failed (Ok x) cs s u h e = cc
walked_failed (Err Write) cs s u h e = h.1
walked_failed (Err NoParent) cs s u h e = absurd h
walked_failed (Err Memory) cs s u h e = cc

walked_kinds : {A : Type 0} (r : Result A SerializeFault) (cs : List ℕ) (s u : Writing)
    → IsWalked cs s (reply_of r) u → r ≡ Err NoParent → ⊥
walked_kinds (Ok x) cs s u h e = cc
walked_kinds (Err Write) cs s u h e = cc
walked_kinds (Err NoParent) cs s u h e = h
walked_kinds (Err Memory) cs s u h e = cc

walked_same : {A : Type 0} (r : Result A SerializeFault) (cs : List ℕ) (s u : Writing)
    → IsWalked cs s (reply_of r) u → IsSame s u
walked_same (Ok x) cs s u h = h.0
walked_same (Err Write) cs s u h = h.0
walked_same (Err NoParent) cs s u h = absurd h
walked_same (Err Memory) cs s u h = h.0

-- a walk from one open entry, and that the reference is the one that was lent
whole_walk : {A : Type 0} (s u : Lent) (r : Result A SerializeFault) (scope : TraversalScope) (n : ℕ) (f : Forest)
    → IsEmitted LentMeans s (calls_of scope n f) (reply_of r) u → s.writing.entries ≡ opening_entry scope ∷ []
    → IsWalked (walk_text s.writing.scripting scope n f) s.writing (reply_of r) u.writing
    × (s.reference ≡ u.reference)
whole_walk s u r scope n f emitted now =
    let h = emitted_lent s u (calls_of scope n f) (reply_of r) emitted in
    (walk_is_written scope n f [] s.writing u.writing (reply_of r) now h.0, sym h.1)

-- what is then said of the writer that is given back
pub whole_ok : {A W : Type 0} {s u : Lent} (contents : W → Option (List ℕ)) (r : Result A SerializeFault)
    (scope : TraversalScope) (n : ℕ) (f : Forest) (new now : W)
    → IsEmitted LentMeans s (calls_of scope n f) (reply_of r) u → s.writing.entries ≡ opening_entry scope ∷ []
    → u.writing.contents ≡ contents now → (s.reference ≡ u.reference → new ≡ now)
    → OnOk r (Grows (walk_text s.writing.scripting scope n f) s.writing.contents (contents new))
whole_ok {A} {W} {s} {u} contents r scope n f new now emitted first after back =
    let h = whole_walk s u r scope n f emitted first in
    let cs = walk_text s.writing.scripting scope n f in
    subst (λ o. OnOk r (Grows cs s.writing.contents o)) (after ∙ ap contents (sym (back h.1)))
    (walked_ok r cs s.writing u.writing h.0)

pub whole_part : {A W : Type 0} {s u : Lent} (contents : W → Option (List ℕ)) (r : Result A SerializeFault)
    (scope : TraversalScope) (n : ℕ) (f : Forest) (new now : W)
    → IsEmitted LentMeans s (calls_of scope n f) (reply_of r) u → s.writing.entries ≡ opening_entry scope ∷ []
    → u.writing.contents ≡ contents now → (s.reference ≡ u.reference → new ≡ now)
    → OnErr r (GrowsPart (walk_text s.writing.scripting scope n f) s.writing.contents (contents new))
whole_part {A} {W} {s} {u} contents r scope n f new now emitted first after back =
    let h = whole_walk s u r scope n f emitted first in
    let cs = walk_text s.writing.scripting scope n f in
    subst (λ o. OnErr r (GrowsPart cs s.writing.contents o)) (after ∙ ap contents (sym (back h.1)))
    (walked_part r cs s.writing u.writing h.0)

pub whole_failed : {A W : Type 0} {s u : Lent} (has_failed : W → Bool) (r : Result A SerializeFault)
    (scope : TraversalScope) (n : ℕ) (f : Forest) (new now : W)
    → IsEmitted LentMeans s (calls_of scope n f) (reply_of r) u → s.writing.entries ≡ opening_entry scope ∷ []
    → u.writing.has_failed ≡ has_failed now → (s.reference ≡ u.reference → new ≡ now)
    → r ≡ Err Write → has_failed new ≡ true
whole_failed {A} {W} {s} {u} has_failed r scope n f new now emitted first after back e =
    let h = whole_walk s u r scope n f emitted first in
    let cs = walk_text s.writing.scripting scope n f in
    sym (after ∙ ap has_failed (sym (back h.1))) ∙ walked_failed r cs s.writing u.writing h.0 e

pub whole_kinds : {A : Type 0} {s u : Lent} (r : Result A SerializeFault) (scope : TraversalScope) (n : ℕ) (f : Forest)
    → IsEmitted LentMeans s (calls_of scope n f) (reply_of r) u → s.writing.entries ≡ opening_entry scope ∷ []
    → r ≡ Err NoParent → ⊥
whole_kinds {A} {s} {u} r scope n f emitted first =
    walked_kinds r (walk_text s.writing.scripting scope n f) s.writing u.writing
    (whole_walk s u r scope n f emitted first).0

pub whole_stays : {A W : Type 0} {s u : Lent} (has_failed : W → Bool) (r : Result A SerializeFault)
    (scope : TraversalScope) (n : ℕ) (f : Forest) (new now : W)
    → IsEmitted LentMeans s (calls_of scope n f) (reply_of r) u → s.writing.entries ≡ opening_entry scope ∷ []
    → u.writing.has_failed ≡ has_failed now → (s.reference ≡ u.reference → new ≡ now)
    → s.writing.has_failed ≡ true → has_failed new ≡ true
whole_stays {A} {W} {s} {u} has_failed r scope n f new now emitted first after back e =
    let h = whole_walk s u r scope n f emitted first in
    let cs = walk_text s.writing.scripting scope n f in
    sym (after ∙ ap has_failed (sym (back h.1))) ∙ (walked_same r cs s.writing u.writing h.0).stays e

-- nothing is a beginning of any text
pub part_of_none : (cs : List ℕ) (a : Option (List ℕ)) → GrowsPart cs a a
part_of_none cs a = part_of_all [] cs (grows_none a)
