-- Links of a page keep the width, and with room are never refused.
use Rattle.std.proofs.Common.{ℕ, Bool, true, false, List, [], ◌∷◌, ◌++◌, Some, IfSome, refl, ◌∙◌}
use Rattle.std.specs.Prelude.{All, IsSomeAnd, if◌then◌else◌}
use Rattle.std.specs.Option.{option_map}
use Rattle.std.proofs.lemmas.List.Elements.{All-nil, All-head, All-tail, All-cons, All-push}
use Rattle.text_decorators.specs.Marks.{link_start, link_end}
use Rattle.text_footnotes.specs.Targets.{last_number}
use Rattle.block_layout_laws.proofs.OptionLemmas.{mapped, chained, given_mapped, given_chained}
use Rattle.block_trait.specs.Renderers.{Marking, Sub, add_inline, begin_link, finish_link}
use Rattle.block_laws.specs.RendererLaws.{IsKeptWithin, StaysWithin, HasRoom}
use Rattle.text_block_renderer.specs.Parts.{Parts, add_part_number, begin_part_link, finish_part_link, footnote_mark}
use Rattle.text_block_renderer.specs.Parts.{numbered, with_current, with_part, with_target}
use Rattle.text_block_renderer.specs.PartLaws.{AreKeptWithin, PartsStayWithin, HaveRoom}

-- ---- a part that begins and ends

front_of : {X : Type 0} (P : X → Type 0) (xs : List X) (x : X) → All P (xs ++ x ∷ []) → All P xs
front_of P [] x all = All-nil P
front_of P (y ∷ xs) x all =
    All-cons P y xs (All-head P y (xs ++ x ∷ []) all) (front_of P xs x (All-tail P y (xs ++ x ∷ []) all))

last_of : {X : Type 0} (P : X → Type 0) (xs : List X) (x : X) → All P (xs ++ x ∷ []) → P x
last_of P [] x all = All-head P x [] all
last_of P (y ∷ xs) x all = last_of P xs x (All-tail P y (xs ++ x ∷ []) all)

pub begins : {H A : Type 0} (s : Sub H A) (p : Parts H A) → IsKeptWithin s → AreKeptWithin p
    → AreKeptWithin (with_part s p)
begins s p kept all =
    record { current = kept; below = All-push IsKeptWithin p.below p.current all.below all.current }

pub ends : {H A : Type 0} (s : Sub H A) (p : Parts H A) → AreKeptWithin (with_part s p)
    → IsKeptWithin s × AreKeptWithin p
ends s p all = (
  all.current,
  record {
    current = last_of IsKeptWithin p.below p.current all.below;
    below = front_of IsKeptWithin p.below p.current all.below;
  },
)

pub begins_with_room : {H A : Type 0} (s : Sub H A) (p : Parts H A) → HasRoom s → HaveRoom p
    → HaveRoom (with_part s p)
begins_with_room s p room all =
    record { current = room; below = All-push HasRoom p.below p.current all.below all.current }

pub ends_with_room : {H A : Type 0} (s : Sub H A) (p : Parts H A) → HaveRoom (with_part s p)
    → HasRoom s × HaveRoom p
ends_with_room s p all = (
  all.current,
  record {
    current = last_of HasRoom p.below p.current all.below;
    below = front_of HasRoom p.below p.current all.below;
  },
)

-- ---- links within the width

-- what the crate below says of renderers
pub record LinkWidths (H A : Type 0) : Type 0 where
  pub link_begun : (m : Marking H A) (target : List ℕ) (s : Sub H A) → IsKeptWithin s
      → IfSome (begin_link m (link_start target) s) (StaysWithin s)
  pub link_ended : (m : Marking H A) (s : Sub H A) → IsKeptWithin s → IfSome (finish_link m link_end s) (StaysWithin s)
  pub text_added : (m : Marking H A) (cs : List ℕ) (s : Sub H A) → IsKeptWithin s
      → IfSome (add_inline m cs s) (StaysWithin s)

stays : {H A : Type 0} (p : Parts H A) (targets : List (List ℕ)) (s : Sub H A) → AreKeptWithin p
    → StaysWithin p.current s → PartsStayWithin p (record { below = p.below; current = s; targets = targets })
stays p targets s all inside =
    record { current = inside; below = refl; kept = record { current = inside.0; below = all.below } }

pub link_stays : {H A : Type 0} (laws : LinkWidths H A) (m : Marking H A) (target : List ℕ) (p : Parts H A)
    → AreKeptWithin p → IfSome (begin_part_link m target p) (PartsStayWithin p)
link_stays laws m target p all =
    mapped (StaysWithin p.current) (PartsStayWithin p) (with_current (with_target target p))
    (begin_link m (link_start target) p.current)
    (λ s inside. stays p (p.targets ++ target ∷ []) s all inside)
    (laws.link_begun m target p.current all.current)

number_stays : {H A : Type 0} (laws : LinkWidths H A) (m : Marking H A) (n : ℕ) (s : Sub H A) → IsKeptWithin s
    → IfSome (numbered m n s) (StaysWithin s)
number_stays laws m n s kept = by_notes s.options.include_link_footnotes
  where
    by_notes : (t : Bool) → IfSome (if t then add_inline m (footnote_mark n) s else Some s) (StaysWithin s)
    by_notes true = laws.text_added m (footnote_mark n) s kept
    by_notes false = (kept, (refl, refl))

numbered_on : {H A : Type 0} (laws : LinkWidths H A) (m : Marking H A) (p q : Parts H A) → PartsStayWithin p q
    → IfSome (add_part_number m q) (PartsStayWithin p)
numbered_on laws m p q so_far =
    mapped (StaysWithin q.current) (PartsStayWithin p) (with_current q)
    (numbered m (last_number q.current.options.shared_footnotes q.targets) q.current)
    (λ s inside. record {
      current = (inside.0, (inside.1.0 ∙ so_far.current.1.0, inside.1.1 ∙ so_far.current.1.1));
      below = so_far.below;
      kept = record { current = inside.0; below = so_far.kept.below };
    })
    (number_stays laws m (last_number q.current.options.shared_footnotes q.targets) q.current so_far.current.0)

pub end_stays : {H A : Type 0} (laws : LinkWidths H A) (m : Marking H A) (p : Parts H A) → AreKeptWithin p
    → IfSome (finish_part_link m p) (PartsStayWithin p)
end_stays laws m p all =
    chained (PartsStayWithin p) (PartsStayWithin p) (add_part_number m)
    (option_map (with_current p) (finish_link m link_end p.current))
    (λ q inside. numbered_on laws m p q inside)
    (mapped (StaysWithin p.current) (PartsStayWithin p) (with_current p) (finish_link m link_end p.current)
    (λ s inside. stays p p.targets s all inside) (laws.link_ended m p.current all.current))

-- ---- links with room

pub record LinkRooms (H A : Type 0) : Type 0 where
  pub begins_link : (m : Marking H A) (target : List ℕ) (s : Sub H A) → HasRoom s
      → IsSomeAnd (begin_link m (link_start target) s) HasRoom
  pub ends_link : (m : Marking H A) (s : Sub H A) → HasRoom s → IsSomeAnd (finish_link m link_end s) HasRoom
  pub adds_text : (m : Marking H A) (cs : List ℕ) (s : Sub H A) → HasRoom s → IsSomeAnd (add_inline m cs s) HasRoom

pub link_never_refused : {H A : Type 0} (laws : LinkRooms H A) (m : Marking H A) (target : List ℕ) (p : Parts H A)
    → HaveRoom p → IsSomeAnd (begin_part_link m target p) HaveRoom
link_never_refused laws m target p all =
    given_mapped HasRoom HaveRoom (with_current (with_target target p)) (begin_link m (link_start target) p.current)
    (λ s room. record { current = room; below = all.below }) (laws.begins_link m target p.current all.current)

number_never_refused : {H A : Type 0} (laws : LinkRooms H A) (m : Marking H A) (n : ℕ) (s : Sub H A) → HasRoom s
    → IsSomeAnd (numbered m n s) HasRoom
number_never_refused laws m n s room = by_notes s.options.include_link_footnotes
  where
    by_notes : (t : Bool) → IsSomeAnd (if t then add_inline m (footnote_mark n) s else Some s) HasRoom
    by_notes true = laws.adds_text m (footnote_mark n) s room
    by_notes false = room

pub end_never_refused : {H A : Type 0} (laws : LinkRooms H A) (m : Marking H A) (p : Parts H A) → HaveRoom p
    → IsSomeAnd (finish_part_link m p) HaveRoom
end_never_refused laws m p all =
    given_chained HaveRoom HaveRoom (add_part_number m)
    (option_map (with_current p) (finish_link m link_end p.current))
    (λ q room. given_mapped HasRoom HaveRoom (with_current q)
    (numbered m (last_number q.current.options.shared_footnotes q.targets) q.current)
    (λ s more. record { current = more; below = room.below })
    (number_never_refused laws m (last_number q.current.options.shared_footnotes q.targets) q.current room.current))
    (given_mapped HasRoom HaveRoom (with_current p) (finish_link m link_end p.current)
    (λ s room. record { current = room; below = all.below }) (laws.ends_link m p.current all.current))
