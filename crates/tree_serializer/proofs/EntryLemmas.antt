-- Open entries: the list is kept with the innermost last, and seen with the innermost first.
use Rattle.std.proofs.Common.{◌≡◌, ◌==◌, [], ◌∷◌, ◌++◌, if◌then◌else◌, ◌-◌, ◌∙◌, Bool, List, Option, Some, ap}
use Rattle.std.proofs.Common.{append-nil, false, length, map, refl, reverse, sym, take, true, ℕ}
use Rattle.std.proofs.lemmas.List.{length-map, length-reverse, map-append, reverse-append}
use Rattle.html_lexemes.specs.declared.names.QualName.{QualName}
use Rattle.tree_serializer.specs.Entries.{IsClosed, IsOpened, IsWithin, entries_of, entry_of, is_silent_in, parent_in}
use Rattle.tree_serializer.specs.Writing.{Entry, entry_below, nameless}
use Rattle.tree_names.specs.ElementSets.{void_elements}
use Rattle.tree_names.specs.Sets.{is_element_of}
use Rattle.tree_serializer.specs.declared.entries.OpenEntry.{OpenEntry}

pub entries-push : (es : List OpenEntry) (e : OpenEntry) → entries_of (es ++ e ∷ []) ≡ entry_of e ∷ entries_of es
entries-push es e =
    ap reverse (map-append entry_of es (e ∷ [])) ∙ reverse-append (map entry_of es) (entry_of e ∷ [])

pub closed_one : (makes : Bool) (old new : List OpenEntry) (e : OpenEntry) → old ≡ new ++ e ∷ []
    → IsClosed makes (entries_of old) e.is_silent (entries_of new)
closed_one makes old new e h = record {
  parent = entry_of e;
  found = ap (parent_in makes) (ap entries_of h ∙ entries-push new e);
  silent = refl;
}

pub closed_none : (makes : Bool) (old new : List OpenEntry) (count : ℕ) → count ≡ 0 → new ≡ take (count - 1) old
    → old ≡ new ++ [] → makes ≡ true → IsClosed makes (entries_of old) false (entries_of new)
closed_none makes old new count none is same made =
    let gone : new ≡ [] = is ∙ ap (λ n. take (n - 1) old) none in
    let empty : old ≡ [] = same ∙ append-nil new ∙ gone in
    record {
      parent = nameless;
      found = ap (λ b. parent_in b (entries_of old)) made ∙ ap (λ l. parent_in true (entries_of l)) empty
          ∙ ap (λ l. Some (nameless, entries_of l)) (sym gone);
      silent = refl;
    }

within_some : (makes : Bool) (es : List Entry) → (length es == 0) ≡ false → IsWithin makes es es
within_some makes [] h = cc
within_some makes (e ∷ outer) h = record { parent = e; outer = outer; found = refl; entries = refl }

pub within_open : (makes : Bool) (es : List OpenEntry) → (length es == 0) ≡ false
    → IsWithin makes (entries_of es) (entries_of es)
within_open makes es h =
    within_some makes (entries_of es)
    (ap (λ n. n == 0) (length-reverse (map entry_of es) ∙ length-map es entry_of) ∙ h)

-- a push that was not refused
pub pushed : {X : Type 0} (old more new : List X) (done : Bool) → done ≡ true
    → new ≡ (if done then more else old) → new ≡ more
pushed old more new done h e = e ∙ ap (λ b. if b then more else old) h

-- an entry by its parts
entry_is : (e : Entry) (name : Option QualName) (is_silent : Bool) → e.name ≡ name → e.is_silent ≡ is_silent
    → e ≡ record { name = name; is_silent = is_silent }
entry_is e name is_silent p q =
    ap (λ (n : Option QualName). let e : Entry = record { name = n; is_silent = e.is_silent } in e) p
    ∙ ap (λ (b : Bool). let e : Entry = record { name = name; is_silent = b } in e) q

-- an element that was opened in an entry that was found
pub opened : (makes in_silence : Bool) (name : QualName) (old mid new : List OpenEntry) (e : OpenEntry)
    → IsWithin makes (entries_of old) (entries_of mid) → in_silence ≡ is_silent_in (entries_of mid)
    → e.name ≡ Some name → e.is_silent ≡ (if in_silence then true else is_element_of void_elements name)
    → new ≡ mid ++ e ∷ [] → IsOpened makes name (entries_of old) in_silence (entries_of new)
opened makes in_silence name old mid new e w silent named is h =
    let quiet : in_silence ≡ w.parent.is_silent = silent ∙ ap is_silent_in w.entries in
    let below : entry_of e ≡ entry_below w.parent name =
    entry_is (entry_of e) (Some name) (if w.parent.is_silent then true else is_element_of void_elements name) named
    (is ∙ ap (λ b. if b then true else is_element_of void_elements name) quiet) in
    record {
      parent = w.parent;
      outer = w.outer;
      found = w.found;
      silent = quiet;
      entries = ap entries_of h ∙ entries-push mid e ∙ ap (λ x. x ∷ entries_of mid) below
          ∙ ap (λ l. entry_below w.parent name ∷ l) w.entries;
    }
