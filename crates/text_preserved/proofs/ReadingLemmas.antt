-- What a pass keeps of what it reads.
use Rattle.std.proofs.Common.{◌≡◌, ◌&&◌, ◌||◌, [], ◌∷◌, ◌++◌, ◌∙◌, Bool, List, ap, drop, false, not, refl, sym, take}
use Rattle.std.proofs.Common.{true, ℕ}
use Rattle.std.specs.Prelude.{Result, Ok, Err, IfOk, OnOk, if◌then◌else◌}
use Rattle.std.proofs.lemmas.Bool.{false≢true}
use Rattle.std.proofs.lemmas.List.Sums.{fold-append}
use Rattle.text_pieces.specs.Sources.{Source, letter, fragment, piece_sources, sources_of}
use Rattle.text_preserved.specs.Preserved.{Kind, solid, white, tab, cut, nothing, kind_of, trimmed}
use Rattle.text_preserved.specs.Pass.{Pass, new_pass, finished, entered, ended_body, read_at, read_source, read_all}
use Rattle.text_preserved.specs.Trimming.{trimmed_each, StayWhole}
use Rattle.text_pieces.specs.declared.piece.Piece.{Piece}

-- ---- the width, and where lines break, stay

-- the same width and the same breaks
pub record IsFramed {S : Type 0} (old new : Pass S) : Type 0 where
  pub width : new.width ≡ old.width
  pub wraps : new.wraps ≡ old.wraps

begins_framed : {S : Type 0} (p : Pass S) (b : Bool) → IsFramed p (if b then p else entered p)
begins_framed p true = record { width = refl; wraps = refl }
begins_framed p false = record { width = refl; wraps = refl }

closed_framed : {S : Type 0} (p : Pass S) (b : Bool) → IsFramed p (if b then ended_body p else p)
closed_framed p true = record { width = refl; wraps = refl }
closed_framed p false = record { width = refl; wraps = refl }

at_framed : {S : Type 0} (k : Kind) (inside : Bool) (c : ℕ) (main further : S) (p : Pass S)
    → IsFramed p (read_at k inside c main further p)
at_framed solid inside c main further p =
    let f = begins_framed p p.begun in record { width = f.width; wraps = f.wraps }
at_framed white true c main further p =
    let f = begins_framed p p.begun in record { width = f.width; wraps = f.wraps }
at_framed white false c main further p =
    let f = closed_framed p p.begun in record { width = f.width; wraps = f.wraps }
at_framed tab inside c main further p =
    let f = closed_framed p p.begun in record { width = f.width; wraps = f.wraps }
at_framed cut inside c main further p = closed_framed p p.begun
at_framed nothing inside c main further p = record { width = refl; wraps = refl }

source_framed : {S : Type 0} (p : Pass S) (x : Source S) → IsFramed p (read_source p x)
source_framed p (letter c main further) =
    at_framed (kind_of p.width p.wraps c) (not p.wraps && p.begun) c main further p
source_framed p (fragment name) = record { width = refl; wraps = refl }

pub all_framed : {S : Type 0} (p : Pass S) (xs : List (Source S)) → IsFramed p (read_all p xs)
all_framed p [] = record { width = refl; wraps = refl }
all_framed p (x ∷ xs) =
    let here = source_framed p x in
    let trailing = all_framed (read_source p x) xs in
    record { width = trailing.width ∙ here.width; wraps = trailing.wraps ∙ here.wraps }

-- ---- what is still to be read

-- Reading the rest comes to what reading all comes to from the start.
pub more_read : {S : Type 0} (p q end : Pass S) (here rest all : List (Source S)) → all ≡ here ++ rest
    → read_all p all ≡ end → q ≡ read_all p here → read_all q rest ≡ end
more_read p q end here rest all split so_far step =
    ap (λ x. read_all x rest) step ∙ sym (fold-append read_source p here rest)
    ∙ ap (read_all p) (sym split) ∙ so_far

pub trimmed_framed : {T S : Type 0} (seen : T → S) (width other_width : ℕ) (wraps other_wraps : Bool) (piece : Piece T)
    → other_width ≡ width → other_wraps ≡ wraps
    → trimmed other_width other_wraps (piece_sources seen piece) ≡ trimmed width wraps (piece_sources seen piece)
trimmed_framed seen width other_width wraps other_wraps piece same_width same_wraps =
    ap (λ w. trimmed w other_wraps (piece_sources seen piece)) same_width
    ∙ ap (λ b. trimmed width b (piece_sources seen piece)) same_wraps

pub framed_more : {S : Type 0} (old mid new : Pass S) (xs : List (Source S)) → IsFramed old mid → new ≡ read_all mid xs
    → IsFramed old new
framed_more old mid new xs before step =
    let here = all_framed mid xs in
    record {
      width = ap (λ p. p.width) step ∙ here.width ∙ before.width;
      wraps = ap (λ p. p.wraps) step ∙ here.wraps ∙ before.wraps;
    }

-- ---- a source line

pub same_read : {S : Type 0} (p end : Pass S) (some line : List (Source S)) → some ≡ line → end ≡ read_all p some
    → end ≡ read_all p line
same_read p end some line same h = h ∙ ap (read_all p) same

pub line_read : {T S : Type 0} (seen : T → S) (p q end : Pass S) (pieces front back : List (Piece T)) (n : ℕ)
    → end ≡ read_all q (trimmed_each seen q.width q.wraps back) → q ≡ read_all p (sources_of seen front)
    → front ≡ take n pieces → back ≡ drop n pieces → StayWhole seen p.width p.wraps pieces n
    → end ≡ read_all p (trimmed p.width p.wraps (sources_of seen pieces))
line_read seen p q end pieces front back n last first front_is back_is whole =
    let framed = framed_more p p q (sources_of seen front) (record { width = refl; wraps = refl }) first in
    last ∙ ap (λ w. read_all q (trimmed_each seen w q.wraps back)) framed.width
    ∙ ap (λ b. read_all q (trimmed_each seen p.width b back)) framed.wraps
    ∙ ap (λ x. read_all x (trimmed_each seen p.width p.wraps back)) first
    ∙ sym (fold-append read_source p (sources_of seen front) (trimmed_each seen p.width p.wraps back))
    ∙ ap (λ f. read_all p (sources_of seen f ++ trimmed_each seen p.width p.wraps back)) front_is
    ∙ ap (λ b. read_all p (sources_of seen (take n pieces) ++ trimmed_each seen p.width p.wraps b)) back_is
    ∙ ap (read_all p) (sym whole.trims)

-- the pass over a whole source line
pub line_passed : {S : Type 0} (width : ℕ) (wraps : Bool) (line : List (Source S)) (start mid end : Pass S)
    → start ≡ new_pass width wraps → mid ≡ read_all start (trimmed start.width start.wraps line) → end ≡ finished mid
    → end ≡ finished (read_all (new_pass width wraps) (trimmed width wraps line))
line_passed width wraps line start mid end begun read ended =
    ended ∙ ap finished (read ∙ ap (λ p. read_all p (trimmed p.width p.wraps line)) begun)

and_false : (b : Bool) → (b && false) ≡ false
and_false true = refl
and_false false = refl

and_true : (b : Bool) → (b && true) ≡ b
and_true true = refl
and_true false = refl

pub if_ok_map : {X E : Type 0} (result : Result X E) {P Q : X → Type 0} → IfOk result P → ((x : X) → P x → Q x)
    → IfOk result Q
if_ok_map (Ok x) h f = f x h
if_ok_map (Err e) h f = tt

pub refused_is_wide : (allowed here wide : Bool) → (here && not allowed) ≡ true → here ≡ wide
    → (allowed ≡ false) × (wide ≡ true)
refused_is_wide true here wide refused same = absurd (false≢true (sym (and_false here) ∙ refused))
refused_is_wide false here wide refused same = (refl, sym same ∙ sym (and_true here) ∙ refused)

pub has_room : {X E : Type 0} (result : Result X E) (allowed here wide : Bool) → (here && not allowed) ≡ false
    → here ≡ wide → OnOk result ((allowed || not wide) ≡ true)
has_room (Ok x) true here wide room same = refl
has_room (Ok x) false here wide room same = ap not (sym same ∙ sym (and_true here) ∙ room)
has_room (Err e) allowed here wide room same = tt
