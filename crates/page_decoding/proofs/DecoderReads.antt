-- What a loop over bytes has read: steps, and how one reading follows another.
use Rattle.std.proofs.Common.{◌≡◌, ◌+◌, ◌<◌, ◌≤◌, [], ◌∷◌, ◌++◌, ◌∙◌, IsTrue, IsUtf8, List, None, Option, Some, ap}
use Rattle.std.proofs.Common.{append-nil, append_assoc, arith, drop, drop-drop, length, refl, subst, sym, take}
use Rattle.std.proofs.Common.{take-append-drop, take_all, ℕ}
use Rattle.std.specs.Char.{encode_utf8}
use Rattle.std.specs.Str.{chars, IsValidUpTo, IsErrorLen}
use Rattle.std.specs.Str.Lossy.{utf8_error_len}
use Rattle.std.proofs.lemmas.List.{drop_all, take-take, length-take-le, drop-append-le}
use Rattle.std.proofs.Math.Seq.{drop-append-add}
use Rattle.std.proofs.lemmas.Str.{chars-nil, chars-append}
use Rattle.bstr.proofs.lemmas.UnicodeLemmas.{none_after_valid}
use Rattle.page_decoding.specs.ReplacedText.{replacement, replaced_text, is_unfinished}
use Rattle.page_decoding.proofs.DecoderText.{replaced_text-fault, replaced_text-front, replaced_text-nil}
use Rattle.page_decoding.proofs.DecoderText.{replaced_text-unfinished, unfinished-ends}

-- whatever follows, the old text and the bytes come to the new text and the bytes left
pub record HasRead (old bytes new left : List ℕ) : Type 0 where
  pub same : (rest : List ℕ) → chars old ++ replaced_text (bytes ++ rest) ≡ chars new ++ replaced_text (left ++ rest)

pub HasRead-none : (old bytes : List ℕ) → HasRead old bytes old bytes
HasRead-none old bytes = record { same = λ rest. refl }

pub HasRead-then : (old bytes new left newer later : List ℕ) → HasRead old bytes new left →
    HasRead new left newer later → HasRead old bytes newer later
HasRead-then old bytes new left newer later first second = record { same = λ rest. first.same rest ∙ second.same rest }

pub HasRead-run : (new run later : List ℕ) → IsUtf8 new → IsUtf8 run → HasRead new (run ++ later) (new ++ run) later
HasRead-run new run later text front = record {
  same = λ rest.
      ap (λ t. chars new ++ replaced_text t) (append_assoc run later rest) ∙ ap (λ t. chars new ++ t)
      (replaced_text-front run (later ++ rest) front)
      ∙ sym (append_assoc (chars new) (chars run) (replaced_text (later ++ rest)))
      ∙ ap (λ t. t ++ replaced_text (later ++ rest)) (sym (chars-append new run text));
}

chars-replacement : chars (encode_utf8 replacement) ≡ replacement ∷ []
unfolding chars encode_utf8
chars-replacement = refl

pub HasRead-fault : (bytes new : List ℕ) (n k : ℕ) → IsUtf8 new → IsValidUpTo bytes n →
    utf8_error_len (drop n bytes) ≡ Some k
    → HasRead new (drop n bytes) (new ++ encode_utf8 replacement) (drop (n + k) bytes)
HasRead-fault bytes new n k text valid fault = record {
  same = λ rest.
      ap (λ t. chars new ++ t) (replaced_text-fault (drop n bytes) rest k (none_after_valid bytes n valid) fault)
      ∙ ap (λ t. chars new ++ (t ++ replaced_text (drop k (drop n bytes) ++ rest))) (sym chars-replacement)
      ∙ sym (append_assoc (chars new) (chars (encode_utf8 replacement)) (replaced_text (drop k (drop n bytes) ++ rest)))
      ∙ ap (λ t. t ++ replaced_text (drop k (drop n bytes) ++ rest))
      (sym (chars-append new (encode_utf8 replacement) text))
      ∙ ap (λ t. chars (new ++ encode_utf8 replacement) ++ replaced_text (t ++ rest)) (drop-drop k n bytes);
}

-- ---- one turn of the loop: the run in front, and the fault after it

-- what lies after the run in front of what is left
past_run : (bytes left run : List ℕ) (taken v : ℕ) → left ≡ drop taken bytes → IsValidUpTo left v → run ≡ take v left →
    drop v left ≡ drop (taken + length run) bytes
past_run bytes left run taken v left_is valid run_is =
    let len : length run ≡ v = ap length run_is ∙ length-take-le v left (omega (arith, valid.short)) in
    ap (drop v) left_is ∙ drop-drop v taken bytes ∙ ap (λ k. drop (taken + k) bytes) (sym len)

pub HasRead-valid_run : (old bytes new left run newer : List ℕ) (taken v : ℕ) →
    HasRead old bytes new (drop taken bytes) → IsUtf8 new → left ≡ drop taken bytes
    → IsValidUpTo left v → run ≡ take v left → newer ≡ new ++ run →
    HasRead old bytes newer (drop (taken + length run) bytes)
HasRead-valid_run old bytes new left run newer taken v before text left_is valid run_is newer_is =
    let parts : drop taken bytes ≡ run ++ drop v left =
    sym left_is ∙ sym (take-append-drop v left) ∙ ap (λ t. t ++ drop v left) (sym run_is) in
    let front = subst IsUtf8 (sym run_is) valid.front in
    let read = HasRead-run new run (drop v left) text front in
    let goal =
    HasRead-then old bytes new (run ++ drop v left) (new ++ run) (drop v left)
    (subst (HasRead old bytes new) parts before) read in
    subst (λ t. HasRead old bytes t (drop (taken + length run) bytes)) (sym newer_is)
    (subst (HasRead old bytes (new ++ run)) (past_run bytes left run taken v left_is valid run_is) goal)

pub HasRead-one_fault : (old bytes new left run newer : List ℕ) (taken v k : ℕ) →
    HasRead old bytes new (drop (taken + length run) bytes) → IsUtf8 new
    → left ≡ drop taken bytes → IsValidUpTo left v → run ≡ take v left → utf8_error_len (drop v left) ≡ Some k →
    newer ≡ new ++ encode_utf8 replacement
    → HasRead old bytes newer (drop (taken + length run + k) bytes)
HasRead-one_fault old bytes new left run newer taken v k before text left_is valid run_is fault newer_is =
    let here = past_run bytes left run taken v left_is valid run_is in
    let there : drop (v + k) left ≡ drop (taken + length run + k) bytes =
    sym (drop-drop k v left) ∙ ap (drop k) here ∙ drop-drop k (taken + length run) bytes in
    let read = HasRead-fault left new v k text valid fault in
    let goal =
    HasRead-then old bytes new (drop v left) (new ++ encode_utf8 replacement) (drop (v + k) left)
    (subst (HasRead old bytes new) (sym here) before) read in
    subst (λ t. HasRead old bytes t (drop (taken + length run + k) bytes)) (sym newer_is)
    (subst (HasRead old bytes (new ++ encode_utf8 replacement)) there goal)

pub HasRead-to_end : (old bytes new left run newer : List ℕ) (taken : ℕ) → HasRead old bytes new (drop taken bytes) →
    IsUtf8 new → left ≡ drop taken bytes
    → IsUtf8 left → run ≡ left → newer ≡ new ++ run → HasRead old bytes newer (drop (length bytes) bytes)
HasRead-to_end old bytes new left run newer taken before text left_is front run_is newer_is =
    let whole : run ++ [] ≡ drop taken bytes = append-nil run ∙ run_is ∙ left_is in
    let goal = HasRead-then old bytes new (run ++ []) (new ++ run) [] (subst (HasRead old bytes new) (sym whole) before)
    (HasRead-run new run [] text (subst IsUtf8 (sym run_is) front)) in
    subst (λ t. HasRead old bytes t (drop (length bytes) bytes)) (sym newer_is)
    (subst (HasRead old bytes (new ++ run)) (sym (drop_all (length bytes) bytes (omega arith))) goal)

pub within-fault : (left : List ℕ) (v k : ℕ) (e : Option ℕ) → e ≡ Some k → IsErrorLen left v e → v + k ≤ length left
within-fault left v k None is bound = absurd cc
within-fault left v k (Some j) is bound = let same : j ≡ k = cc in omega arith

pub unfinished-past_run : (bytes left run : List ℕ) (taken v : ℕ) → left ≡ drop taken bytes → IsValidUpTo left v →
    run ≡ take v left
    → utf8_error_len (drop v left) ≡ None → IsTrue (is_unfinished (drop (taken + length run) bytes))
unfinished-past_run bytes left run taken v left_is valid run_is ends =
    subst (λ t. IsTrue (is_unfinished t)) (past_run bytes left run taken v left_is valid run_is)
    (unfinished-ends (drop v left) (none_after_valid left v valid) ends)

-- ---- the bytes held back, joined with a piece

-- what is held, written over all of the buffer, and the piece's first bytes after it
pub joined-is : (held once twice first : List ℕ) (n : ℕ) → n ≤ length held → take (0 + length held) once ≡ held
    → take (n + length first) twice ≡ take n once ++ first → take (n + length first) twice ≡ take n held ++ first
joined-is held once twice first n within once_is twice_is =
    let first_n : take n once ≡ take n held =
    sym (take-take n (length held) once within) ∙ ap (take n) (ap (λ k. take k once) (omega arith) ∙ once_is) in
    twice_is ∙ ap (λ t. t ++ first) first_n

-- the seam ends in the bytes left: there is no more to the piece
pub HasRead-short : (old new held piece first seam left kept : List ℕ) (taken m : ℕ) →
    HasRead old seam new (drop taken seam) → seam ≡ held ++ first
    → first ≡ take m piece → length piece ≤ m → left ≡ drop taken seam → kept ≡ left →
    HasRead old (held ++ piece) new kept
HasRead-short old new held piece first seam left kept taken m read seam_is first_is all left_is kept_is =
    subst (HasRead old (held ++ piece) new) (sym left_is ∙ sym kept_is)
    (subst (λ t. HasRead old t new (drop taken seam))
    (seam_is ∙ ap (λ t. held ++ t) (first_is ∙ take_all m piece all)) read)

-- the seam is read past what was held: the piece goes on
pub HasRead-long : (old new newer held piece first seam left kept : List ℕ) (taken m k : ℕ) →
    HasRead old seam new (drop taken seam) → seam ≡ held ++ first
    → first ≡ take m piece → m ≤ length piece → taken ≡ length held + k → k ≤ length first →
    HasRead new (drop k piece) newer left → kept ≡ left
    → HasRead old (held ++ piece) newer kept
HasRead-long old new newer held piece first seam left kept taken m k read seam_is first_is within taken_is inside later
    kept_is =
    let len : length first ≡ m = ap length first_is ∙ length-take-le m piece within in
    let parts : piece ≡ first ++ drop m piece =
    sym (take-append-drop m piece) ∙ ap (λ t. t ++ drop m piece) (sym first_is) in
    let rest_of_seam : drop taken seam ≡ drop k first =
    ap (λ n. drop n seam) taken_is ∙ ap (drop (length held + k)) seam_is ∙ drop-append-add held first k in
    let rest_of_piece : drop k piece ≡ drop k first ++ drop m piece =
    ap (drop k) parts ∙ drop-append-le k first (drop m piece) inside in
    subst (HasRead old (held ++ piece) newer) (sym kept_is)
    (record {
      same = λ rest.
          let more = drop m piece ++ rest in
          let front : (held ++ piece) ++ rest ≡ seam ++ more =
          ap (λ t. (held ++ t) ++ rest) parts ∙ ap (λ t. t ++ rest) (sym (append_assoc held first (drop m piece)))
          ∙ append_assoc (held ++ first) (drop m piece) rest ∙ ap (λ t. t ++ more) (sym seam_is) in
          let back : drop taken seam ++ more ≡ drop k piece ++ rest =
          ap (λ t. t ++ more) rest_of_seam ∙ sym (append_assoc (drop k first) (drop m piece) rest) ∙
          ap (λ t. t ++ rest) (sym rest_of_piece) in
          ap (λ t. chars old ++ replaced_text t) front ∙ read.same more ∙ ap (λ t. chars new ++ replaced_text t) back ∙
          later.same rest;
    })

-- ---- pieces in turn

pub HasRead-piece : (joined text held piece part kept : List ℕ) → HasRead [] joined text held
    → ((rest : List ℕ) → replaced_text (held ++ piece ++ rest) ≡ chars part ++ replaced_text (kept ++ rest)) →
    IsUtf8 text → HasRead [] (joined ++ piece) (text ++ part) kept
HasRead-piece joined text held piece part kept before pushed is_text = record {
  same = λ rest.
      ap (λ t. chars [] ++ replaced_text t) (append_assoc joined piece rest) ∙ before.same (piece ++ rest)
      ∙ ap (λ t. chars text ++ replaced_text t) (sym (append_assoc held piece rest)) ∙
      ap (λ t. chars text ++ t) (pushed rest)
      ∙ sym (append_assoc (chars text) (chars part) (replaced_text (kept ++ rest)))
      ∙ ap (λ t. t ++ replaced_text (kept ++ rest)) (sym (chars-append text part is_text));
}

pub chars-last : (joined text held last : List ℕ) → HasRead [] joined text held → chars last ≡ replaced_text held →
    IsUtf8 text → chars (text ++ last) ≡ replaced_text joined
chars-last joined text held last before last_is is_text =
    chars-append text last is_text ∙ ap (λ t. chars text ++ t) (last_is ∙ ap replaced_text (sym (append-nil held))) ∙
    sym (before.same [])
    ∙ ap (λ t. t ++ replaced_text (joined ++ [])) chars-nil ∙ ap replaced_text (append-nil joined)

-- ---- the end of the bytes

pub chars-held : (held text new : List ℕ) → text ≡ [] → new ≡ text ++ encode_utf8 replacement →
    IsTrue (is_unfinished held) → 0 < length held → chars new ≡ replaced_text held
chars-held held text new none new_is ends some =
    ap chars (new_is ∙ ap (λ t. t ++ encode_utf8 replacement) none) ∙ chars-replacement ∙
    sym (replaced_text-unfinished held ends some)

pub chars-nothing : (held text : List ℕ) → text ≡ [] → length held ≡ 0 → chars text ≡ replaced_text held
chars-nothing [] text none empty = ap chars none ∙ chars-nil ∙ sym replaced_text-nil
chars-nothing (b ∷ held) text none empty = absurd (omega arith)
