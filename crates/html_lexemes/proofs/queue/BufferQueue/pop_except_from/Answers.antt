use Rattle.std.proofs.Common.{◌≡◌, ◌<◌, ◌++◌, ◌∙◌, IsTrue, ap, chars, false, length, slice_get, string_bytes, subst}
use Rattle.std.proofs.Common.{sym}
use Rattle.std.proofs.lemmas.Str.{chars-nil}
use Rattle.html_lexemes.specs.Queue.{Queue, is_free_of, is_in}
use Rattle.html_lexemes.proofs.RunLemmas.{is_in-any}
use Rattle.html_lexemes.proofs.WaitingLemmas.{Takes-run, first_of_first}
use Rattle.html_lexemes.proofs.queue.BufferQueue.pop_except_from.Goals as goal

pub returns-clause-ok : goal.returns-clause-ok
returns-clause-ok c =
    let set = c.args.set.now in
    let text = ap (λ (q : Queue). q.text) c.self.view_is in
    let taken = c.in_ok-count.ensures.ok in
    let run : taken.cs ≡ chars (string_bytes c.take_run.new.run) =
    sym (taken.appended ∙ ap (λ l. chars l ++ taken.cs) c.new-run.ensures.bytes ∙ ap (λ l. l ++ taken.cs) chars-nil) in
    let first =
    first_of_first _ _ c.self.invariant ∙ ap (λ l. slice_get l 0) text ∙ sym c.peek.ensures ∙ c.in-Some.is in
    let outside : is_in set c.in-Some.first ≡ false =
    sym (is_in-any set c.in-Some.first) ∙ sym c.contains.ensures.value ∙ c.if-contains.false in (
      Takes-run _ _ _ _ _ _ _ _ _ _ text (ap (λ (q : Queue). q.taken) c.self.view_is) taken.text run
          c.go_on.ensures.same taken.counts c.saturating_add-self-inside.ensures,
      subst (λ l. 0 < length l) run (taken.some c.in-Some.first first outside),
      subst (λ l. IsTrue (is_free_of set l)) run taken.free,
    )
