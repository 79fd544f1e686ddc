use Rattle.std.proofs.Common.{◌≡◌, sym, ap, ◌∙◌, refl, subst, drop, chars, slice_get, string_bytes, length, IsUtf8}
use Rattle.std.proofs.lemmas.Str.{IsUtf8-string_bytes, IsUtf8-drop, chars-append}
use Rattle.html_lexemes.proofs.QueueLemmas.{past_run}
use Rattle.html_lexemes.proofs.first_text.FirstText.take_run.Goals as goal

pub returns-clause-ok : goal.returns-clause-ok
returns-clause-ok c =
    let bs = string_bytes c.self.inside.text in
    let start = c.self.inside.start in
    let rest = c.split_at.result.1.now in
    let front = c.run_outside-front.result.now in
    let here : rest ≡ drop start bs = c.split_at.ensures.back ∙ ap (drop start) c.as_str.ensures.value in
    let is_text : IsUtf8 rest =
    subst IsUtf8 (sym here) (IsUtf8-drop bs start (IsUtf8-string_bytes c.self.inside.text) c.self.invariant) in
    let past =
    past_run bs rest front start
    (length front) is_text here c.run_outside-front.ensures.front c.run_outside-front.ensures.boundary refl
    in
    record {
      cs = chars front;
      text = sym (past ∙ c.self.view_is);
      appended =
          ap chars c.in_ok-push_str.ensures.bytes ∙ chars-append (string_bytes c.args.run.now) front
          (IsUtf8-string_bytes c.args.run.now);
      free = c.run_outside-front.ensures.free;
      some = λ first is outside.
          c.run_outside-front.ensures.some first
          (ap (λ l. slice_get (chars l) 0) here ∙ ap (λ l. slice_get l 0) c.self.view_is ∙ is) outside;
      counts = c.count_of.ensures;
    }
