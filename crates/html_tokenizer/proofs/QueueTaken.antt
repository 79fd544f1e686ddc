-- Characters that were taken from a queue.
use Rattle.std.proofs.Common.{◌≡◌, ℕ, Bool, true, false, List, [], ◌∷◌, ◌++◌, Result, Ok, Err, refl, sym, ◌∙◌, subst}
use Rattle.html_lexemes.specs.Queue.{Queue, Takes}
use Rattle.html_tokenizer.specs.Completes.{TakesEach, TakesSome}

pub each_more : (old : Queue) (cs : List ℕ) (now after : Queue) (c : ℕ) → TakesEach old cs now →
    Takes now (c ∷ []) after → TakesEach old (cs ++ c ∷ []) after
each_more old [] now after c e t = (after, (subst (λ q. Takes q (c ∷ []) after) e t, refl))
each_more old (d ∷ cs) now after c e t = (e.0, (e.1.0, each_more e.0 cs now after c e.1.1 t))

pub taken_more : (old now after : Queue) (c : ℕ) → TakesSome old now → Takes now (c ∷ []) after → TakesSome old after
taken_more old now after c s t =
    record { taken = s.taken ++ c ∷ []; takes = each_more old s.taken now after c s.takes t }

pub each_on : (old : Queue) (cs : List ℕ) (now : Queue) (ds : List ℕ) (after : Queue) → TakesEach old cs now →
    TakesEach now ds after → TakesEach old (cs ++ ds) after
each_on old [] now ds after e t = subst (λ q. TakesEach q ds after) e t
each_on old (c ∷ cs) now ds after e t = (e.0, (e.1.0, each_on e.0 cs now ds after e.1.1 t))

pub taken_on : (old now after : Queue) → TakesSome old now → TakesSome now after → TakesSome old after
taken_on old now after s t =
    record { taken = s.taken ++ t.taken; takes = each_on old s.taken now t.taken after s.takes t.takes }

-- a call that refuses where something fails, and did not refuse
pub never_failed : {T E : Type 0} (fails : Bool) (result : Result T E) (fault : E) (value : T) →
    (fails ≡ true → result ≡ Err fault) → result ≡ Ok value → fails ≡ false
never_failed true result fault value f r = absurd (let e : Err fault ≡ Ok value = sym (f refl) ∙ r in cc)
never_failed false result fault value f r = refl
