-- What was emitted before others, put together.
use Rattle.std.proofs.Common.{◌≡◌, ◌+◌, ◌<◌, [], ◌∷◌, ◌∙◌, List, add-one, ap, drop, drop-cons, get_or, length, refl}
use Rattle.std.proofs.Common.{subst, suc, sym, ℕ}
use Rattle.std.specs.Prelude.{Result, Ok, Err}
use Rattle.html_lexemes.specs.declared.names.Attribute.{Attribute}
use Rattle.tree_serializer.specs.Calls.{Call, Reply, finish, refused, reply_of, start}
use Rattle.tree_serializer.specs.Emitted.{IsEmitted, further, cut, out_of_memory}
use Rattle.tree_serializer.specs.declared.fault.SerializeFault.{SerializeFault}
use Rattle.tree_serializer.specs.declared.fault.SerializeFault.TheVariants.{Memory}
use Rattle.document_laws.specs.Contents.{Content, span}
use Rattle.document_laws.specs.Planted.{of_html}
use Rattle.written_document_laws.specs.Emissions.{calls_and}
use Rattle.article_writing.specs.Emits.{Emits}

err_same : {A : Type 0} {r : Result A SerializeFault} {a b : SerializeFault} → r ≡ Err a → r ≡ Err b → a ≡ b
err_same e f = cc

module _ {S : Type 0} (means : S → Call → Reply → S → Type 0) where
  -- no memory, before anything is emitted
  pub none_emitted : {X A : Type 0} (s : S) (first others : X → List Call) (r : Result A SerializeFault)
      (fault : SerializeFault) → r ≡ Err fault → fault ≡ Memory → Emits means s s r first others
  none_emitted s first others (Ok value) fault e f = cc
  none_emitted s first others (Err other) fault e f =
      λ x. subst (λ o. IsEmitted means s (first x) (refused o) s) (sym (err_same refl e ∙ f))
      (out_of_memory s (first x))

  -- one call
  pub one_emitted : {X A : Type 0} (s t : S) (call : Call) (others : X → List Call) (r : Result A SerializeFault) →
      means s call (reply_of r) t → Emits means s t r (λ x. call ∷ others x) others
  one_emitted s t call others (Ok value) emitted =
      λ x reply end rest. further s t call (others x) reply end emitted rest
  one_emitted s t call others (Err fault) emitted = λ x. cut s t call (others x) fault emitted

  -- after what was emitted before
  pub then_emitted : {X Y A B : Type 0} (s t u : S) (a : Result A SerializeFault) (value : A)
      (r : Result B SerializeFault)
      (first others : X → List Call) (rest : Y → List Call) (at : Y → X) → a ≡ Ok value →
      Emits means s t a first others → Emits means t u r (λ y. others (at y)) rest →
      Emits means s u r (λ y. first (at y)) rest
  then_emitted s t u (Ok a) value (Ok b) first others rest at is before emitted =
      λ y reply end h. before (at y) reply end (emitted y reply end h)
  then_emitted s t u (Ok a) value (Err fault) first others rest at is before emitted =
      λ y. before (at y) (refused fault) u (emitted y)
  then_emitted s t u (Err other) value r first others rest at is before emitted = cc

  -- a refusal is handed on
  pub handed_on : {X Y A B : Type 0} (s t : S) (a : Result A SerializeFault) (r : Result B SerializeFault)
      (fault other : SerializeFault) (first others : X → List Call) (rest : Y → List Call) (at : Y → X) →
      a ≡ Err fault → r ≡ Err other → other ≡ fault → Emits means s t a first others →
      Emits means s t r (λ y. first (at y)) rest
  handed_on s t (Ok a) r fault other first others rest at is same e emitted = cc
  handed_on s t (Err a) (Ok b) fault other first others rest at is same e emitted = cc
  handed_on s t (Err a) (Err b) fault other first others rest at is same e emitted =
      λ y. subst (λ o. IsEmitted means s (first (at y)) (refused o) t)
      (err_same refl is ∙ sym e ∙ sym (err_same refl same)) (emitted (at y))

  -- the same, said of other things
  pub reemitted : {X Y A : Type 0} (s t : S) (r : Result A SerializeFault) (first others : X → List Call)
      (whole left : Y → List Call) (at : Y → X) → ((y : Y) → whole y ≡ first (at y)) →
      ((y : Y) → left y ≡ others (at y)) → Emits means s t r first others → Emits means s t r whole left
  reemitted s t (Ok value) first others whole left at e f emitted =
      λ y reply end h. subst (λ l. IsEmitted means s l reply end) (sym (e y))
      (emitted (at y) reply end (subst (λ l. IsEmitted means t l reply end) (f y) h))
  reemitted s t (Err fault) first others whole left at e f emitted =
      λ y. subst (λ l. IsEmitted means s l (refused fault) t) (sym (e y)) (emitted (at y))

  pub element_emitted : {A : Type 0} (s t : S) (r : Result A SerializeFault) (name given : List ℕ)
      (attributes values : List Attribute) (kids inner rest whole : Content) → name ≡ given → attributes ≡ values →
      kids ≡ inner → whole ≡ span given values inner rest →
      Emits {X = List Call} means s t r
      (λ more. start (of_html name) attributes ∷ calls_and kids (finish (of_html name) ∷ more)) (λ more. more) →
      Emits {X = List Call} means s t r (λ more. calls_and whole more) (λ more. calls_and rest more)
  element_emitted s t r name given attributes values kids inner rest whole e f g h =
      reemitted s t r (λ more. start (of_html name) attributes ∷ calls_and kids (finish (of_html name) ∷ more))
      (λ more. more) (λ more. calls_and whole more) (λ more. calls_and rest more) (λ more. calls_and rest more)
      (λ more. ap (λ c. calls_and c more) h
      ∙ ap (λ n. start (of_html n) values ∷ calls_and inner (finish (of_html n) ∷ calls_and rest more)) (sym e)
      ∙ ap (λ vs. start (of_html name) vs ∷ calls_and inner (finish (of_html name) ∷ calls_and rest more)) (sym f)
      ∙ ap (λ ks. start (of_html name) attributes ∷ calls_and ks (finish (of_html name) ∷ calls_and rest more)) (sym g))
      (λ more. refl)

  -- ---- one after another

  module _ {A : Type 0} (calls : List A → List Call → List Call) (first : S) (every : List A) where
    -- what emits those that are left emits all
    abbrev pub IsLeft : S → ℕ → Type 0
    IsLeft now i = (more : List Call) (reply : Reply) (end : S) →
        IsEmitted means now (calls (drop i every) more) reply end → IsEmitted means first (calls every more) reply end

    first_of : (i : ℕ) (x : A) → i < length every → x ≡ get_or every i x → drop i every ≡ x ∷ drop (i + 1) every
    first_of i x h is = rw (add-one, drop-cons every i x h) (ap (λ y. y ∷ drop (suc i) every) (sym is))

    pub left_on : {B : Type 0} (now new : S) (i : ℕ) (x : A) (r : Result B SerializeFault) (value : B) → IsLeft now i →
        i < length every → x ≡ get_or every i x → r ≡ Ok value →
        ((rest : List A) → Emits {X = List Call} means now new r (λ more. calls (x ∷ rest) more)
        (λ more. calls rest more)) → IsLeft new (i + 1)
    left_on now new i x (Ok b) value left h is ok emitted = λ more reply end rest. left more reply end
        (subst (λ xs. IsEmitted means now (calls xs more) reply end) (sym (first_of i x h is))
        (emitted (drop (i + 1) every) more reply end rest))
    left_on now new i x (Err fault) value left h is ok emitted = cc

    pub left_err : {B C : Type 0} (now new : S) (i : ℕ) (x : A) (r : Result B SerializeFault)
        (outcome : Result C SerializeFault) (fault other : SerializeFault) → IsLeft now i →
        i < length every → x ≡ get_or every i x → r ≡ Err fault → outcome ≡ Err other → other ≡ fault →
        ((rest : List A) → Emits {X = List Call} means now new r (λ more. calls (x ∷ rest) more)
        (λ more. calls rest more)) →
        Emits {X = List Call} means first new outcome (λ more. calls every more) (λ more. more)
    left_err now new i x (Ok b) outcome fault other left h is err same e emitted = cc
    left_err now new i x (Err a) (Ok b) fault other left h is err same e emitted = cc
    left_err now new i x (Err a) (Err b) fault other left h is err same e emitted = λ more. left more (refused b) new
        (subst (λ xs. IsEmitted means now (calls xs more) (refused b) new) (sym (first_of i x h is))
        (subst (λ o. IsEmitted means now (calls (x ∷ drop (i + 1) every) more) (refused o) new)
        (err_same refl err ∙ sym e ∙ sym (err_same refl same)) (emitted (drop (i + 1) every) more)))

    pub left_end : {B : Type 0} (now : S) (i : ℕ) (value : B) → ((more : List Call) → calls [] more ≡ more) →
        IsLeft now i → drop i every ≡ [] →
        Emits {X = List Call} means first now (Ok value) (λ more. calls every more) (λ more. more)
    left_end now i value none left e = λ more reply end h. left more reply end
        (subst (λ xs. IsEmitted means now (calls xs more) reply end) (sym e)
        (subst (λ l. IsEmitted means now l reply end) (sym (none more)) h))
