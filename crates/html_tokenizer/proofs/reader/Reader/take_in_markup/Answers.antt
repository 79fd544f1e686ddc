use Rattle.std.proofs.Common.{◌≡◌, Bool, IfSome, MatchOption, ap, sym, ◌∙◌, ◌∷◌, string_bytes, subst}
use Rattle.std.specs.Str.{chars}
use Rattle.token_grammar.specs.Items.{characters}
use Rattle.token_grammar.specs.declared.modes.Mode.{Mode}
use Rattle.html_tokenizer.specs.Advances.{Advances, StaysWithinKind}
use Rattle.token_states.specs.PlaceKinds.{IsNoMarkup, IsPlaceOf, IsWithinMarkup}
use Rattle.html_tokenizer.specs.declared.pending.Pending.{Pending}
use Rattle.token_states.specs.declared.place.LexemeState.TheVariants.{MarkupDeclarationOpen}
use Rattle.html_tokenizer.proofs.RawReads.{in_section}
use Rattle.html_tokenizer.proofs.ReadsLemmas.{leaves_same, on_ok_map}
use Rattle.html_tokenizer.proofs.EmitsLemmas.{asks_after, if_ok_map, emits_then}
use Rattle.html_tokenizer.proofs.reader.Reader.take_in_markup.Goals as goal

pub returns-in-Some-clause-reads : goal.returns-in-Some-clause-reads
returns-in-Some-clause-reads g c =
    let r = c.args.self.now in
    let now = c.is_foreign.new.self in
    let after = c.take.new.self in
    let table = c.args.table.now in
    let s = g.S.TokenSink.means.step (g.S.TokenSink.state c.args.sink.now) (characters (chars (string_bytes r.run))) in
    let t = g.S.TokenSink.means.step (g.S.TokenSink.state c.is_foreign.new.sink)
    (characters (chars (string_bytes now.run))) in
    let same = c.in_ok-foreign.ensures.state in
    let known =
    subst (λ o. MatchOption o (IsNoMarkup now.pending.place × (after ≡ now.pending))
    (λ advance. (asked : Bool) (mode : Mode) →
    (now.pending.place ≡ MarkupDeclarationOpen → asked ≡ c.in_ok-foreign.foreign) →
    Advances table asked mode now.pending.place (chars (string_bytes now.pending.held)) c.args.c advance after.place
    (chars (string_bytes after.held)))) c.in-Some.is c.in_ok-advance.ensures.advance in
    let asked_for =
    λ (e : now.pending.place ≡ MarkupDeclarationOpen). ap g.S.TokenSink.means.foreign same ∙
    c.in_ok-foreign.ensures.foreign (sym (ap (λ (p : Pending). p.place) c.is_foreign.ensures.pending) ∙ e) in
    on_ok_map c.advance.result c.advance.ensures.reads (λ f rest final l.
    leaves_same table g.S.TokenSink.means r.mode now.mode r.pending now.pending (c.args.c
    ∷ rest) s t final c.is_foreign.ensures.mode c.is_foreign.ensures.pending same
    (f now.pending.place (chars (string_bytes now.pending.held))
    (known (g.S.TokenSink.means.foreign t) now.mode asked_for) rest final l))

pub take_in_section-requires-clause-place : goal.take_in_section-requires-clause-place
take_in_section-requires-clause-place g c =
    let now = c.is_foreign.new.self in
    let after = c.take.new.self in
    let known =
    subst (λ o. MatchOption o (IsNoMarkup now.pending.place × (after ≡ now.pending))
    (λ advance. (asked : Bool) (mode : Mode) →
    (now.pending.place ≡ MarkupDeclarationOpen → asked ≡ c.in_ok-foreign.foreign) →
    Advances c.args.table.now asked mode now.pending.place
    (chars (string_bytes now.pending.held)) c.args.c advance after.place (chars (string_bytes after.held))))
    c.in-None.is c.in_ok-advance.ensures.advance in
    ap (λ (p : Pending). p.place) known.1 ∙ in_section now.pending.place
    (subst (λ (p : Pending). IsWithinMarkup p.place) (sym c.is_foreign.ensures.pending) c.requires.place) known.0

pub returns-in_ok-take_in_section-in-None-clause-reads : goal.returns-in_ok-take_in_section-in-None-clause-reads
returns-in_ok-take_in_section-in-None-clause-reads g c = λ rest final l.
    let r = c.args.self.now in
    let now = c.is_foreign.new.self in
    let after = c.take.new.self in
    let table = c.args.table.now in
    let s = g.S.TokenSink.means.step (g.S.TokenSink.state c.args.sink.now) (characters (chars (string_bytes r.run))) in
    let t = g.S.TokenSink.means.step (g.S.TokenSink.state c.is_foreign.new.sink)
    (characters (chars (string_bytes now.run))) in
    let known =
    subst (λ o. MatchOption o (IsNoMarkup now.pending.place × (after ≡ now.pending))
    (λ advance. (asked : Bool) (mode : Mode) →
    (now.pending.place ≡ MarkupDeclarationOpen → asked ≡ c.in_ok-foreign.foreign) →
    Advances table asked mode now.pending.place (chars (string_bytes now.pending.held)) c.args.c advance after.place
    (chars (string_bytes after.held)))) c.in-None.is c.in_ok-advance.ensures.advance in
    leaves_same table g.S.TokenSink.means r.mode now.mode r.pending after (c.args.c
    ∷ rest) s t final c.is_foreign.ensures.mode
    (known.1 ∙ c.is_foreign.ensures.pending) c.in_ok-foreign.ensures.state
    (c.in_ok-take_in_section-in-None.ensures.reads table rest final l)

pub returns-in-Some-clause-holds : goal.returns-in-Some-clause-holds
returns-in-Some-clause-holds g c =
    let now = c.is_foreign.new.self in
    let after = c.take.new.self in
    let t = g.S.TokenSink.means.step (g.S.TokenSink.state c.is_foreign.new.sink)
    (characters (chars (string_bytes now.run))) in
    let known =
    subst (λ o. MatchOption o (IsNoMarkup now.pending.place × (after ≡ now.pending))
    (λ advance. (asked : Bool) (mode : Mode) →
    (now.pending.place ≡ MarkupDeclarationOpen → asked ≡ c.in_ok-foreign.foreign) →
    Advances c.args.table.now asked mode now.pending.place
    (chars (string_bytes now.pending.held)) c.args.c advance after.place (chars (string_bytes after.held))))
    c.in-Some.is c.in_ok-advance.ensures.advance in
    let asked_for =
    λ (e : now.pending.place ≡ MarkupDeclarationOpen).
    ap g.S.TokenSink.means.foreign c.in_ok-foreign.ensures.state ∙ c.in_ok-foreign.ensures.foreign
    (sym (ap (λ (p : Pending). p.place) c.is_foreign.ensures.pending) ∙ e) in
    on_ok_map c.advance.result c.advance.ensures.holds
    (λ f. f (g.S.TokenSink.means.foreign t) now.pending.place (chars (string_bytes now.pending.held))
    (known (g.S.TokenSink.means.foreign t) now.mode asked_for))

pub returns-in-Some-clause-asks : goal.returns-in-Some-clause-asks
returns-in-Some-clause-asks g c =
    let now = c.is_foreign.new.self in
    let after = c.take.new.self in
    let t = g.S.TokenSink.means.step (g.S.TokenSink.state c.is_foreign.new.sink)
    (characters (chars (string_bytes now.run))) in
    let known =
    subst (λ o. MatchOption o (IsNoMarkup now.pending.place × (after ≡ now.pending))
    (λ advance. (asked : Bool) (mode : Mode) →
    (now.pending.place ≡ MarkupDeclarationOpen → asked ≡ c.in_ok-foreign.foreign) →
    Advances c.args.table.now asked mode now.pending.place
    (chars (string_bytes now.pending.held)) c.args.c advance after.place (chars (string_bytes after.held))))
    c.in-Some.is c.in_ok-advance.ensures.advance in
    let asked_for =
    λ (e : now.pending.place ≡ MarkupDeclarationOpen).
    ap g.S.TokenSink.means.foreign c.in_ok-foreign.ensures.state ∙ c.in_ok-foreign.ensures.foreign
    (sym (ap (λ (p : Pending). p.place) c.is_foreign.ensures.pending) ∙ e) in
    if_ok_map c.advance.result c.advance.ensures.asks (λ pause f.
    asks_after g.S.TokenSink.means pause (g.S.TokenSink.state c.args.sink.now)
    (g.S.TokenSink.state c.is_foreign.new.sink)
    (g.S.TokenSink.state c.advance.new.sink) c.in_ok-foreign.ensures.emits
    (f now.pending.place (chars (string_bytes now.pending.held))
    (known (g.S.TokenSink.means.foreign t) now.mode asked_for)))

pub returns-in-Some-clause-greater : goal.returns-in-Some-clause-greater
returns-in-Some-clause-greater g c =
    let now = c.is_foreign.new.self in
    let after = c.take.new.self in
    let t = g.S.TokenSink.means.step (g.S.TokenSink.state c.is_foreign.new.sink)
    (characters (chars (string_bytes now.run))) in
    let known =
    subst (λ o. MatchOption o (IsNoMarkup now.pending.place × (after ≡ now.pending))
    (λ advance. (asked : Bool) (mode : Mode) →
    (now.pending.place ≡ MarkupDeclarationOpen → asked ≡ c.in_ok-foreign.foreign) →
    Advances c.args.table.now asked mode now.pending.place
    (chars (string_bytes now.pending.held)) c.args.c advance after.place (chars (string_bytes after.held))))
    c.in-Some.is c.in_ok-advance.ensures.advance in
    let asked_for =
    λ (e : now.pending.place ≡ MarkupDeclarationOpen).
    ap g.S.TokenSink.means.foreign c.in_ok-foreign.ensures.state ∙ c.in_ok-foreign.ensures.foreign
    (sym (ap (λ (p : Pending). p.place) c.is_foreign.ensures.pending) ∙ e) in
    if_ok_map c.advance.result c.advance.ensures.greater (λ pause f.
    f now.pending.place (chars (string_bytes now.pending.held))
    (known (g.S.TokenSink.means.foreign t) now.mode asked_for))

pub returns-in_ok-take_in_section-in-None-clause-asks : goal.returns-in_ok-take_in_section-in-None-clause-asks
returns-in_ok-take_in_section-in-None-clause-asks g c =
    emits_then g.S.TokenSink.means (g.S.TokenSink.state c.args.sink.now) (g.S.TokenSink.state c.is_foreign.new.sink)
    (g.S.TokenSink.state c.take_in_section.new.sink)
    c.in_ok-foreign.ensures.emits c.in_ok-take_in_section-in-None.ensures.emits

pub advance-requires-clause-placed : goal.advance-requires-clause-placed
advance-requires-clause-placed g c =
    let r = c.args.self.now in
    let now = c.is_foreign.new.self in
    let after = c.take.new.self in
    let known =
    subst (λ o. IfSome o (λ advance. StaysWithinKind now.pending.place advance after.place)) c.in-Some.is
    c.in_ok-advance.ensures.kind in
    known now.mode.text (subst (λ (p : Pending). IsPlaceOf now.mode.text p.place) (sym c.is_foreign.ensures.pending)
    (subst (λ (m : Mode). IsPlaceOf m.text r.pending.place) (sym c.is_foreign.ensures.mode) c.requires.placed))

pub take_in_section-requires-clause-kind : goal.take_in_section-requires-clause-kind
take_in_section-requires-clause-kind g c =
    let r = c.args.self.now in
    let now = c.is_foreign.new.self in
    let after = c.take.new.self in
    let known =
    subst (λ o. MatchOption o (IsNoMarkup now.pending.place × (after ≡ now.pending))
    (λ advance. (asked : Bool) (mode : Mode) →
    (now.pending.place ≡ MarkupDeclarationOpen → asked ≡ c.in_ok-foreign.foreign) →
    Advances c.args.table.now asked mode now.pending.place
    (chars (string_bytes now.pending.held)) c.args.c advance after.place (chars (string_bytes after.held))))
    c.in-None.is c.in_ok-advance.ensures.advance in
    let at = in_section now.pending.place (subst (λ (p : Pending). IsWithinMarkup p.place)
    (sym c.is_foreign.ensures.pending) c.requires.place) known.0 in
    let placed =
    subst (λ (p : Pending). IsPlaceOf now.mode.text p.place) (sym c.is_foreign.ensures.pending)
    (subst (λ (m : Mode). IsPlaceOf m.text r.pending.place) (sym c.is_foreign.ensures.mode) c.requires.placed)
    in
    subst (IsPlaceOf now.mode.text) at placed
