-- Which events are well scoped, by example.
use Rattle.std.proofs.Common.{◌≡◌, ℕ, List, [], ◌∷◌, ◌++◌, arith, refl, sym, ap, ◌∙◌, subst}
use Rattle.cc_device.specs.Events.{Event, Entered, Ended, Exited, Follows, operated, entered, ended, exited, FollowsAll, no_event, then_event}
use Rattle.cc_device.specs.WorkedScopes.{ScopesThatFit, ScopesThatDoNotFit}

pub scopes_that_fit : ScopesThatFit
scopes_that_fit = (
  (_, then_event entered (then_event entered (then_event ended (then_event ended (then_event entered no_event))))),
  (_, then_event entered (then_event entered (then_event entered (then_event (exited (2 ∷ []) refl) (then_event ended no_event))))),
  (_, then_event entered (then_event operated (then_event ended no_event))),
)

-- what each event leaves
same_end : (label label' : ℕ) → Ended label ≡ Ended label' → label ≡ label'
same_end label label' e = cc

same_exit : (label label' : ℕ) → Exited label ≡ Exited label' → label ≡ label'
same_exit label label' e = cc

same_entry : (label label' : ℕ) → Entered label ≡ Entered label' → label ≡ label'
same_entry label label' e = cc

after_entry : {before after : List ℕ} {event : Event} → Follows before event after → (label : ℕ) → event ≡ Entered label → after ≡ label ∷ before
after_entry operated label e = cc
after_entry (entered {scopes = scopes} {label = own}) label e = ap (λ l. l ∷ scopes) (same_entry own label e)
after_entry ended label e = cc
after_entry (exited inner is) label e = cc

after_end : {before after : List ℕ} {event : Event} → Follows before event after → (label : ℕ) → event ≡ Ended label → before ≡ label ∷ after
after_end operated label e = cc
after_end entered label e = cc
after_end (ended {scopes = scopes} {label = own}) label e = ap (λ l. l ∷ scopes) (same_end own label e)
after_end (exited inner is) label e = cc

after_exit : {before after : List ℕ} {event : Event} → Follows before event after → (label : ℕ) → event ≡ Exited label → (inner : List ℕ) × (before ≡ inner ++ label ∷ after)
after_exit operated label e = cc
after_exit entered label e = cc
after_exit ended label e = cc
after_exit (exited inner {scopes = scopes} {label = own} is) label e = (inner, is ∙ ap (λ l. inner ++ l ∷ scopes) (same_exit own label e))

-- the first event, and the others
first_event : {before last : List ℕ} {all : List Event} → FollowsAll before all last → (event : Event) (events : List Event) → all ≡ event ∷ events
    → (next : List ℕ) × Follows before event next × FollowsAll next events last
first_event no_event event events is = cc
first_event {last = last} (then_event {scopes = before} {next = next} {event = own} {events = others} first rest) event events is =
    let same : own ≡ event = cc in
    let same_others : others ≡ events = cc in
    (next, subst (λ e. Follows before e next) same first, subst (λ es. FollowsAll next es last) same_others rest)

-- one event after another
enters : {before last : List ℕ} (label : ℕ) (events : List Event) → FollowsAll before (Entered label ∷ events) last → FollowsAll (label ∷ before) events last
enters {last = last} label events all =
    let at = first_event all (Entered label) events refl in
    subst (λ s. FollowsAll s events last) (after_entry at.1 label refl) at.2

ends : {before last : List ℕ} (label : ℕ) (events : List Event) → FollowsAll before (Ended label ∷ events) last → (after : List ℕ) × (before ≡ label ∷ after) × FollowsAll after events last
ends label events all =
    let at = first_event all (Ended label) events refl in
    (at.0, after_end at.1 label refl, at.2)

exits : {before last : List ℕ} (label : ℕ) (events : List Event) → FollowsAll before (Exited label ∷ events) last → (after inner : List ℕ) × (before ≡ inner ++ label ∷ after) × FollowsAll after events last
exits label events all =
    let at = first_event all (Exited label) events refl in
    let left = after_exit at.1 label refl in
    (at.0, left.0, left.1, at.2)

-- no scope is the first, or among none
other_first : (a b : ℕ) (xs ys : List ℕ) → a ∷ xs ≡ b ∷ ys → a ≡ b
other_first a b xs ys e = cc

later : (a b : ℕ) (xs ys : List ℕ) → a ∷ xs ≡ b ∷ ys → xs ≡ ys
later a b xs ys e = cc

not_in_none : (inner after : List ℕ) (label : ℕ) → [] ≡ inner ++ label ∷ after → ⊥
not_in_none [] after label e = cc
not_in_none (x ∷ inner) after label e = cc

-- the stack below the outermost of two
below_two : (inner after : List ℕ) → 1 ∷ 0 ∷ [] ≡ inner ++ 0 ∷ after → after ≡ []
below_two [] after e = absurd (let clash = other_first 1 0 (0 ∷ []) after e in omega arith)
below_two (x ∷ []) after e = sym (later 0 0 [] after (later 1 x (0 ∷ []) (0 ∷ after) e))
below_two (x ∷ y ∷ inner) after e = absurd (not_in_none inner after 0 (later 0 y [] (inner ++ 0 ∷ after) (later 1 x (0 ∷ []) (y ∷ inner ++ 0 ∷ after) e)))

nothing_first : (x : ℕ) (xs : List ℕ) → [] ≡ x ∷ xs → ⊥
nothing_first x xs e = cc

pub scopes_that_do_not_fit : ScopesThatDoNotFit
scopes_that_do_not_fit = (
  λ fits. let end = ends 0 [] fits.1 in nothing_first 0 end.0 end.1,
  λ fits. let exit = exits 0 [] fits.1 in not_in_none exit.1 exit.0 0 exit.2,
  λ fits.
      let end = ends 0 (Exited 0 ∷ []) (enters 0 (Ended 0 ∷ Exited 0 ∷ []) fits.1) in
      let exit = exits 0 [] end.2 in
      not_in_none exit.1 exit.0 0 (later 0 0 [] end.0 end.1 ∙ exit.2),
  λ fits.
      let end = ends 0 [] (enters 1 (Ended 0 ∷ []) (enters 0 (Entered 1 ∷ Ended 0 ∷ []) fits.1)) in
      let clash = other_first 1 0 (0 ∷ []) end.0 end.1 in
      absurd (omega arith),
  λ fits.
      let exit = exits 0 (Ended 1 ∷ []) (enters 1 (Exited 0 ∷ Ended 1 ∷ []) (enters 0 (Entered 1 ∷ Exited 0 ∷ Ended 1 ∷ []) fits.1)) in
      let end = ends 1 [] exit.3 in
      nothing_first 1 end.0 (sym (below_two exit.1 exit.0 exit.2) ∙ end.1),
)
