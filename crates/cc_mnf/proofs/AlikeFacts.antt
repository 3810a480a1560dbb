-- Steps that come to the like: both are refused with the same code, or both find values that are related, with as many
-- holes.
use Rattle.std.proofs.Common.{◌≡◌, ℕ, zero, Option, Some, None, refl, subst}
use Rattle.cc_base.specs.declared.code.Code.{Code}
use Rattle.cc_base.specs.declared.place.Place.{Place}
use Rattle.cc_mnf.specs.Steps.{ElaborationOutcome, Refused, Found, Step, goes_on, followed, gives, refuses, or_refused, new_hole, with_own_holes}

abbrev pub AreAlike : {A B : Type 0} → (A → B → Type 0) → ElaborationOutcome A → ElaborationOutcome B → Type 0
AreAlike R (Refused code at) (Refused other there) = code ≡ other
AreAlike R (Refused code at) (Found w holes) = ⊥
AreAlike R (Found v holes) (Refused other there) = ⊥
AreAlike R (Found v holes) (Found w others) = R v w × (holes ≡ others)

pub record Alike {A B : Type 0} (R : A → B → Type 0) (one : Step A) (other : Step B) : Type 0 where
  pub alike : (holes : ℕ) → AreAlike R (one holes) (other holes)

go_on_alike : {A B C D : Type 0} (R : A → B → Type 0) (S : C → D → Type 0) (next : A → Step C) (more : B → Step D)
    (o : ElaborationOutcome A) (p : ElaborationOutcome B) → AreAlike R o p → ((v : A) (w : B) → R v w → Alike S (next v) (more w))
    → AreAlike S (goes_on next o) (goes_on more p)
go_on_alike R S next more (Refused code at) (Refused other there) h n = h
go_on_alike R S next more (Refused code at) (Found w holes) h n = absurd h
go_on_alike R S next more (Found v holes) (Refused other there) h n = absurd h
go_on_alike R S next more (Found v holes) (Found w others) h n =
    subst (λ k. AreAlike S (next v holes) (more w k)) h.1 ((n v w h.0).alike holes)

-- alike steps, and what follows for their values
pub then_alike : {A B C D : Type 0} {R : A → B → Type 0} {S : C → D → Type 0} {one : Step A} {other : Step B}
    {next : A → Step C} {more : B → Step D} → Alike R one other
    → ((v : A) (w : B) → R v w → Alike S (next v) (more w)) → Alike S (followed one next) (followed other more)
unfolding followed
then_alike {R = R} {S = S} {one = one} {other = other} {next = next} {more = more} h n =
    record { alike = λ holes. go_on_alike R S next more (one holes) (other holes) (h.alike holes) n }

pub give_alike : {A B : Type 0} {R : A → B → Type 0} (v : A) (w : B) → R v w → Alike R (gives v) (gives w)
unfolding gives
give_alike v w h = record { alike = λ holes. (h, refl) }

pub refuse_alike : {A B : Type 0} {R : A → B → Type 0} (code : Code) (at there : Place)
    → Alike {A = A} {B = B} R (refuses code at) (refuses code there)
unfolding refuses
refuse_alike code at there = record { alike = λ holes. refl }

pub or_refused_alike : {A : Type 0} (code : Code) (at there : Place) (o p : Option A) → o ≡ p
    → Alike (λ v w. v ≡ w) (or_refused code at o) (or_refused code there p)
or_refused_alike code at there (Some v) (Some w) e = give_alike v w (cc)
or_refused_alike code at there None None e = refuse_alike code at there
or_refused_alike code at there (Some v) None e = cc
or_refused_alike code at there None (Some w) e = cc

pub new_holes_alike : Alike (λ v w. v ≡ w) new_hole new_hole
unfolding new_hole
new_holes_alike = record { alike = λ holes. (refl, refl) }

own_holes_come_alike : {A B : Type 0} (R : A → B → Type 0) (holes : ℕ) (o : ElaborationOutcome A) (p : ElaborationOutcome B) → AreAlike R o p
    → AreAlike R (goes_on (λ v inner. Found v holes) o) (goes_on (λ v inner. Found v holes) p)
own_holes_come_alike R holes (Refused code at) (Refused other there) h = h
own_holes_come_alike R holes (Refused code at) (Found w n) h = absurd h
own_holes_come_alike R holes (Found v n) (Refused other there) h = absurd h
own_holes_come_alike R holes (Found v n) (Found w m) h = (h.0, refl)

pub own_holes_alike : {A B : Type 0} {R : A → B → Type 0} {one : Step A} {other : Step B} → Alike R one other
    → Alike R (with_own_holes one) (with_own_holes other)
unfolding with_own_holes
own_holes_alike {R = R} {one = one} {other = other} h =
    record { alike = λ holes. own_holes_come_alike R holes (one zero) (other zero) (h.alike zero) }
